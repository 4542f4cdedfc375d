-- Rows in order by the numbers that they have.
use Rattle.std.proofs.lemmas.Bool.{leb-true, leb-false}
use Rattle.std.proofs.Common.{min, leb, true≢false, subst, ◌≡◌, ◌≢◌, ◌+◌, ◌<◌, ◌≤◌, ◌⊎◌, inl, inr, get_or, drop, ℕ, ℤ, Bool, true, false, ◌&&◌, ◌||◌, cond, List, [], ◌∷◌, length, map, refl, sym, ap, ◌∙◌, arith}
use Rattle.std.specs.Prelude.{int_lt}
use Rattle.std.specs.Ordering.{int_eq}
use Rattle.std.specs.Cmp.{IsStrictWeakOrder}
use Rattle.std.proofs.lemmas.List.{drop_all, drop_more}
use Rattle.std.proofs.lemmas.Bool.Decides.{Decides-int_eq}
use Rattle.std.proofs.lemmas.Int.{ints}
use Rattle.bench_rules.specs.Sorted.{is_in_front, are_in_front, put_in_order, in_order}
use Rattle.bench_rules.proofs.InOrderLemmas.{put, ordered}

-- rows that are those of a list's items stand in order as these do
module _ (falls : List Bool) {X : Type 0} (row : X → ℕ × List ℤ) where
  -- an item whose row is in front
  abbrev pub is_before : X → X → Bool
  is_before x y = are_in_front falls (row x).1 (row y).1

  map-cond : (b : Bool) (xs ys : List X) → cond b (map row xs) (map row ys) ≡ map row (cond b xs ys)
  map-cond true xs ys = refl
  map-cond false xs ys = refl

  put-rows : (x : X) (ys : List X) → put_in_order falls (row x) (map row ys) ≡ map row (put is_before x ys)
  put-rows x [] = refl
  put-rows x (y ∷ ys) =
      ap (λ l. cond (is_before y x) (row y ∷ l) (row x ∷ row y ∷ map row ys)) (put-rows x ys) ∙ map-cond (is_before y x) (y ∷ put is_before x ys) (x ∷ y ∷ ys)

  pub rows-ordered : (xs : List X) → in_order falls (map row xs) ≡ map row (ordered is_before xs)
  rows-ordered [] = refl
  rows-ordered (x ∷ xs) = ap (put_in_order falls (row x)) (rows-ordered xs) ∙ put-rows x (ordered is_before xs)

-- ---- numbers that rise or fall

-- a test by which one of two numbers that differ is in front of the other
record IsLine (g : ℤ → ℤ → Bool) : Type 0 where
  one_way : (x y : ℤ) → g x y ≡ true → g y x ≡ false
  total : (x y : ℤ) → g x y ≡ false → g y x ≡ false → x ≡ y
  onward : (x y z : ℤ) → g x y ≡ true → g y z ≡ true → g x z ≡ true

less-one_way : (x y : ℤ) → int_lt x y ≡ true → int_lt y x ≡ false
less-one_way x y e = grind (arith, ints)

less-total : (x y : ℤ) → int_lt x y ≡ false → int_lt y x ≡ false → x ≡ y
less-total x y e f = grind (arith, ints)

less-onward : (x y z : ℤ) → int_lt x y ≡ true → int_lt y z ≡ true → int_lt x z ≡ true
less-onward x y z e f = grind (arith, ints)

line : (falls : Bool) → IsLine (is_in_front falls)
line false = record { one_way = less-one_way; total = less-total; onward = less-onward }
line true = record { one_way = λ x y e. less-one_way y x e; total = λ x y e f. less-total x y f e; onward = λ x y z e f. less-onward z y x f e }

equal : (x y : ℤ) → int_eq x y ≡ true → x ≡ y
equal x y = (Decides-int_eq x y).0

unequal : (x y : ℤ) → x ≢ y → int_eq x y ≡ false
unequal x y ne = by (int_eq x y) refl
  where
    by : (b : Bool) → int_eq x y ≡ b → int_eq x y ≡ false
    by true e = absurd (ne (equal x y e))
    by false e = e

or-nothing : (b : Bool) → (b || false) ≡ b
or-nothing true = refl
or-nothing false = refl

-- numbers of which one is in front are not equal
module _ (g : ℤ → ℤ → Bool) (l : IsLine g) where
  not-itself : (x : ℤ) → g x x ≡ false
  not-itself x = by (g x x) refl
    where
      by : (b : Bool) → g x x ≡ b → g x x ≡ false
      by true e = l.one_way x x e
      by false e = e

  apart : (x y : ℤ) → g x y ≡ true → int_eq x y ≡ false
  apart x y e = by (int_eq x y) refl
    where
      by : (b : Bool) → int_eq x y ≡ b → int_eq x y ≡ false
      by true is = let same : x ≡ y = equal x y is in absurd (true≢false (sym e ∙ (ap (λ z. g x z) (sym same) ∙ not-itself x)))
      by false is = is

  apart-back : (x y : ℤ) → g y x ≡ true → int_eq x y ≡ false
  apart-back x y e = by (int_eq x y) refl
    where
      by : (b : Bool) → int_eq x y ≡ b → int_eq x y ≡ false
      by true is = let same : x ≡ y = equal x y is in absurd (true≢false (sym e ∙ (ap (λ z. g z x) (sym same) ∙ not-itself x)))
      by false is = is

  -- a number behind another one, whatever follows them
  behind : (x y : ℤ) (r : Bool) → g y x ≡ true → (g x y || (int_eq x y && r)) ≡ false
  behind x y r e = rw (l.one_way y x e, apart-back x y e) refl

  -- equal numbers leave it to what follows
  level : (x : ℤ) (r : Bool) → (g x x || (int_eq x x && r)) ≡ r
  level x r = let same : int_eq x x ≡ true = (Decides-int_eq x x).1 refl in rw (not-itself x, same) refl

  -- two numbers of which the first is not in front: it is behind the second, or they are equal
  data Stands (x y : ℤ) : Type 0 where
    after : g y x ≡ true → Stands x y
    same : x ≡ y → Stands x y

  stands : (x y : ℤ) (r : Bool) → (g x y || (int_eq x y && r)) ≡ false → Stands x y
  stands x y r e = by (g x y) (g y x) refl refl
    where
      by : (b c : Bool) → g x y ≡ b → g y x ≡ c → Stands x y
      by true c is back = let no : true ≡ false = rw is at e in absurd (true≢false no)
      by false true is back = after back
      by false false is back = same (l.total x y is back)

  step-back : (x y : ℤ) (r s : Bool) → (r ≡ true → s ≡ false) → (g x y || (int_eq x y && r)) ≡ true → (g y x || (int_eq y x && s)) ≡ false
  step-back x y r s h e = by (g x y) (int_eq x y) refl refl
    where
      by : (b c : Bool) → g x y ≡ b → int_eq x y ≡ c → (g y x || (int_eq y x && s)) ≡ false
      by true c is eq = behind y x s is
      by false true is eq =
          let one : x ≡ y = equal x y eq in
          let after_it : r ≡ true = rw (is, eq) at e in
          subst (λ z. (g z x || (int_eq z x && s)) ≡ false) one (level x s ∙ h after_it)
      by false false is eq = let no : false ≡ true = rw (is, eq) at e in absurd (true≢false (sym no))

  step-on : (x y z : ℤ) (r s t : Bool) → (r ≡ false → s ≡ false → t ≡ false) → (g x y || (int_eq x y && r)) ≡ false → (g y z || (int_eq y z && s)) ≡ false → (g x z || (int_eq x z && t)) ≡ false
  step-on x y z r s t h e f = by (stands x y r e) (stands y z s f)
    where
      by : Stands x y → Stands y z → (g x z || (int_eq x z && t)) ≡ false
      by (after a) (after b) = behind x z t (l.onward z y x b a)
      by (after a) (same b) = behind x z t (ap (λ w. g w x) (sym b) ∙ a)
      by (same a) (after b) = behind x z t (ap (λ w. g z w) a ∙ b)
      by (same a) (same b) =
          let first : r ≡ false = sym (level x r) ∙ (ap (λ w. g x w || (int_eq x w && r)) a ∙ e) in
          let second : s ≡ false = sym (level y s) ∙ (ap (λ w. g y w || (int_eq y w && s)) b ∙ f) in
          subst (λ w. (g x w || (int_eq x w && t)) ≡ false) (a ∙ b) (level x t ∙ h first second)

-- ---- rows of one length

one-way : (falls : List Bool) (xs ys : List ℤ) → are_in_front falls xs ys ≡ true → are_in_front falls ys xs ≡ false
one-way [] xs ys e = absurd cc
one-way (f ∷ fs) [] ys e = absurd cc
one-way (f ∷ fs) (x ∷ xs) [] e = absurd cc
one-way (f ∷ fs) (x ∷ xs) (y ∷ ys) e = step-back (is_in_front f) (line f) x y (are_in_front fs xs ys) (are_in_front fs ys xs) (one-way fs xs ys) e

onward : (falls : List Bool) (xs ys zs : List ℤ) → length xs ≡ length ys → length ys ≡ length zs → are_in_front falls xs ys ≡ false → are_in_front falls ys zs ≡ false → are_in_front falls xs zs ≡ false
onward [] xs ys zs m n e f = refl
onward (g ∷ gs) [] ys zs m n e f = refl
onward (g ∷ gs) (x ∷ xs) ys [] m n e f = refl
onward (g ∷ gs) (x ∷ xs) [] (z ∷ zs) m n e f = absurd (omega arith)
onward (g ∷ gs) (x ∷ xs) (y ∷ ys) (z ∷ zs) m n e f =
    step-on (is_in_front g) (line g) x y z (are_in_front gs xs ys) (are_in_front gs ys zs) (are_in_front gs xs zs) (onward gs xs ys zs (omega arith) (omega arith)) e f

-- items with rows of one length are in a weak order by them
pub rows-weak : {X : Type 0} (falls : List Bool) (row : X → ℕ × List ℤ) (width : ℕ) → ((x : X) → length (row x).1 ≡ width) → IsStrictWeakOrder (is_before falls row)
rows-weak falls row width wide = record {
  one_way = λ x y e. one-way falls (row x).1 (row y).1 e;
  chain = λ x y z e f. onward falls (row x).1 (row y).1 (row z).1 (wide x ∙ sym (wide y)) (wide y ∙ sym (wide z)) e f;
}

-- ---- numbers compared one after another

front-no-numbers : (fs : List Bool) (ys : List ℤ) → are_in_front fs [] ys ≡ false
front-no-numbers [] ys = refl
front-no-numbers (f ∷ fs) ys = refl

front-no-others : (fs : List Bool) (xs : List ℤ) → are_in_front fs xs [] ≡ false
front-no-others [] xs = refl
front-no-others (f ∷ fs) [] = refl
front-no-others (f ∷ fs) (x ∷ xs) = refl

-- what is left from number k on
abbrev pub front_from : ℕ → List Bool → List ℤ → List ℤ → Bool
front_from k fs xs ys = are_in_front (drop k fs) (drop k xs) (drop k ys)

-- nothing is left where one of the lists ends
pub front-ends : (k : ℕ) (fs : List Bool) (xs ys : List ℤ) → (length fs ≤ k) ⊎ ((length xs ≤ k) ⊎ (length ys ≤ k)) → front_from k fs xs ys ≡ false
front-ends k fs xs ys (inl h) = ap (λ l. are_in_front l (drop k xs) (drop k ys)) (drop_all k fs h)
front-ends k fs xs ys (inr (inl h)) = ap (λ l. are_in_front (drop k fs) l (drop k ys)) (drop_all k xs h) ∙ front-no-numbers (drop k fs) (drop k ys)
front-ends k fs xs ys (inr (inr h)) = ap (λ l. are_in_front (drop k fs) (drop k xs) l) (drop_all k ys h) ∙ front-no-others (drop k fs) (drop k xs)

-- one number more
module _ (k : ℕ) (fs : List Bool) (xs ys : List ℤ) (b : Bool) (d e : ℤ) (a_in : k < length fs) (b_in : k < length xs) (c_in : k < length ys) where
  front-step : front_from k fs xs ys ≡ (is_in_front (get_or fs k b) (get_or xs k d) (get_or ys k e) || (int_eq (get_or xs k d) (get_or ys k e) && front_from (k + 1) fs xs ys))
  front-step =
      ap (λ l. are_in_front l (drop k xs) (drop k ys)) (drop_more fs k b a_in)
      ∙ ap (λ l. are_in_front (get_or fs k b ∷ drop (k + 1) fs) l (drop k ys)) (drop_more xs k d b_in)
      ∙ ap (λ l. are_in_front (get_or fs k b ∷ drop (k + 1) fs) (get_or xs k d ∷ drop (k + 1) xs) l) (drop_more ys k e c_in)

  -- equal numbers leave it to those behind them, and others tell
  pub front-equal : get_or xs k d ≡ get_or ys k e → front_from k fs xs ys ≡ front_from (k + 1) fs xs ys
  front-equal one =
      front-step
      ∙ ap (λ z. is_in_front (get_or fs k b) (get_or xs k d) z || (int_eq (get_or xs k d) z && front_from (k + 1) fs xs ys)) (sym one)
      ∙ level (is_in_front (get_or fs k b)) (line (get_or fs k b)) (get_or xs k d) (front_from (k + 1) fs xs ys)

  pub front-told : get_or xs k d ≢ get_or ys k e → front_from k fs xs ys ≡ is_in_front (get_or fs k b) (get_or xs k d) (get_or ys k e)
  front-told ne =
      front-step
      ∙ ap (λ r. is_in_front (get_or fs k b) (get_or xs k d) (get_or ys k e) || (r && front_from (k + 1) fs xs ys)) (unequal (get_or xs k d) (get_or ys k e) ne)
      ∙ or-nothing (is_in_front (get_or fs k b) (get_or xs k d) (get_or ys k e))

-- one of three lists ends where the shortest does
pub one-ends : (a b c k : ℕ) → min (min a b) c ≤ k → (a ≤ k) ⊎ ((b ≤ k) ⊎ (c ≤ k))
one-ends a b c k h = by (leb a k) (leb b k) refl refl
  where
    by : (p q : Bool) → leb a k ≡ p → leb b k ≡ q → (a ≤ k) ⊎ ((b ≤ k) ⊎ (c ≤ k))
    by true q e f = inl (leb-true a k e)
    by false true e f = inr (inl (leb-true b k f))
    by false false e f = inr (inr (omega (arith, leb-false a k e, leb-false b k f, h)))
