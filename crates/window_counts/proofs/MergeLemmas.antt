-- Two lists that rise, in one.
use Rattle.std.specs.Prelude.{◌≡◌, ℕ, ◌+◌, ◌<◌, Bool, true, false, cond, if◌then◌else◌, List, [], ◌∷◌, ◌++◌, ◌-◌, length, map, take, drop, get_or, All, unwrap_or, Some, refl}
use Rattle.std.proofs.Common.{arith, sym, ap, ap₂, ◌∙◌, drop-cons, add-one, inl, inr}
use Rattle.std.proofs.lemmas.Bool.{cases_lt}
use Rattle.std.proofs.lemmas.List.{append_assoc, map-append, take_all, length-drop}
use Rattle.std.specs.List.{AllByRecursion}
use Rattle.std.specs.List.Sorted.{IsStrictlySortedBy}
use Rattle.std.specs.Ordering.{is_eq, is_lt, ordering_reverse}
use Rattle.std.specs.Cmp.{IsTotalOrder, tied_itself}
use Rattle.std.specs.Map.{lookup, keys_of, values_of}
use Rattle.std.specs.BTreeMap.{is_at}
use Rattle.std.specs.declared.cmp.Ordering.{Ordering}
use Rattle.std.specs.declared.cmp.Ordering.TheVariants.{Less, Equal, Greater}
use Rattle.std.proofs.lemmas.List.Elements.{All-cons, All-head, All-tail}
use Rattle.key_counts.specs.Counts.{count_of}
use Rattle.key_counts.specs.Rising.{Shows}
use Rattle.window_counts.specs.Window.{is_first, merge, merge_step}

-- the items from one on
pub all_left : {X : Type 0} (xs : List X) (i : ℕ) → take (length xs - i) (drop i xs) ≡ drop i xs
all_left xs i = take_all (length xs - i) (drop i xs) (omega (arith, length-drop i xs))

-- what is put behind a list is seen behind it
pub put_behind : {T X : Type 0} (seen : T → X) (old new : List T) (x : T) (e : X) → new ≡ old ++ x ∷ [] → seen x ≡ e → map seen new ≡ map seen old ++ e ∷ []
put_behind seen old new x e put is = ap (map seen) put ∙ map-append seen old (x ∷ []) ∙ ap (λ y. map seen old ++ y ∷ []) is

module _ {K : Type 0} (cmp : K → K → Ordering) where
  -- the next entry
  pub merge-first : (x : K × ℕ) (xs ys : List (K × ℕ)) → is_first cmp (x ∷ xs) ys ≡ true → merge cmp (x ∷ xs) ys ≡ x ∷ merge cmp xs ys
  merge-first x [] [] e = refl
  merge-first x (z ∷ xs) [] e = refl
  merge-first x xs (y ∷ ys) e = ap (λ (b : Bool). if b then x ∷ merge cmp xs (y ∷ ys) else (y ∷ merge_step cmp x xs (merge cmp xs) ys)) e

  -- an entry that is put behind the list is the next one
  pub put-first : (xs ys : List (K × ℕ)) (i : ℕ) (e : K × ℕ) (old new all : List (K × ℕ)) → i < length xs → e ≡ get_or xs i e → is_first cmp (drop i xs) ys ≡ true
      → old ++ merge cmp (drop i xs) ys ≡ all → new ≡ old ++ e ∷ [] → new ++ merge cmp (drop (i + 1) xs) ys ≡ all
  put-first xs ys i e old new all short read first before put =
      let front : drop i xs ≡ e ∷ drop (i + 1) xs = drop-cons xs i e short ∙ ap₂ (λ x k. x ∷ drop k xs) (sym read) (sym (add-one i)) in
      let next : merge cmp (drop i xs) ys ≡ e ∷ merge cmp (drop (i + 1) xs) ys
      = ap (λ l. merge cmp l ys) front ∙ merge-first e (drop (i + 1) xs) ys (sym (ap (λ l. is_first cmp l ys) front) ∙ first) in
      ap (λ l. l ++ merge cmp (drop (i + 1) xs) ys) put
      ∙ append_assoc old (e ∷ []) (merge cmp (drop (i + 1) xs) ys)
      ∙ ap (λ l. old ++ l) (sym next)
      ∙ before

module _ {K : Type 0} (cmp : K → K → Ordering) (o : IsTotalOrder cmp) where
  abbrev Positive : List (K × ℕ) → Type 0
  Positive xs = All (λ n. 0 < n) (values_of xs)

  -- no key of the one is counted in the other
  abbrev Apart : List (K × ℕ) → List (K × ℕ) → Type 0
  Apart xs ys = (k : K) → 0 < count_of cmp xs k → count_of cmp ys k ≡ 0

  first : (x : K × ℕ) (xs : List (K × ℕ)) → Positive (x ∷ xs) → 0 < x.1
  first x xs p = All-head (λ n. 0 < n) x.1 (values_of xs) p

  rest : (x : K × ℕ) (xs : List (K × ℕ)) → Positive (x ∷ xs) → Positive xs
  rest x xs p = All-tail (λ n. 0 < n) x.1 (values_of xs) p

  count_here : (x : K × ℕ) (xs : List (K × ℕ)) (k : K) → is_eq (cmp k x.0) ≡ true → count_of cmp (x ∷ xs) k ≡ x.1
  count_here x xs k e = ap (λ (b : Bool). unwrap_or (cond b (Some x.1) (lookup (is_at (cmp k)) xs)) 0) e

  count_past : (x : K × ℕ) (xs : List (K × ℕ)) (k : K) → is_eq (cmp k x.0) ≡ false → count_of cmp (x ∷ xs) k ≡ count_of cmp xs k
  count_past x xs k e = ap (λ (b : Bool). unwrap_or (cond b (Some x.1) (lookup (is_at (cmp k)) xs)) 0) e

  apart_rest : (x : K × ℕ) (xs ys : List (K × ℕ)) → Positive (x ∷ xs) → Apart (x ∷ xs) ys → Apart xs ys
  apart_rest x xs ys p a k h = by (is_eq (cmp k x.0)) refl
    where
      by : (b : Bool) → is_eq (cmp k x.0) ≡ b → count_of cmp ys k ≡ 0
      by true e = a k (let n = count_here x xs k e in let m = first x xs p in omega arith)
      by false e = a k (let n = count_past x xs k e in omega arith)

  apart_others : (xs : List (K × ℕ)) (y : K × ℕ) (ys : List (K × ℕ)) → Positive (y ∷ ys) → Apart xs (y ∷ ys) → Apart xs ys
  apart_others xs y ys p a k h = by (is_eq (cmp k y.0)) refl
    where
      by : (b : Bool) → is_eq (cmp k y.0) ≡ b → count_of cmp ys k ≡ 0
      by true e = absurd (let n = count_here y ys k e in let m = first y ys p in let z = a k h in omega arith)
      by false e = sym (count_past y ys k e) ∙ a k h

  heads_differ : (x y : K × ℕ) (xs ys : List (K × ℕ)) → Positive (x ∷ xs) → Positive (y ∷ ys) → Apart (x ∷ xs) (y ∷ ys) → is_eq (cmp x.0 y.0) ≡ false
  heads_differ x y xs ys p q a = by (is_eq (cmp x.0 y.0)) refl
    where
      by : (b : Bool) → is_eq (cmp x.0 y.0) ≡ b → is_eq (cmp x.0 y.0) ≡ false
      by true e = absurd (
          let n = count_here x xs x.0 (ap is_eq (tied_itself o x.0)) in
          let m = count_here y ys x.0 e in
          let h = first x xs p in
          let i = first y ys q in
          let z = a x.0 (omega arith) in
          omega arith)
      by false e = e

  -- ---- what holds of the keys of both holds of all

  all_step : (P : K → Type 0) (x : K × ℕ) (xs : List (K × ℕ)) (on : List (K × ℕ) → List (K × ℕ)) → P x.0 → AllByRecursion P (keys_of xs)
      → ((ys : List (K × ℕ)) → AllByRecursion P (keys_of ys) → AllByRecursion P (keys_of (on ys)))
      → (ys : List (K × ℕ)) → AllByRecursion P (keys_of ys) → AllByRecursion P (keys_of (merge_step cmp x xs on ys))
  all_step P x xs on h hs next [] a = (h, hs)
  all_step P x xs on h hs next (y ∷ ys) a = by (is_lt (cmp x.0 y.0)) (next (y ∷ ys) a) (all_step P x xs on h hs next ys a.1)
    where
      by : (b : Bool) → AllByRecursion P (keys_of (on (y ∷ ys))) → AllByRecursion P (keys_of (merge_step cmp x xs on ys))
          → AllByRecursion P (keys_of (if b then x ∷ on (y ∷ ys) else (y ∷ merge_step cmp x xs on ys)))
      by true n r = (h, n)
      by false n r = (a.0, r)

  all_merge : (P : K → Type 0) (xs ys : List (K × ℕ)) → AllByRecursion P (keys_of xs) → AllByRecursion P (keys_of ys) → AllByRecursion P (keys_of (merge cmp xs ys))
  all_merge P [] ys a b = b
  all_merge P (x ∷ xs) ys a b = all_step P x xs (merge cmp xs) a.0 a.1 (λ zs c. all_merge P xs zs a.1 c) ys b

  above_all : (x y : K) (ys : List K) → cmp x y ≡ Less → AllByRecursion (λ k. cmp y k ≡ Less) ys → AllByRecursion (λ k. cmp x k ≡ Less) ys
  above_all x y [] e a = tt
  above_all x y (z ∷ ys) e a = (o.trans x y z e a.0, above_all x y ys e a.1)

  -- ---- the numbers

  positive_step : (x : K × ℕ) (xs : List (K × ℕ)) (on : List (K × ℕ) → List (K × ℕ)) → Positive (x ∷ xs) → ((ys : List (K × ℕ)) → Positive ys → Positive (on ys))
      → (ys : List (K × ℕ)) → Positive ys → Positive (merge_step cmp x xs on ys)
  positive_step x xs on p next [] q = p
  positive_step x xs on p next (y ∷ ys) q = by (is_lt (cmp x.0 y.0)) (next (y ∷ ys) q) (positive_step x xs on p next ys (rest y ys q))
    where
      by : (b : Bool) → Positive (on (y ∷ ys)) → Positive (merge_step cmp x xs on ys) → Positive (if b then x ∷ on (y ∷ ys) else (y ∷ merge_step cmp x xs on ys))
      by true n r = All-cons (λ n. 0 < n) x.1 (values_of (on (y ∷ ys))) (first x xs p) n
      by false n r = All-cons (λ n. 0 < n) y.1 (values_of (merge_step cmp x xs on ys)) (first y ys q) r

  positive_merge : (xs ys : List (K × ℕ)) → Positive xs → Positive ys → Positive (merge cmp xs ys)
  positive_merge [] ys p q = q
  positive_merge (x ∷ xs) ys p q = positive_step x xs (merge cmp xs) p (λ zs r. positive_merge xs zs (rest x xs p) r) ys q

  count_step : (x : K × ℕ) (xs : List (K × ℕ)) (on : List (K × ℕ) → List (K × ℕ)) (k : K) → Positive (x ∷ xs)
      → ((ys : List (K × ℕ)) → Positive ys → Apart xs ys → count_of cmp (on ys) k ≡ count_of cmp xs k + count_of cmp ys k)
      → (ys : List (K × ℕ)) → Positive ys → Apart (x ∷ xs) ys → count_of cmp (merge_step cmp x xs on ys) k ≡ count_of cmp (x ∷ xs) k + count_of cmp ys k
  count_step x xs on k p next [] q a = omega arith
  count_step x xs on k p next (y ∷ ys) q a =
      by (is_lt (cmp x.0 y.0)) (next (y ∷ ys) q (apart_rest x xs (y ∷ ys) p a)) (count_step x xs on k p next ys (rest y ys q) (apart_others (x ∷ xs) y ys q a))
    where
      in_front : (b : Bool) → is_eq (cmp k x.0) ≡ b → count_of cmp (on (y ∷ ys)) k ≡ count_of cmp xs k + count_of cmp (y ∷ ys) k → count_of cmp (x ∷ on (y ∷ ys)) k ≡ count_of cmp (x ∷ xs) k + count_of cmp (y ∷ ys) k
      in_front true e n =
          let here = count_here x (on (y ∷ ys)) k e in
          let own = count_here x xs k e in
          let m = first x xs p in
          let none = a k (omega arith) in
          omega arith
      in_front false e n = let here = count_past x (on (y ∷ ys)) k e in let own = count_past x xs k e in omega arith

      behind : (b : Bool) → is_eq (cmp k y.0) ≡ b → count_of cmp (merge_step cmp x xs on ys) k ≡ count_of cmp (x ∷ xs) k + count_of cmp ys k
          → count_of cmp (y ∷ merge_step cmp x xs on ys) k ≡ count_of cmp (x ∷ xs) k + count_of cmp (y ∷ ys) k
      behind true e r =
          let here = count_here y (merge_step cmp x xs on ys) k e in
          let own = count_here y ys k e in
          let m = first y ys q in
          elim (cases_lt 0 (count_of cmp (x ∷ xs) k)) [
            | inl held ↦ absurd (let z = a k held in omega arith)
            | inr none ↦ omega arith
          ]
      behind false e r = let here = count_past y (merge_step cmp x xs on ys) k e in let own = count_past y ys k e in omega arith

      by : (b : Bool) → count_of cmp (on (y ∷ ys)) k ≡ count_of cmp xs k + count_of cmp (y ∷ ys) k → count_of cmp (merge_step cmp x xs on ys) k ≡ count_of cmp (x ∷ xs) k + count_of cmp ys k
          → count_of cmp (if b then x ∷ on (y ∷ ys) else (y ∷ merge_step cmp x xs on ys)) k ≡ count_of cmp (x ∷ xs) k + count_of cmp (y ∷ ys) k
      by true n r = in_front (is_eq (cmp k x.0)) refl n
      by false n r = behind (is_eq (cmp k y.0)) refl r

  count_merge : (xs ys : List (K × ℕ)) (k : K) → Positive xs → Positive ys → Apart xs ys → count_of cmp (merge cmp xs ys) k ≡ count_of cmp xs k + count_of cmp ys k
  count_merge [] ys k p q a = omega arith
  count_merge (x ∷ xs) ys k p q a = count_step x xs (merge cmp xs) k p (λ zs r b. count_merge xs zs k (rest x xs p) r b) ys q a

  -- ---- the order

  strictly : (r : Ordering) → is_lt r ≡ true → r ≡ Less
  strictly Less e = refl
  strictly Equal e = cc
  strictly Greater e = cc

  turned : (x y : K) → is_lt (cmp x y) ≡ false → is_eq (cmp x y) ≡ false → cmp y x ≡ Less
  turned x y l e = by (cmp x y) refl l e
    where
      by : (r : Ordering) → cmp x y ≡ r → is_lt r ≡ false → is_eq r ≡ false → cmp y x ≡ Less
      by Less f l e = cc
      by Equal f l e = cc
      by Greater f l e = o.antisymm y x ∙ ap ordering_reverse f

  sorted_step : (x : K × ℕ) (xs : List (K × ℕ)) (on : List (K × ℕ) → List (K × ℕ)) → IsStrictlySortedBy cmp (keys_of (x ∷ xs)) → Positive (x ∷ xs)
      → ((P : K → Type 0) (ys : List (K × ℕ)) → AllByRecursion P (keys_of xs) → AllByRecursion P (keys_of ys) → AllByRecursion P (keys_of (on ys)))
      → ((ys : List (K × ℕ)) → IsStrictlySortedBy cmp (keys_of ys) → Positive ys → Apart xs ys → IsStrictlySortedBy cmp (keys_of (on ys)))
      → (ys : List (K × ℕ)) → IsStrictlySortedBy cmp (keys_of ys) → Positive ys → Apart (x ∷ xs) ys → IsStrictlySortedBy cmp (keys_of (merge_step cmp x xs on ys))
  unfolding IsStrictlySortedBy
  sorted_step x xs on s p all next [] t q a = s
  sorted_step x xs on s p all next (y ∷ ys) t q a =
      by (is_lt (cmp x.0 y.0)) refl (next (y ∷ ys) t q (apart_rest x xs (y ∷ ys) p a)) (sorted_step x xs on s p all next ys t.1 (rest y ys q) (apart_others (x ∷ xs) y ys q a))
    where
      by : (b : Bool) → is_lt (cmp x.0 y.0) ≡ b → IsStrictlySortedBy cmp (keys_of (on (y ∷ ys))) → IsStrictlySortedBy cmp (keys_of (merge_step cmp x xs on ys))
          → IsStrictlySortedBy cmp (keys_of (if b then x ∷ on (y ∷ ys) else (y ∷ merge_step cmp x xs on ys)))
      by true e n r =
          let less = strictly (cmp x.0 y.0) e in
          (all (λ k. cmp x.0 k ≡ Less) (y ∷ ys) s.0 (less, above_all x.0 y.0 (keys_of ys) less t.0), n)
      by false e n r =
          let less = turned x.0 y.0 e (heads_differ x y xs ys p q a) in
          (all_step (λ k. cmp y.0 k ≡ Less) x xs on less (above_all y.0 x.0 (keys_of xs) less s.0) (λ zs c. all (λ k. cmp y.0 k ≡ Less) zs (above_all y.0 x.0 (keys_of xs) less s.0) c) ys t.0, r)

  sorted_merge : (xs ys : List (K × ℕ)) → IsStrictlySortedBy cmp (keys_of xs) → IsStrictlySortedBy cmp (keys_of ys) → Positive xs → Positive ys → Apart xs ys → IsStrictlySortedBy cmp (keys_of (merge cmp xs ys))
  unfolding IsStrictlySortedBy
  sorted_merge [] ys s t p q a = t
  sorted_merge (x ∷ xs) ys s t p q a =
      sorted_step x xs (merge cmp xs) s p (λ P zs c d. all_merge P xs zs c d) (λ zs u r b. sorted_merge xs zs s.1 u (rest x xs p) r b) ys t q a

  -- two lists that rise and have no key in common show in one what they show together
  pub Shows-merge : (n m t : K → ℕ) (xs ys : List (K × ℕ)) → Shows cmp n xs → Shows cmp m ys → ((k : K) → 0 < n k → m k ≡ 0) → ((k : K) → t k ≡ n k + m k) → Shows cmp t (merge cmp xs ys)
  Shows-merge n m t xs ys s u apart whole =
      let a : Apart xs ys = λ k h. let x = s.counts k in u.counts k ∙ apart k (omega arith) in
      record {
        sorted = sorted_merge xs ys s.sorted u.sorted s.positive u.positive a;
        positive = positive_merge xs ys s.positive u.positive;
        counts = λ k. let c = count_merge xs ys k s.positive u.positive a in let x = s.counts k in let y = u.counts k in let z = whole k in omega arith;
      }
