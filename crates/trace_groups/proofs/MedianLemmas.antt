-- The number at a place of the rising order is one alone.
use Rattle.std.specs.Prelude.{◌≡◌, ℕ, ◌+◌, ◌<◌, ◌≤◌, ◌&&◌, ◌==◌, Bool, true, false, nat_le, nat_lt, cond, List, [], ◌∷◌, ◌++◌, length, Some, count_by, find, refl}
use Rattle.std.proofs.Common.{arith, sym, ap, ◌∙◌, get_or, suc, subst}
use Rattle.std.proofs.lemmas.Bool.{ltb-true, ltb-false, lt-ltb, leb-true, le-leb, le-ltb}
use Rattle.std.proofs.lemmas.List.Sorted.{sum_by-IsPermutation}
use Rattle.std.proofs.lemmas.List.Sums.{sum_by-append, sum_by-cons, count_by-le-length}
use Rattle.std.specs.List.Sorted.{IsPermutation, IsSplitAround}
use Rattle.std.specs.Ordering.{is_lt, nat_cmp}
use Rattle.std.specs.declared.cmp.Ordering.TheVariants.{Less, Equal, Greater}
use Rattle.trace_groups.specs.Medians.{stands_at}

is_lt-cond : (a b : Bool) → is_lt (cond a Less (cond b Equal Greater)) ≡ a
is_lt-cond true b = refl
is_lt-cond false true = refl
is_lt-cond false false = refl

-- what is not less is not less
not_less : (a b : ℕ) → is_lt (nat_cmp a b) ≡ false → b ≤ a
not_less a b h = ltb-false a b (sym (is_lt-cond (nat_lt a b) (a == b)) ∙ h)

count_by-cons : (p : ℕ → Bool) (n : ℕ) (ns : List ℕ) → count_by p (n ∷ ns) ≡ cond (p n) 1 0 + count_by p ns
count_by-cons p n ns = sum_by-cons (λ x. cond (p x) 1 0) n ns

one_more : (a b : Bool) (m n : ℕ) → (a ≡ true → b ≡ true) → m ≤ n → cond a 1 0 + m ≤ cond b 1 0 + n
one_more true true m n h l = omega arith
one_more true false m n h l = absurd (let bad = h refl in cc)
one_more false true m n h l = omega arith
one_more false false m n h l = omega arith

-- a test that passes wherever another does passes as often
more_pass : (p q : ℕ → Bool) → ((n : ℕ) → p n ≡ true → q n ≡ true) → (ns : List ℕ) → count_by p ns ≤ count_by q ns
more_pass p q h [] = omega arith
more_pass p q h (n ∷ ns) =
    let step = one_more (p n) (q n) (count_by p ns) (count_by q ns) (h n) (more_pass p q h ns) in
    omega (arith, step, count_by-cons p n ns, count_by-cons q n ns)

-- as often as there are numbers, where it passes at each, and never where it passes at none
all_pass : (p : ℕ → Bool) (ns : List ℕ) → ((k d : ℕ) → k < length ns → p (get_or ns k d) ≡ true) → count_by p ns ≡ length ns
all_pass p [] h = refl
all_pass p (n ∷ ns) h =
    let rest = all_pass p ns (λ k d l. h (suc k) d (omega arith)) in
    count_by-cons p n ns ∙ ap (λ b. cond b 1 0 + count_by p ns) (h 0 n (omega arith)) ∙ omega arith

none_pass : (p : ℕ → Bool) (ns : List ℕ) → ((k d : ℕ) → k < length ns → p (get_or ns k d) ≡ false) → count_by p ns ≡ 0
none_pass p [] h = refl
none_pass p (n ∷ ns) h =
    let rest = none_pass p ns (λ k d l. h (suc k) d (omega arith)) in
    count_by-cons p n ns ∙ ap (λ b. cond b 1 0 + count_by p ns) (h 0 n (omega arith)) ∙ omega arith

-- what a search finds where one number alone passes, and that at some place
found_alone : (p : ℕ → Bool) (m : ℕ) → ((n : ℕ) → p n ≡ true → n ≡ m) → (ns : List ℕ) → 0 < count_by p ns → find p ns ≡ Some m
found_alone p m alone [] h = absurd (omega arith)
found_alone p m alone (n ∷ ns) h =
    let first : 0 < cond (p n) 1 0 + count_by p ns = subst (λ q. 0 < q) (count_by-cons p n ns) h in
    by (p n) refl first (found_alone p m alone ns)
  where
    by : (b : Bool) → p n ≡ b → 0 < cond b 1 0 + count_by p ns → (0 < count_by p ns → find p ns ≡ Some m) → cond b (Some n) (find p ns) ≡ Some m
    by true e l rest = ap Some (alone n e)
    by false e l rest = rest (omega arith)

both : (a b : Bool) → (a && b) ≡ true → (a ≡ true) × (b ≡ true)
both true b h = (refl, h)
both false b h = absurd cc

module _ (k : ℕ) (ns : List ℕ) where
  -- of two numbers the lesser one does not stand where the greater one does
  not_both : (a b : ℕ) → a < b → stands_at k ns a ≡ true → stands_at k ns b ≡ true → ⊥
  not_both a b l p q =
      let many = ltb-true k (count_by (λ n. nat_le n a) ns) (both (nat_le (count_by (λ n. nat_lt n a) ns) k) (nat_lt k (count_by (λ n. nat_le n a) ns)) p).1 in
      let few = leb-true (count_by (λ n. nat_lt n b) ns) k (both (nat_le (count_by (λ n. nat_lt n b) ns) k) (nat_lt k (count_by (λ n. nat_le n b) ns)) q).0 in
      let more = more_pass (λ n. nat_le n a) (λ n. nat_lt n b) (λ n h. lt-ltb n b (let low = leb-true n a h in omega arith)) ns in
      omega arith

  one_stands : (a b : ℕ) → stands_at k ns a ≡ true → stands_at k ns b ≡ true → a ≡ b
  one_stands a b p q = by (nat_lt a b) (nat_lt b a) refl refl
    where
      by : (x y : Bool) → nat_lt a b ≡ x → nat_lt b a ≡ y → a ≡ b
      by true y e f = absurd (not_both a b (ltb-true a b e) p q)
      by false true e f = absurd (not_both b a (ltb-true b a f) q p)
      by false false e f = let low = ltb-false a b e in let high = ltb-false b a f in omega arith

  module _ (front : List ℕ) (m : ℕ) (back : List ℕ) (same : IsPermutation ns (front ++ m ∷ back)) (place : length front ≡ k) (split : IsSplitAround nat_cmp front m back) where
    counted : (p : ℕ → Bool) → count_by p ns ≡ count_by p front + (cond (p m) 1 0 + count_by p back)
    counted p = sym (sum_by-IsPermutation (λ x. cond (p x) 1 0) ns (front ++ m ∷ back) same) ∙ sum_by-append (λ x. cond (p x) 1 0) front (m ∷ back) ∙ ap (λ n. count_by p front + n) (count_by-cons p m back)

    stands : stands_at k ns m ≡ true
    stands =
        let low = count_by-le-length (λ n. nat_lt n m) front in
        let itself : nat_lt m m ≡ false = le-ltb m m (omega arith) in
        let beyond = none_pass (λ n. nat_lt n m) back (λ i d l. le-ltb (get_or back i d) m (not_less (get_or back i d) m (split.1 i d l))) in
        let below : count_by (λ n. nat_lt n m) ns ≤ k = (let all = counted (λ n. nat_lt n m) ∙ ap (λ b. count_by (λ n. nat_lt n m) front + (cond b 1 0 + count_by (λ n. nat_lt n m) back)) itself in omega arith) in
        let up = all_pass (λ n. nat_le n m) front (λ i d l. le-leb (get_or front i d) m (not_less m (get_or front i d) (split.0 i d l))) in
        let also : nat_le m m ≡ true = le-leb m m (omega arith) in
        let above : k < count_by (λ n. nat_le n m) ns = (let all = counted (λ n. nat_le n m) ∙ ap (λ b. count_by (λ n. nat_le n m) front + (cond b 1 0 + count_by (λ n. nat_le n m) back)) also in omega arith) in
        ap (λ b. b && nat_lt k (count_by (λ n. nat_le n m) ns)) (le-leb (count_by (λ n. nat_lt n m) ns) k below) ∙ lt-ltb k (count_by (λ n. nat_le n m) ns) above

    -- the number between those that are not greater and those that are not less is found
    pub found_between : find (stands_at k ns) ns ≡ Some m
    found_between =
        let some : 0 < count_by (stands_at k ns) ns = (let all = counted (stands_at k ns) ∙ ap (λ b. count_by (stands_at k ns) front + (cond b 1 0 + count_by (stands_at k ns) back)) stands in omega arith) in
        found_alone (stands_at k ns) m (λ n h. one_stands n m h stands) ns some
