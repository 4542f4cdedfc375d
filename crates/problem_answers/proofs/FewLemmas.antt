-- How often the keys of a list occur, all in all.
use Rattle.std.specs.Prelude.{◌≡◌, ℕ, ◌+◌, ◌≤◌, List, [], ◌∷◌, length, map, sum_by, refl}
use Rattle.std.proofs.Common.{ap, ap₂, ◌∙◌, cond, arith}
use Rattle.std.specs.List.{AllByRecursion}
use Rattle.std.specs.List.Sorted.{IsStrictlySortedBy}
use Rattle.std.specs.BTreeSet.{insert_key}
use Rattle.std.specs.Ordering.{is_eq, match_ordering}
use Rattle.std.specs.Cmp.{IsTotalOrder}
use Rattle.std.specs.declared.cmp.Ordering.{Ordering}
use Rattle.std.specs.declared.cmp.Ordering.TheVariants.{Less, Equal, Greater}
use Rattle.std.proofs.lemmas.List.Sums.{sum_by-cons}
use Rattle.key_counts.specs.Rising.{rising, times_in, occurrences}
use Rattle.key_counts.proofs.RisingLemmas.{below_all, sorted-rising}

module _ {K : Type 0} (cmp : K → K → Ordering) (o : IsTotalOrder cmp) where
  -- one if the keys tie
  abbrev ties : K → K → ℕ
  ties q r = cond (is_eq (cmp q r)) 1 0

  -- a key below all others ties with none of them
  none_ties : (q : K) (ks : List K) → AllByRecursion (λ y. cmp q y ≡ Less) ks → sum_by (ties q) ks ≡ 0
  none_ties q [] h = refl
  none_ties q (k ∷ ks) h = sum_by-cons (ties q) k ks ∙ ap₂ (λ a b. a + b) (ap (λ r. cond (is_eq r) 1 0) h.0) (none_ties q ks h.1)

  -- keys that tie lie alike
  below_too : (q r : K) (ks : List K) → cmp q r ≡ Equal → AllByRecursion (λ y. cmp r y ≡ Less) ks → AllByRecursion (λ y. cmp q y ≡ Less) ks
  below_too q r [] e h = tt
  below_too q r (k ∷ ks) e h = (o.congr q r k e ∙ h.0, below_too q r ks e h.1)

  -- a key ties with at most one of a strictly rising list
  one_ties : (q : K) (rs : List K) → IsStrictlySortedBy cmp rs → sum_by (ties q) rs ≤ 1
  unfolding IsStrictlySortedBy
  one_ties q [] h = omega arith
  one_ties q (r ∷ rs) h = by (cmp q r) refl (one_ties q rs h.1)
    where
      by : (c : Ordering) → cmp q r ≡ c → sum_by (ties q) rs ≤ 1 → sum_by (ties q) (r ∷ rs) ≤ 1
      by Less e s =
          let head : ties q r ≡ 0 = ap (λ c. cond (is_eq c) 1 0) e in
          let rest : sum_by (ties q) rs ≡ 0 = none_ties q rs (below_all cmp o q r rs e h.0) in
          let all = sum_by-cons (ties q) r rs in
          omega arith
      by Equal e s =
          let head : ties q r ≡ 1 = ap (λ c. cond (is_eq c) 1 0) e in
          let rest : sum_by (ties q) rs ≡ 0 = none_ties q rs (below_too q r rs e h.0) in
          let all = sum_by-cons (ties q) r rs in
          omega arith
      by Greater e s =
          let head : ties q r ≡ 0 = ap (λ c. cond (is_eq c) 1 0) e in
          let all = sum_by-cons (ties q) r rs in
          omega arith

  -- how often the keys of one list occur in another
  abbrev times_of : List K → List K → ℕ
  times_of ks rs = sum_by (times_in cmp ks) rs

  -- one key more
  one_more : (k : K) (ks rs : List K) → times_of (k ∷ ks) rs ≡ sum_by (ties k) rs + times_of ks rs
  one_more k ks [] = refl
  one_more k ks (r ∷ rs) =
      let more = one_more k ks rs in
      let all = sum_by-cons (times_in cmp (k ∷ ks)) r rs in
      let own = sum_by-cons (ties k) r rs in
      let others = sum_by-cons (times_in cmp ks) r rs in
      let first : times_in cmp (k ∷ ks) r ≡ ties k r + times_in cmp ks r = sum_by-cons (λ p. cond (is_eq (cmp p r)) 1 0) k ks in
      omega arith

  none_occur : (rs : List K) → times_of [] rs ≡ 0
  none_occur [] = refl
  none_occur (r ∷ rs) = let all = sum_by-cons (times_in cmp []) r rs in let rest = none_occur rs in omega arith

  -- keys that stand in a strictly rising list occur no more often than there are keys
  few_times : (ks rs : List K) → IsStrictlySortedBy cmp rs → times_of ks rs ≤ length ks
  few_times [] rs h = let none = none_occur rs in omega arith
  few_times (k ∷ ks) rs h =
      let step = one_more k ks rs in
      let one = one_ties k rs h in
      let rest = few_times ks rs h in
      omega arith

  of_pairs : (ks rs : List K) → sum_by (λ (e : K × ℕ). e.1) (map (λ k. (k, times_in cmp ks k)) rs) ≡ times_of ks rs
  of_pairs ks [] = refl
  of_pairs ks (r ∷ rs) =
      let all = sum_by-cons (λ (e : K × ℕ). e.1) (r, times_in cmp ks r) (map (λ k. (k, times_in cmp ks k)) rs) in
      let own = sum_by-cons (times_in cmp ks) r rs in
      let rest = of_pairs ks rs in
      omega arith

  -- a key put into a list makes it longer by one at most
  one_longer : (k : K) (qs : List K) → length (insert_key cmp qs k) ≤ length qs + 1
  one_longer k [] = omega arith
  one_longer k (q ∷ qs) = by (cmp k q) (one_longer k qs)
    where
      by : (c : Ordering) → length (insert_key cmp qs k) ≤ length qs + 1 → length (match_ordering c (k ∷ q ∷ qs) (q ∷ qs) (q ∷ insert_key cmp qs k)) ≤ length (q ∷ qs) + 1
      by Less s = omega arith
      by Equal s = omega arith
      by Greater s = omega (arith, s)

  -- a list has no more keys that differ than it is long
  pub few_keys : (ks : List K) → length (rising cmp ks) ≤ length ks
  few_keys [] = omega arith
  few_keys (k ∷ ks) = let more = one_longer k (rising cmp ks) in let rest = few_keys ks in omega (arith, more, rest)

  -- all in all the keys of a list occur no more often than it is long
  pub few_occurrences : (ks : List K) → sum_by (λ (e : K × ℕ). e.1) (occurrences cmp ks) ≤ length ks
  few_occurrences ks = let same = of_pairs ks (rising cmp ks) in let few = few_times ks (rising cmp ks) (sorted-rising cmp o ks) in omega arith
