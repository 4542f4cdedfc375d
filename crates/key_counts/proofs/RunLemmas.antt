-- The runs of a sorted list: their keys rise, and each run is as long as its key occurs often.
use Rattle.std.specs.Prelude.{◌≡◌, ℕ, ◌+◌, ◌<◌, Bool, true, false, cond, List, [], ◌∷◌, All, unwrap_or, Some, None, ⊤, refl}
use Rattle.std.proofs.Common.{arith, sym, ap, ◌∙◌, subst, true≢false}
use native.Mathlib.Numerals.{unary_clauses}
use Rattle.std.specs.List.{AllByRecursion}
use Rattle.std.specs.List.Sorted.{IsSorted, IsStrictlySortedBy, IsPermutation}
use Rattle.std.specs.Ordering.{is_eq, is_lt, eq_by_cmp, ordering_reverse}
use Rattle.std.specs.Cmp.{IsTotalOrder, eq_by_cmp_equiv}
use Rattle.std.specs.Map.{lookup, keys_of, values_of}
use Rattle.std.specs.BTreeMap.{is_at, IsFromIterResult, BTreeMap}
use Rattle.std.proofs.lemmas.List.Elements.{All-cons, All-nil}
use Rattle.std.proofs.lemmas.List.Sums.{sum_by-cons}
use Rattle.std.proofs.lemmas.List.Sorted.{sum_by-IsPermutation}
use Rattle.std.proofs.lemmas.Map.Made.{update_all_none}
use Rattle.std.proofs.lemmas.Map.Views.{IfSome-lookup_from_All, All-values_from_lookup}
use Rattle.std.proofs.lemmas.Map.Keys.{IsDistinct-from_sorted}
use Rattle.std.specs.Prelude.{IfSome}
use Rattle.std.specs.declared.cmp.Ordering.{Ordering}
use Rattle.std.specs.declared.cmp.Ordering.TheVariants.{Less, Equal, Greater}
use Rattle.key_counts.specs.Counts.{count_of}
use Rattle.key_counts.specs.Rising.{times_in, Shows}
use Rattle.key_counts.specs.Runs.{runs_after, runs_of}
use Rattle.key_counts.proofs.RisingLemmas.{alike}
use Rattle.key_counts.proofs.ShownLemmas.{flip, past_head, Shows-same}

module _ {K : Type 0} (cmp : K → K → Ordering) (o : IsTotalOrder cmp) where
  -- none of the keys is below the one before it, the first not below k
  abbrev RisesFrom : K → List K → Type 0
  RisesFrom k [] = ⊤
  RisesFrom k (q ∷ qs) = (is_lt (cmp q k) ≡ false) × RisesFrom q qs

  rises : (k : K) (ks : List K) → IsSorted cmp (k ∷ ks) → RisesFrom k ks
  rises k [] h = tt
  rises k (q ∷ qs) h = (h 0 k (omega arith) (omega arith), rises q qs (λ i d low high. simp unary_clauses (simp unary_clauses at (h (i + 1) d (omega arith) (omega arith)))))

  -- a key that ties with k may stand for it
  rises_alike : (k q : K) (qs : List K) → cmp k q ≡ Equal → RisesFrom q qs → RisesFrom k qs
  rises_alike k q [] e h = tt
  rises_alike k q (x ∷ qs) e h = (ap is_lt (o.antisymm x k ∙ ap ordering_reverse (o.congr k q x e) ∙ sym (o.antisymm x q)) ∙ h.0, h.1)

  -- the keys rise, and a key below k is below them all
  abbrev KeysRise : K → List K → Type 0
  KeysRise k ks = IsStrictlySortedBy cmp ks × ((j : K) → cmp j k ≡ Less → AllByRecursion (λ y. cmp j y ≡ Less) ks)

  -- the keys of the runs rise
  keys_rise : (k : K) (n : ℕ) (ks : List K) → RisesFrom k ks → KeysRise k (keys_of (runs_after cmp k n ks))
  unfolding IsStrictlySortedBy
  keys_rise k n [] h = ((tt, tt), λ j e. (e, tt))
  keys_rise k n (q ∷ qs) h = by (cmp q k) refl (λ r. keys_rise k (n + 1) qs r) (keys_rise q 1 qs h.1)
    where
      by : (r : Ordering) → cmp q k ≡ r → (RisesFrom k qs → KeysRise k (keys_of (runs_after cmp k (n + 1) qs))) → KeysRise q (keys_of (runs_after cmp q 1 qs))
          → KeysRise k (keys_of (cond (is_eq r) (runs_after cmp k (n + 1) qs) ((k, n) ∷ runs_after cmp q 1 qs)))
      by Less e same next = let below : is_lt (cmp q k) ≡ true = ap is_lt e in absurd (true≢false (sym below ∙ h.0))
      by Equal e same next = same (rises_alike k q qs (o.antisymm k q ∙ ap ordering_reverse e) h.1)
      by Greater e same next =
          let below : cmp k q ≡ Less = o.antisymm k q ∙ ap ordering_reverse e in
          ((next.1 k below, next.0), λ j f. (f, next.1 j (o.trans j k q f below)))

  times_in-cons : (k : K) (ks : List K) (q : K) → times_in cmp (k ∷ ks) q ≡ cond (is_eq (cmp q k)) 1 0 + times_in cmp ks q
  times_in-cons k ks q = sum_by-cons (λ p. cond (is_eq (cmp p q)) 1 0) k ks ∙ ap (λ (b : Bool). cond b 1 0 + times_in cmp ks q) (flip cmp o k q)

  one_more : (b : Bool) (n t : ℕ) → cond b (n + 1) 0 + t ≡ cond b n 0 + (cond b 1 0 + t)
  one_more true n t = omega arith
  one_more false n t = omega arith

  -- how often a key is counted in the runs
  count_of-runs_after : (k : K) (n : ℕ) (ks : List K) (q : K) → RisesFrom k ks → count_of cmp (runs_after cmp k n ks) q ≡ cond (is_eq (cmp q k)) n 0 + times_in cmp ks q
  unfolding IsStrictlySortedBy
  count_of-runs_after k n [] q h = by (is_eq (cmp q k))
    where
      by : (b : Bool) → unwrap_or (cond b (Some n) None) 0 ≡ cond b n 0 + 0
      by true = omega arith
      by false = omega arith
  count_of-runs_after k n (p ∷ ps) q h = by (cmp p k) refl (λ r. count_of-runs_after k (n + 1) ps q r) (count_of-runs_after p 1 ps q h.1)
    where
      other : Greater ≡ cmp p k → count_of cmp (runs_after cmp p 1 ps) q ≡ cond (is_eq (cmp q p)) 1 0 + times_in cmp ps q → (b : Bool) → is_eq (cmp q k) ≡ b
          → unwrap_or (cond b (Some n) (lookup (is_at (cmp q)) (runs_after cmp p 1 ps))) 0 ≡ cond b n 0 + times_in cmp (p ∷ ps) q
      other e next true f =
          let below : cmp k p ≡ Less = o.antisymm k p ∙ ap ordering_reverse (sym e) in
          let rise = keys_rise p 1 ps h.1 in
          let none : lookup (is_at (cmp q)) (runs_after cmp p 1 ps) ≡ None = past_head cmp o q (k, n) (runs_after cmp p 1 ps) (rise.1 k below, rise.0) f in
          let zero : times_in cmp (p ∷ ps) q ≡ 0 = times_in-cons p ps q ∙ sym next ∙ ap (λ v. unwrap_or v 0) none in
          omega arith
      other e next false f = next ∙ sym (times_in-cons p ps q) ∙ omega arith

      by : (r : Ordering) → cmp p k ≡ r → (RisesFrom k ps → count_of cmp (runs_after cmp k (n + 1) ps) q ≡ cond (is_eq (cmp q k)) (n + 1) 0 + times_in cmp ps q)
          → count_of cmp (runs_after cmp p 1 ps) q ≡ cond (is_eq (cmp q p)) 1 0 + times_in cmp ps q
          → count_of cmp (cond (is_eq r) (runs_after cmp k (n + 1) ps) ((k, n) ∷ runs_after cmp p 1 ps)) q ≡ cond (is_eq (cmp q k)) n 0 + times_in cmp (p ∷ ps) q
      by Less e same next = let below : is_lt (cmp p k) ≡ true = ap is_lt e in absurd (true≢false (sym below ∙ h.0))
      by Equal e same next =
          same (rises_alike k p ps (o.antisymm k p ∙ ap ordering_reverse e) h.1)
          ∙ one_more (is_eq (cmp q k)) n (times_in cmp ps q)
          ∙ ap (λ (b : Bool). cond (is_eq (cmp q k)) n 0 + (cond b 1 0 + times_in cmp ps q)) (sym (alike cmp o q p k e))
          ∙ ap (λ t. cond (is_eq (cmp q k)) n 0 + t) (sym (times_in-cons p ps q))
      by Greater e same next = other (sym e) next (is_eq (cmp q k)) refl

  positive_after : (k : K) (n : ℕ) (ks : List K) → 0 < n → All (λ m. 0 < m) (values_of (runs_after cmp k n ks))
  positive_after k n [] h = All-cons (λ m. 0 < m) n [] h (All-nil (λ m. 0 < m))
  positive_after k n (q ∷ qs) h = by (is_eq (cmp q k)) (positive_after k (n + 1) qs (omega arith)) (positive_after q 1 qs (omega arith))
    where
      by : (b : Bool) → All (λ m. 0 < m) (values_of (runs_after cmp k (n + 1) qs)) → All (λ m. 0 < m) (values_of (runs_after cmp q 1 qs))
          → All (λ m. 0 < m) (values_of (cond b (runs_after cmp k (n + 1) qs) ((k, n) ∷ runs_after cmp q 1 qs)))
      by true same next = same
      by false same next = All-cons (λ m. 0 < m) n (values_of (runs_after cmp q 1 qs)) h next

  sorted-runs_of : (ks : List K) → IsSorted cmp ks → IsStrictlySortedBy cmp (keys_of (runs_of cmp ks))
  unfolding IsStrictlySortedBy
  sorted-runs_of [] h = tt
  sorted-runs_of (k ∷ ks) h = (keys_rise k 1 ks (rises k ks h)).0

  count_of-runs_of : (ks : List K) (q : K) → IsSorted cmp ks → count_of cmp (runs_of cmp ks) q ≡ times_in cmp ks q
  count_of-runs_of [] q h = refl
  count_of-runs_of (k ∷ ks) q h = count_of-runs_after k 1 ks q (rises k ks h) ∙ sym (times_in-cons k ks q)

  positive-runs_of : (ks : List K) → All (λ m. 0 < m) (values_of (runs_of cmp ks))
  positive-runs_of [] = All-nil (λ m. 0 < m)
  positive-runs_of (k ∷ ks) = positive_after k 1 ks (omega arith)

  -- a map made of the runs of a sorted list shows how often each key occurs there
  Shows-runs_of : (ks : List K) (m : BTreeMap K ℕ) → IsSorted cmp ks → IsFromIterResult cmp (runs_of cmp ks) m → Shows cmp (times_in cmp ks) m.entries
  Shows-runs_of ks m h made =
      let found : (q : K) → lookup (is_at (cmp q)) m.entries ≡ lookup (is_at (cmp q)) (runs_of cmp ks)
      = λ q. made.0 q ∙ update_all_none (eq_by_cmp_equiv o) (eq_by_cmp cmp) (λ x y. refl) (runs_of cmp ks) q (IsDistinct-from_sorted cmp _ (sorted-runs_of ks h)) in
      record {
        sorted = made.1;
        positive = All-values_from_lookup (eq_by_cmp_equiv o) (λ n. 0 < n) m.entries (IsDistinct-from_sorted cmp _ made.1)
            (λ q. subst (λ v. IfSome v (λ n. 0 < n)) (sym (found q)) (IfSome-lookup_from_All (λ n. 0 < n) (is_at (cmp q)) (runs_of cmp ks) (positive-runs_of ks)));
        counts = λ q. ap (λ v. unwrap_or v 0) (found q) ∙ count_of-runs_of ks q h;
      }

  -- the same of a list that was sorted first
  pub Shows-sorted : (ks sorted : List K) (m : BTreeMap K ℕ) → IsPermutation ks sorted → IsSorted cmp sorted → IsFromIterResult cmp (runs_of cmp sorted) m → Shows cmp (times_in cmp ks) m.entries
  Shows-sorted ks sorted m p h made =
      Shows-same cmp (times_in cmp sorted) (times_in cmp ks) m.entries (λ q. sum_by-IsPermutation (λ k. cond (is_eq (cmp k q)) 1 0) ks sorted p) (Shows-runs_of sorted m h made)
