-- Sorted rows: no two rows of a slice tie, so that they are strictly rising once they are sorted.
use Rattle.std.specs.Prelude.{◌≡◌, ℕ, ℤ, ◌+◌, ◌<◌, false, List, [], ◌∷◌, ◌++◌, Option, Some, None, refl}
use Rattle.std.proofs.Common.{arith, sym, ap, ◌∙◌}
use native.Mathlib.Numerals.{unary_clauses}
use Rattle.std.specs.List.{AllByRecursion, IsDistinct}
use Rattle.std.specs.List.Sorted.{IsSorted, IsStrictlySortedBy, IsPermutation}
use Rattle.std.specs.Ordering.{is_eq, is_lt, eq_by_cmp, ordering_reverse}
use Rattle.std.specs.Cmp.{IsTotalOrder}
use Rattle.std.proofs.lemmas.List.Sorted.{list_any-IsPermutation}
use Rattle.std.proofs.lemmas.Map.Keys.{IsDistinct-IsPermutation, IsDistinct-head, IsDistinct-tail}
use Rattle.std.proofs.lemmas.Map.Lookups.{CmpEqualImpliesEq}
use Rattle.std.specs.declared.cmp.Ordering.{Ordering}
use Rattle.std.specs.declared.cmp.Ordering.TheVariants.{Less, Equal, Greater}
use Rattle.trace_record.specs.Facts.{Facts}
use Rattle.key_counts.specs.Rising.{rising}
use Rattle.key_counts.proofs.RisingLemmas.{below_all, IsRisingOf-rising, one_rising}
use Rattle.bench_rules.specs.declared.row.Row.{Row}
use Rattle.bench_rules.specs.Slices.{row_cmp, row_of, rows_from, slice_rows}
use Rattle.time_slice.proofs.SliceLemmas.{row_total, exact_rows}

module _ {K : Type 0} (cmp : K → K → Ordering) (o : IsTotalOrder cmp) where
  -- neither above nor equal
  below : (r : Ordering) → is_lt (ordering_reverse r) ≡ false → is_eq r ≡ false → r ≡ Less
  below Less h e = refl
  below Equal h e = cc
  below Greater h e = cc

  below_each : (k : K) (ks : List K) → IsSorted cmp (k ∷ ks) → AllByRecursion (λ y. eq_by_cmp cmp k y ≡ false) ks → IsStrictlySortedBy cmp ks → AllByRecursion (λ y. cmp k y ≡ Less) ks
  unfolding IsStrictlySortedBy
  below_each k [] h d s = tt
  below_each k (q ∷ ks) h d s =
      let first : cmp k q ≡ Less = below (cmp k q) (ap is_lt (sym (o.antisymm q k)) ∙ h 0 k (omega arith) (omega arith)) d.0 in
      (first, below_all cmp o k q ks first s.0)

  sorted_tail : (k : K) (ks : List K) → IsSorted cmp (k ∷ ks) → IsSorted cmp ks
  sorted_tail k ks h i d low high = simp unary_clauses (simp unary_clauses at (h (i + 1) d (omega arith) (omega arith)))

  -- a sorted list in which no two tie
  strictly_from_distinct : (ks : List K) → IsSorted cmp ks → IsDistinct (eq_by_cmp cmp) ks → IsStrictlySortedBy cmp ks
  unfolding IsStrictlySortedBy
  strictly_from_distinct [] h d = tt
  strictly_from_distinct (k ∷ ks) h d =
      let rest = strictly_from_distinct ks (sorted_tail k ks h) (IsDistinct-tail (eq_by_cmp cmp) k ks d) in
      (below_each k ks h (IsDistinct-head (eq_by_cmp cmp) k ks d) rest, rest)

  flips : (x y : K) → eq_by_cmp cmp x y ≡ eq_by_cmp cmp y x
  flips x y = by (cmp y x) (o.antisymm x y)
    where
      by : (r : Ordering) → cmp x y ≡ ordering_reverse r → is_eq (cmp x y) ≡ is_eq r
      by Less e = ap is_eq e
      by Equal e = ap is_eq e
      by Greater e = ap is_eq e

  -- sorted, they are the rising list
  pub rising_from_sorted : CmpEqualImpliesEq cmp → (ks sorted : List K) → IsDistinct (eq_by_cmp cmp) ks → IsPermutation ks sorted → IsSorted cmp sorted → sorted ≡ rising cmp ks
  rising_from_sorted exact ks sorted d moved h =
      one_rising cmp o exact ks sorted (rising cmp ks)
      (record {
        sorted = strictly_from_distinct sorted h (IsDistinct-IsPermutation (eq_by_cmp cmp) flips ks sorted moved d);
        same = λ k. sym (list_any-IsPermutation (λ q. is_eq (cmp k q)) ks sorted moved);
      })
      (IsRisingOf-rising cmp o ks)

-- rows of two positions do not tie
differ : (a b : Row) → a.position < b.position → eq_by_cmp row_cmp a b ≡ false
differ a b above = by (row_cmp a b) refl
  where
    by : (r : Ordering) → row_cmp a b ≡ r → is_eq r ≡ false
    by Less e = refl
    by Equal e = let same : a.position ≡ b.position = ap (λ (r : Row). r.position) (exact_rows a b e) in absurd (omega arith)
    by Greater e = refl

later_differ : (a : Row) (p : ℕ) (ts : List (Facts × Option ℤ)) → a.position < p → AllByRecursion (λ y. eq_by_cmp row_cmp a y ≡ false) (rows_from p ts)
later_differ a p [] above = tt
later_differ a p (t ∷ ts) above = by t.1 (later_differ a (p + 1) ts (omega arith))
  where
    by : (s : Option ℤ) → AllByRecursion (λ y. eq_by_cmp row_cmp a y ≡ false) (rows_from (p + 1) ts) → AllByRecursion (λ y. eq_by_cmp row_cmp a y ≡ false) (row_of p t.0 s ++ rows_from (p + 1) ts)
    by None rest = rest
    by (Some v) rest = (differ a (record { inline = t.0.inline; crossline = t.0.crossline; position = p; value = v }) above, rest)

rows_differ : (p : ℕ) (ts : List (Facts × Option ℤ)) → IsDistinct (eq_by_cmp row_cmp) (rows_from p ts)
unfolding IsDistinct
rows_differ p [] = tt
rows_differ p (t ∷ ts) = by t.1 (rows_differ (p + 1) ts)
  where
    by : (s : Option ℤ) → IsDistinct (eq_by_cmp row_cmp) (rows_from (p + 1) ts) → IsDistinct (eq_by_cmp row_cmp) (row_of p t.0 s ++ rows_from (p + 1) ts)
    by None rest = rest
    by (Some v) rest = (later_differ (record { inline = t.0.inline; crossline = t.0.crossline; position = p; value = v }) (p + 1) ts (omega arith), rest)

-- the rows of a list of traces are their slice once they are sorted
pub slice_from_sorted : (ts : List (Facts × Option ℤ)) (sorted : List Row) → IsPermutation (rows_from 1 ts) sorted → IsSorted row_cmp sorted → sorted ≡ slice_rows ts
slice_from_sorted ts sorted = rising_from_sorted row_cmp row_total exact_rows (rows_from 1 ts) sorted (rows_differ 1 ts)
