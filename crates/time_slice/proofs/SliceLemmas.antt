-- Laws of slices: there is one, and at most one.
use Rattle.std.specs.Prelude.{◌≡◌, ℤ, List, Option, refl}
use Rattle.std.specs.Ordering.{int_cmp, nat_cmp, ordering_then}
use Rattle.std.specs.Cmp.{IsTotalOrder, on_total, then_total, int_cmp_total, nat_cmp_total}
use Rattle.std.specs.declared.cmp.Ordering.{Ordering}
use Rattle.std.specs.declared.cmp.Ordering.TheVariants.{Less, Equal, Greater}
use Rattle.std.proofs.lemmas.Map.Lookups.{CmpEqualImpliesEq, exact_signed, exact_unsigned}
use Rattle.trace_record.specs.Facts.{Facts}
use Rattle.key_counts.proofs.RisingLemmas.{IsRisingOf-rising, one_rising}
use Rattle.bench_rules.specs.declared.row.Row.{Row}
use Rattle.bench_rules.specs.Slices.{row_cmp, rows_from, slice_rows, IsSlice}

pub row_total : IsTotalOrder row_cmp
row_total =
    then_total (on_total (λ (r : Row). r.inline) int_cmp_total)
    (then_total (on_total (λ (r : Row). r.crossline) int_cmp_total)
    (then_total (on_total (λ (r : Row). r.position) nat_cmp_total) (on_total (λ (r : Row). r.value) int_cmp_total)))

both_equal : (a b : Ordering) → ordering_then a b ≡ Equal → (a ≡ Equal) × (b ≡ Equal)
both_equal Less b e = cc
both_equal Equal b e = (refl, e)
both_equal Greater b e = cc

-- rows that compare equal are one
pub exact_rows : CmpEqualImpliesEq row_cmp
exact_rows x y e =
    let a = both_equal (int_cmp x.inline y.inline) _ e in
    let b = both_equal (int_cmp x.crossline y.crossline) _ a.1 in
    let c = both_equal (nat_cmp x.position y.position) (int_cmp x.value y.value) b.1 in
    let inline : x.inline ≡ y.inline = exact_signed x.inline y.inline a.0 in
    let crossline : x.crossline ≡ y.crossline = exact_signed x.crossline y.crossline b.0 in
    let position : x.position ≡ y.position = exact_unsigned x.position y.position c.0 in
    let value : x.value ≡ y.value = exact_signed x.value y.value c.1 in
    λ i. record { inline = inline i; crossline = crossline i; position = position i; value = value i }

-- the rows that are computed are a slice
pub IsSlice-slice_rows : (ts : List (Facts × Option ℤ)) → IsSlice ts (slice_rows ts)
IsSlice-slice_rows ts = IsRisingOf-rising row_cmp row_total (rows_from 1 ts)

-- there is at most one slice
pub one_slice : (ts : List (Facts × Option ℤ)) (xs ys : List Row) → IsSlice ts xs → IsSlice ts ys → xs ≡ ys
one_slice ts xs ys a b = one_rising row_cmp row_total exact_rows (rows_from 1 ts) xs ys a b
