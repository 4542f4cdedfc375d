-- What a sort leaves of pairs of traces, and of cells by their positions.
use Rattle.std.specs.Prelude.{◌≡◌, ℕ, List}
use Rattle.std.proofs.Common.{ap, IsPermutation, IsSorted}
use Rattle.std.specs.Ordering.{nat_cmp}
use Rattle.std.specs.Cmp.{IsTotalOrder, then_total, on_total}
use Rattle.std.proofs.lemmas.Cmp.{nat_cmp_total}
use Rattle.std.proofs.lemmas.Map.Lookups.{CmpEqualImpliesEq, exact_unsigned, exact_pairs}
use Rattle.cell_positions.specs.declared.trace_pair.TracePair.{TracePair}
use Rattle.cell_positions.specs.InOrder.{in_order}
use Rattle.cell_positions.specs.Jumps.{trace_pair_cmp}
use Rattle.survey_cells.proofs.OrderLemmas.{sorted_is}

pair_total : IsTotalOrder trace_pair_cmp
pair_total = then_total (on_total (λ (p : TracePair). p.later) nat_cmp_total) (on_total (λ (p : TracePair). p.earlier) nat_cmp_total)

pair_with : ℕ × ℕ → TracePair
pair_with p = record { later = p.0; earlier = p.1 }

exact_trace_pairs : CmpEqualImpliesEq trace_pair_cmp
unfolding pair_with
exact_trace_pairs a b e = ap pair_with (exact_pairs nat_cmp nat_cmp exact_unsigned exact_unsigned (a.later, a.earlier) (b.later, b.earlier) e)

pub sorted_pairs : (xs ys : List TracePair) → IsPermutation xs ys → IsSorted trace_pair_cmp ys → ys ≡ in_order trace_pair_cmp xs
sorted_pairs xs ys same sorted = sorted_is trace_pair_cmp pair_total exact_trace_pairs xs ys same sorted
