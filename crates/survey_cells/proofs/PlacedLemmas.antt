-- What a sort leaves of cells by their positions.
use Rattle.std.specs.Prelude.{◌≡◌, ℕ, List, map}
use Rattle.std.proofs.Common.{ap, IsPermutation}
use Rattle.std.specs.Ordering.{nat_cmp, ordering_then}
use Rattle.std.specs.List.Sorted.{IsSortedByKey}
use Rattle.std.specs.Cmp.{IsTotalOrder, then_total, on_total}
use Rattle.std.proofs.lemmas.Cmp.{nat_cmp_total}
use Rattle.std.proofs.lemmas.List.Sorted.{IsPermutation-map}
use Rattle.std.proofs.lemmas.Map.Lookups.{CmpEqualImpliesEq, exact_unsigned, exact_pairs}
use Rattle.key_counts.specs.RatioOrder.{ratio_cmp, ratio_total, exact_ratios}
use Rattle.key_counts.specs.declared.ratio.Ratio.{Ratio}
use Rattle.cell_positions.specs.declared.shared.PlacedCell.{PlacedCell}
use Rattle.cell_positions.specs.InOrder.{in_order}
use Rattle.cell_positions.specs.Shared.{placed_cmp}
use Rattle.survey_cells.specs.declared.cells.SurveyCell.{SurveyCell}
use Rattle.survey_cells.specs.Standing.{standing_in}
use Rattle.survey_cells.proofs.OrderLemmas.{sorted_is}
use Rattle.survey_cells.proofs.CellLemmas.{sorted-map}

pub placed_total : IsTotalOrder placed_cmp
placed_total = then_total (on_total (λ (p : PlacedCell). p.x) ratio_total) (then_total (on_total (λ (p : PlacedCell). p.y) ratio_total) (on_total (λ (p : PlacedCell). p.trace) nat_cmp_total))

placed_with : Ratio × (Ratio × ℕ) → PlacedCell
placed_with p = record { x = p.0; y = p.1.0; trace = p.1.1 }

exact_placed : CmpEqualImpliesEq placed_cmp
unfolding placed_with
exact_placed a b e =
    ap placed_with (exact_pairs ratio_cmp (λ (p q : Ratio × ℕ). ordering_then (ratio_cmp p.0 q.0) (nat_cmp p.1 q.1)) exact_ratios (exact_pairs ratio_cmp nat_cmp exact_ratios exact_unsigned) (a.x, (a.y, a.trace)) (b.x, (b.y, b.trace)) e)

-- what a sort by key leaves of cells is the list in order
pub sorted_standing : (xs ys : List SurveyCell) → IsPermutation xs ys → IsSortedByKey standing_in placed_cmp ys → map standing_in ys ≡ in_order placed_cmp (map standing_in xs)
sorted_standing xs ys same sorted =
    sorted_is placed_cmp placed_total exact_placed (map standing_in xs) (map standing_in ys) (IsPermutation-map standing_in xs ys same) (sorted-map standing_in placed_cmp ys sorted)
