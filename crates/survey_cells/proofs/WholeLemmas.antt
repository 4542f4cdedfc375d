-- What the cells of traces tell is what the traces tell.
use Rattle.std.specs.Prelude.{◌≡◌, ℕ, ℤ, ◌*◌, Bool, false, List, map, filter, Option, Some, None, option_map, option_and_then, refl}
use Rattle.std.proofs.Common.{sym, ap, ap₂, ◌∙◌}
use Rattle.line_problems.specs.declared.spans.LineSpan.{LineSpan}
use Rattle.trace_record.specs.Facts.{Facts}
use Rattle.position_differences.specs.declared.difference.Difference.{Difference}
use Rattle.cell_positions.specs.declared.cell.Cell.{Cell}
use Rattle.cell_positions.specs.declared.shared.PlacedCell.{PlacedCell}
use Rattle.cell_positions.specs.declared.survey.SurveyGrid.{SurveyGrid}
use Rattle.cell_positions.specs.InOrder.{in_order}
use Rattle.cell_positions.specs.Cells.{cells_of}
use Rattle.cell_positions.specs.Placed.{positions_of}
use Rattle.cell_positions.specs.Steps.{inlines_apart, crosslines_apart, inline_span_of, crossline_span_of}
use Rattle.cell_positions.specs.Jumps.{trace_pair_cmp, jumps_along, crossline_step, jumps_of, told_of_both}
use Rattle.cell_positions.specs.Shared.{placed_cells, placed_cmp, sharing, shared_told, shared_of}
use Rattle.cell_positions.specs.Survey.{grid_of, lines_in, survey_of}
use Rattle.survey_cells.specs.declared.cells.SurveyCell.{SurveyCell}
use Rattle.survey_cells.specs.Held.{cell_in, AreCellsOf}
use Rattle.survey_cells.specs.Along.{held_along}
use Rattle.survey_cells.specs.Standing.{is_standing, standing_in}
use Rattle.survey_cells.specs.Grid.{grid_in}
use Rattle.survey_cells.proofs.HeldLemmas.{along_is, usual_is, placed_are, within_same}

module _ (fs : List Facts) (cs : List SurveyCell) (are : AreCellsOf fs cs) where
  along : (step : Option (ℤ × ℤ)) (o : Option (ℤ × ℤ)) → step ≡ o → held_along cs step ≡ jumps_along (positions_of fs) (cells_of fs) o
  along step o e = sym (along_is (positions_of fs) cs are.1 step) ∙ ap₂ (λ (l : List Cell) (s : Option (ℤ × ℤ)). jumps_along (positions_of fs) l s) are.0 e

  pub jumps_are : (shots : Bool) (inlines crosslines : Option (ℤ × ℤ)) → inlines ≡ option_and_then inlines_apart (inline_span_of fs) → crosslines ≡ crossline_step shots fs
      → told_of_both (held_along cs inlines) (held_along cs crosslines) ≡ jumps_of shots fs
  jumps_are shots inlines crosslines one other = ap₂ told_of_both (along inlines (option_and_then inlines_apart (inline_span_of fs)) one) (along crosslines (crossline_step shots fs) other)

  pub shared_are : shared_told (in_order trace_pair_cmp (sharing (in_order placed_cmp (map standing_in (filter is_standing cs))))) ≡ shared_of false fs
  shared_are =
      ap (λ (l : List PlacedCell). shared_told (in_order trace_pair_cmp (sharing (in_order placed_cmp l))))
      (sym (placed_are (positions_of fs) cs are.1) ∙ ap (λ (l : List Cell). placed_cells (positions_of fs) l) are.0)

  abbrev grid_with : LineSpan → LineSpan → Option Difference → Option Difference → ℕ → SurveyGrid
  grid_with i c a b n = record { inline = i; crossline = c; along_inline = a; along_crossline = b; cells = n; full = lines_in i * lines_in c }

  grid_same : (i c : LineSpan) → grid_in cs i c ≡ grid_of (positions_of fs) (cells_of fs) i c
  grid_same i c =
      ap₂ (λ (a b : Option Difference). grid_with i c a b (grid_in cs i c).cells) (sym (usual_is (positions_of fs) cs are.1 (inlines_apart i))) (sym (usual_is (positions_of fs) cs are.1 (crosslines_apart c)))
      ∙ ap (λ (n : ℕ). grid_with i c (grid_of (positions_of fs) (map cell_in cs) i c).along_inline (grid_of (positions_of fs) (map cell_in cs) i c).along_crossline n) (sym (within_same i c cs))
      ∙ ap (λ (l : List Cell). grid_of (positions_of fs) l i c) are.0

  pub survey_is : (i c : LineSpan) → inline_span_of fs ≡ Some i → crossline_span_of fs ≡ Some c → Some (grid_in cs i c) ≡ survey_of fs
  survey_is i c one other =
      ap Some (grid_same i c)
      ∙ sym (ap₂ (λ (a b : Option LineSpan). option_and_then (λ j. option_map (grid_of (positions_of fs) (cells_of fs) j) b) a) one other)

pub no_inlines : (fs : List Facts) → inline_span_of fs ≡ None → None ≡ survey_of fs
no_inlines fs e = sym (ap (λ (a : Option LineSpan). option_and_then (λ j. option_map (grid_of (positions_of fs) (cells_of fs) j) (crossline_span_of fs)) a) e)

pub no_crosslines : (fs : List Facts) → crossline_span_of fs ≡ None → None ≡ survey_of fs
no_crosslines fs e = sym (ap (λ (b : Option LineSpan). option_and_then (λ j. option_map (grid_of (positions_of fs) (cells_of fs) j) b) (inline_span_of fs)) e ∙ nothing (inline_span_of fs))
  where
    nothing : (a : Option LineSpan) → option_and_then (λ j. option_map (grid_of (positions_of fs) (cells_of fs) j) None) a ≡ None
    nothing None = refl
    nothing (Some j) = refl
