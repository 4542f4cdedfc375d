-- Each trace, as a cell of its own, stands where the list of all positions says.
use Rattle.std.specs.Prelude.{◌≡◌, ℕ, ◌+◌, ◌-◌, ◌<◌, zero, suc, List, [], ◌∷◌, length, map, Option, Some, slice_get, option_and_then}
use Rattle.std.proofs.Common.{arith, sym, ap, ◌∙◌, get_or}
use Rattle.std.proofs.lemmas.List.{get_or-map, length-map}
use Rattle.std.proofs.lemmas.Option.{slice_get-get_or}
use Rattle.trace_record.specs.Facts.{Facts}
use Rattle.position_differences.specs.declared.difference.Position.{Position}
use Rattle.cell_positions.specs.declared.cell.Cell.{Cell}
use Rattle.cell_positions.specs.Cells.{each_from}
use Rattle.cell_positions.specs.Placed.{position_of, positions_of}
use Rattle.survey_cells.specs.declared.cells.SurveyCell.{SurveyCell}
use Rattle.survey_cells.specs.Held.{cell_in, place_in, StandWhere}

each_trace : (n : ℕ) (fs : List Facts) (k : ℕ) (e : Cell) → k < length fs → (get_or (each_from n fs) k e).trace ≡ n + k
each_trace n [] k e h = absurd (omega arith)
each_trace n (f ∷ fs) zero e h = omega arith
each_trace n (f ∷ fs) (suc k) e h = each_trace (n + 1) fs k e (omega arith) ∙ omega arith

pub each_stands : (fs : List Facts) (xs : List SurveyCell) → map cell_in xs ≡ each_from 1 fs → map place_in xs ≡ positions_of fs → StandWhere (positions_of fs) xs
each_stands fs xs cells places k d inside =
    let c : SurveyCell = get_or xs k d in
    let ps : List (Option Position) = positions_of fs in
    let same : length ps ≡ length xs = sym (ap length places) ∙ length-map xs place_in in
    let all : length ps ≡ length fs = length-map fs position_of in
    let trace : c.trace ≡ 1 + k
    = ap (λ (e : Cell). e.trace) (sym (get_or-map cell_in xs k d (cell_in d) inside) ∙ ap (λ (l : List Cell). get_or l k (cell_in d)) cells) ∙ each_trace 1 fs k (cell_in d) (omega arith) in
    let place : place_in c ≡ get_or ps k (place_in d) = sym (get_or-map place_in xs k d (place_in d) inside) ∙ ap (λ (l : List (Option Position)). get_or l k (place_in d)) places in
    let at : slice_get ps k ≡ Some (get_or ps k (place_in d)) = slice_get-get_or ps k (place_in d) (omega arith) in
    let before : c.trace - 1 ≡ k = omega arith in
    place ∙ sym (ap (λ (n : ℕ). option_and_then (λ p. p) (slice_get ps n)) before ∙ ap (λ o. option_and_then (λ p. p) o) at)
