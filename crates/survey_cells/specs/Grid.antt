-- The grid of cells that are held with their positions.
use Rattle.std.specs.Prelude.{ℕ, ℤ, ◌*◌, ◌&&◌, List, count_by, Option, option_and_then}
use Rattle.line_problems.specs.declared.spans.LineSpan.{LineSpan}
use Rattle.position_differences.specs.declared.difference.Difference.{Difference}
use Rattle.position_differences.specs.Commonest.{commonest}
use Rattle.cell_positions.specs.declared.survey.SurveyGrid.{SurveyGrid}
use Rattle.cell_positions.specs.Steps.{inlines_apart, crosslines_apart}
use Rattle.cell_positions.specs.Survey.{is_within, lines_in}
use Rattle.survey_cells.specs.declared.cells.SurveyCell.{SurveyCell}
use Rattle.survey_cells.specs.Neighbours.{differences}

-- the commonest difference of cells that are one step apart; nothing where there is no step, or no such pair
abbrev pub usual_held : List SurveyCell → Option (ℤ × ℤ) → Option Difference
usual_held cs step = option_and_then (λ apart. commonest (differences cs apart)) step

-- how many cells have an inline between the first and the last of these inlines, and a crossline between the first and the last of these crosslines
abbrev pub held_within : LineSpan → LineSpan → List SurveyCell → ℕ
held_within i c cs = count_by (λ d. is_within i d.inline && is_within c d.crossline) cs

-- the grid of the cells
abbrev pub grid_in : List SurveyCell → LineSpan → LineSpan → SurveyGrid
grid_in cs i c = record {
  inline = i;
  crossline = c;
  along_inline = usual_held cs (inlines_apart i);
  along_crossline = usual_held cs (crosslines_apart c);
  cells = held_within i c cs;
  full = lines_in i * lines_in c;
}
