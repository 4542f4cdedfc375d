-- The grid of a survey in one line.
use Rattle.std.specs.Prelude.{ℕ, ℤ, ◌+◌, ◌*◌, ◌/◌, ◌-ℤ◌, ◌&&◌, Bool, List, count_by, int_le, unsigned_abs, Option, option_map, option_and_then}
use Rattle.std.specs.Option.{option_map_or}
use Rattle.line_problems.specs.declared.spans.LineSpan.{LineSpan}
use Rattle.trace_record.specs.Facts.{Facts}
use Rattle.position_differences.specs.declared.difference.Position.{Position}
use Rattle.position_differences.specs.declared.difference.Difference.{Difference}
use Rattle.cell_positions.specs.declared.cell.Cell.{Cell}
use Rattle.cell_positions.specs.declared.survey.SurveyGrid.{SurveyGrid}
use Rattle.cell_positions.specs.Cells.{cells_of}
use Rattle.cell_positions.specs.Placed.{positions_of}
use Rattle.cell_positions.specs.Pairs.{pairs_of, usual_of}
use Rattle.cell_positions.specs.Steps.{inlines_apart, crosslines_apart, inline_span_of, crossline_span_of}

-- the number lies between the first and the last of some lines
abbrev pub is_within : LineSpan → ℤ → Bool
is_within span n = int_le span.first n && int_le n span.last

-- how many lines there are from the first to the last, one step from the other; where there is no step it is one
abbrev pub lines_in : LineSpan → ℕ
lines_in span = option_map_or (λ s. unsigned_abs (span.last -ℤ span.first) / unsigned_abs s + 1) span.step 1

-- how many cells have an inline between the first and the last inline, and a crossline between the first and the last crossline
abbrev pub cells_within : LineSpan → LineSpan → List Cell → ℕ
cells_within i c cs = count_by (λ d. is_within i d.inline && is_within c d.crossline) cs

-- the commonest difference of positions of cells that are one step apart; nothing where there is no step, or no such pair
abbrev pub usual_along : List (Option Position) → List Cell → Option (ℤ × ℤ) → Option Difference
usual_along ps cs step = option_and_then (λ apart. usual_of (pairs_of ps cs apart)) step

-- the grid of these cells
abbrev pub grid_of : List (Option Position) → List Cell → LineSpan → LineSpan → SurveyGrid
grid_of ps cs i c = record {
  inline = i;
  crossline = c;
  along_inline = usual_along ps cs (inlines_apart i);
  along_crossline = usual_along ps cs (crosslines_apart c);
  cells = cells_within i c cs;
  full = lines_in i * lines_in c;
}

-- the grid of the survey of these traces, without the inlines and crosslines that are far from the others; nothing of no trace
abbrev pub survey_of : List Facts → Option SurveyGrid
survey_of fs = option_and_then (λ i. option_map (grid_of (positions_of fs) (cells_of fs) i) (crossline_span_of fs)) (inline_span_of fs)
