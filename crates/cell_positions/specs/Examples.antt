-- Cells of small surveys: their jumps, shared positions and grids, worked by hand.
use Rattle.std.specs.Prelude.{◌≡◌, ℕ, ℤ, pos, true, false, List, [], ◌∷◌, Option, Some, None, option_map, refl}
use Rattle.common_numbers.specs.Commonest.{commonest}
use Rattle.key_counts.specs.Coordinates.{whole, over, greatest_divisor}
use Rattle.trace_record.specs.Facts.{Facts}
use Rattle.trace_record.specs.SmallSurvey.{made}
use Rattle.position_differences.specs.declared.difference.Difference.{Difference}
use Rattle.cell_positions.specs.declared.cell.Cell.{Cell}
use Rattle.cell_positions.specs.declared.survey.SurveyGrid.{SurveyGrid}
use Rattle.cell_positions.specs.declared.trace_pair.TracePair.{TracePair}
use Rattle.cell_positions.specs.Cells.{cells_of}
use Rattle.cell_positions.specs.Steps.{inline_span_of, crossline_span_of}
use Rattle.cell_positions.specs.Jumps.{jumps_of}
use Rattle.cell_positions.specs.Shared.{shared_of}
use Rattle.cell_positions.specs.Survey.{survey_of}

-- a trace at this inline and crossline that stands at x and y
abbrev at : ℤ → ℤ → ℤ → ℤ → Facts
at i c x y = record (made i c (pos 0) x (pos 1) (pos 1) (pos 1)) { y = whole y }

-- three inlines and three crosslines, 25 apart, but the cell in the middle
abbrev around : Facts → List Facts
around middle =
    at (pos 10) (pos 21) (pos 1000) (pos 500) ∷ at (pos 10) (pos 22) (pos 1025) (pos 500) ∷ at (pos 10) (pos 23) (pos 1050) (pos 500)
    ∷ at (pos 11) (pos 21) (pos 1000) (pos 525) ∷ middle ∷ at (pos 11) (pos 23) (pos 1050) (pos 525)
    ∷ at (pos 12) (pos 21) (pos 1000) (pos 550) ∷ at (pos 12) (pos 22) (pos 1025) (pos 550) ∷ at (pos 12) (pos 23) (pos 1050) (pos 550) ∷ []

-- .. which stands in its place
abbrev straight : List Facts
straight = around (at (pos 11) (pos 22) (pos 1025) (pos 525))

-- a cell
abbrev cell : ℤ → ℤ → ℕ → Cell
cell i c n = record { inline = i; crossline = c; trace = n }

-- the first trace of a cell counts, wherever it lies
pub cells-first : cells_of (at (pos 2) (pos 7) (pos 1) (pos 1) ∷ at (pos 1) (pos 9) (pos 1) (pos 1) ∷ at (pos 2) (pos 7) (pos 1) (pos 1) ∷ at (pos 1) (pos 8) (pos 1) (pos 1) ∷ [])
    ≡ cell (pos 1) (pos 8) 4 ∷ cell (pos 1) (pos 9) 2 ∷ cell (pos 2) (pos 7) 1 ∷ []
unfolding cells_of
cells-first = refl

-- ---- jumps

-- a later trace and an earlier one
abbrev traces : ℕ → ℕ → TracePair
traces p q = record { later = p; earlier = q }

pub jumps-straight : jumps_of false straight ≡ None
unfolding cells_of inline_span_of crossline_span_of commonest over greatest_divisor
jumps-straight = refl

-- the cell in the middle was moved by 1000: the four pairs that it has jump
pub jumps-moved : jumps_of false (around (at (pos 11) (pos 22) (pos 2025) (pos 525)))
    ≡ Some (record { pairs = 12; jumps = 4; first_jumps = traces 5 2 ∷ traces 5 4 ∷ traces 6 5 ∷ traces 8 5 ∷ [] })
unfolding cells_of inline_span_of crossline_span_of commonest over greatest_divisor
jumps-moved = refl

-- in a file of shots those of neighbouring inlines alone count
pub jumps-shots : jumps_of true (around (at (pos 11) (pos 22) (pos 2025) (pos 525)))
    ≡ Some (record { pairs = 6; jumps = 2; first_jumps = traces 5 2 ∷ traces 8 5 ∷ [] })
unfolding cells_of inline_span_of crossline_span_of commonest over greatest_divisor
jumps-shots = refl

-- a cell at a local origin has no position
pub jumps-origin : jumps_of false (around (at (pos 11) (pos 22) (pos 0) (pos 0))) ≡ None
unfolding cells_of inline_span_of crossline_span_of commonest over greatest_divisor
jumps-origin = refl

-- a line of one inline bends
pub jumps-bend : jumps_of false (at (pos 1) (pos 1) (pos 100) (pos 100) ∷ at (pos 1) (pos 2) (pos 125) (pos 100) ∷ at (pos 1) (pos 3) (pos 150) (pos 100) ∷ at (pos 1) (pos 4) (pos 150) (pos 125) ∷ at (pos 1) (pos 5) (pos 150) (pos 150) ∷ []) ≡ None
unfolding cells_of inline_span_of crossline_span_of commonest over greatest_divisor
jumps-bend = refl

-- .. and one has a gap
pub jumps-gap : jumps_of false (at (pos 1) (pos 1) (pos 100) (pos 100) ∷ at (pos 1) (pos 2) (pos 125) (pos 100) ∷ at (pos 1) (pos 6) (pos 225) (pos 100) ∷ at (pos 1) (pos 7) (pos 250) (pos 100) ∷ []) ≡ None
unfolding cells_of inline_span_of crossline_span_of commonest over greatest_divisor
jumps-gap = refl

-- ---- shared positions

pub shared-straight : shared_of false straight ≡ None
unfolding cells_of
shared-straight = refl

-- the cell in the middle stands where the first one does
pub shared-middle : shared_of false (around (at (pos 11) (pos 22) (pos 1000) (pos 500))) ≡ Some (record { cells = 1; first_cells = traces 5 1 ∷ [] })
unfolding cells_of
shared-middle = refl

-- of three at one position the second and the third share that of the first
pub shared-three : shared_of false (at (pos 3) (pos 1) (pos 7) (pos 8) ∷ at (pos 2) (pos 1) (pos 7) (pos 8) ∷ at (pos 1) (pos 1) (pos 7) (pos 8) ∷ [])
    ≡ Some (record { cells = 2; first_cells = traces 2 1 ∷ traces 3 1 ∷ [] })
unfolding cells_of
shared-three = refl

-- at a local origin none is shared, nor in a file of shots
pub shared-origin : shared_of false (at (pos 3) (pos 1) (pos 0) (pos 0) ∷ at (pos 2) (pos 1) (pos 0) (pos 0) ∷ []) ≡ None
unfolding cells_of
shared-origin = refl

pub shared-shots : shared_of true (around (at (pos 11) (pos 22) (pos 1000) (pos 500))) ≡ None
shared-shots = refl

-- ---- the grid

-- the numerators of a difference of whole numbers
abbrev whole_difference : Option Difference → Option (ℤ × ℤ)
whole_difference d = option_map (λ e. (e.x.num, e.y.num)) d

-- of a grid: the steps, the differences, the cells and those of a full grid
abbrev in_numbers : SurveyGrid → Option ℤ × Option ℤ × Option (ℤ × ℤ) × Option (ℤ × ℤ) × ℕ × ℕ
in_numbers g = (g.inline.step, g.crossline.step, whole_difference g.along_inline, whole_difference g.along_crossline, g.cells, g.full)

pub survey-straight : option_map in_numbers (survey_of straight) ≡ Some (Some (pos 1), Some (pos 1), Some (pos 0, pos 25), Some (pos 25, pos 0), 9, 9)
unfolding cells_of inline_span_of crossline_span_of commonest over greatest_divisor
survey-straight = refl

-- one inline has no step, and counts once; a line that is missing counts in a full grid
pub survey-line : option_map in_numbers (survey_of (at (pos 1) (pos 1) (pos 100) (pos 100) ∷ at (pos 1) (pos 2) (pos 125) (pos 100) ∷ at (pos 1) (pos 4) (pos 175) (pos 100) ∷ []))
    ≡ Some (None, Some (pos 1), None, Some (pos 25, pos 0), 3, 4)
unfolding cells_of inline_span_of crossline_span_of commonest over greatest_divisor
survey-line = refl

pub survey-none : survey_of [] ≡ None
unfolding cells_of inline_span_of crossline_span_of commonest
survey-none = refl
