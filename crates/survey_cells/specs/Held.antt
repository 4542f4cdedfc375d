-- Cells as they are held: each with its first trace, and where that stands.
use Rattle.std.specs.Prelude.{◌≡◌, List, All, map, Option}
use Rattle.std.specs.List.Sorted.{IsStrictlySortedBy}
use Rattle.key_counts.specs.Packed.{ratio_in}
use Rattle.trace_record.specs.Facts.{Facts}
use Rattle.position_differences.specs.declared.difference.Position.{Position}
use Rattle.cell_positions.specs.declared.cell.Cell.{Cell}
use Rattle.cell_positions.specs.Cells.{cells_of, line_cmp}
use Rattle.cell_positions.specs.Placed.{standing_at, position_at, positions_of}
use Rattle.survey_cells.specs.declared.cells.SurveyCell.{SurveyCell}

-- the cell with its first trace
abbrev pub cell_in : SurveyCell → Cell
cell_in c = record { inline = c.inline; crossline = c.crossline; trace = c.trace }

-- the cells rise by inline and crossline, and no two have both the same
abbrev pub HeldRise : List SurveyCell → Type 0
HeldRise cs = IsStrictlySortedBy (λ a b. line_cmp (cell_in a) (cell_in b)) cs

-- the position that it is held with
abbrev pub place_in : SurveyCell → Option Position
place_in c = standing_at (ratio_in c.x) (ratio_in c.y)

-- each is held with the position of its first trace, where these are the positions of all traces
abbrev pub StandWhere : List (Option Position) → List SurveyCell → Type 0
StandWhere ps cs = All (λ c. place_in c ≡ position_at ps c.trace) cs

-- they are the cells of these traces, each with the position of its first trace
abbrev pub AreCellsOf : List Facts → List SurveyCell → Type 0
AreCellsOf fs cs = (map cell_in cs ≡ cells_of fs) × StandWhere (positions_of fs) cs
