-- Which of the cells that are held have positions, and these as `cell_positions` orders them.
use Rattle.std.specs.Prelude.{pos, ◌&&◌, not, Bool}
use Rattle.std.specs.Ordering.{int_eq}
use Rattle.key_counts.specs.Packed.{ratio_in}
use Rattle.cell_positions.specs.declared.shared.PlacedCell.{PlacedCell}
use Rattle.survey_cells.specs.declared.cells.SurveyCell.{SurveyCell}

-- the cell has a position
abbrev pub is_standing : SurveyCell → Bool
is_standing c = not (int_eq (ratio_in c.x).num (pos 0) && int_eq (ratio_in c.y).num (pos 0))

-- the cell by its first trace and its coordinates
abbrev pub standing_in : SurveyCell → PlacedCell
standing_in c = record { x = ratio_in c.x; y = ratio_in c.y; trace = c.trace }
