-- Pairs of neighbours among cells that are held with their positions.
use Rattle.std.specs.Prelude.{ℤ, ◌+ℤ◌, ◌-ℤ◌, ◌&&◌, List, find, filter_map, Option, option_map, option_and_then}
use Rattle.std.specs.Ordering.{int_eq}
use Rattle.position_differences.specs.declared.difference.Difference.{Difference}
use Rattle.position_differences.specs.Differences.{difference_of}
use Rattle.cell_positions.specs.declared.pairs.Pair.{Pair}
use Rattle.survey_cells.specs.declared.cells.SurveyCell.{SurveyCell}
use Rattle.survey_cells.specs.declared.pairs.Neighbours.{Neighbours}
use Rattle.survey_cells.specs.Held.{cell_in, place_in}

-- the cell at an inline and a crossline, where there is one
abbrev pub held_at : List SurveyCell → ℤ → ℤ → Option SurveyCell
held_at cs i c = find (λ d. int_eq d.inline i && int_eq d.crossline c) cs

-- the cell that lies so many inlines and crosslines beyond another
abbrev pub held_beyond : List SurveyCell → ℤ × ℤ → SurveyCell → Option SurveyCell
held_beyond cs apart c = held_at cs (c.inline +ℤ apart.0) (c.crossline +ℤ apart.1)

-- the cell that lies so many in front of another
abbrev pub held_before : List SurveyCell → ℤ × ℤ → SurveyCell → Option SurveyCell
held_before cs apart c = held_at cs (c.inline -ℤ apart.0) (c.crossline -ℤ apart.1)

-- how far the second cell's position lies above the first's; nothing where one of them has none
abbrev pub difference_in : SurveyCell → SurveyCell → Option Difference
difference_in c d = option_and_then (λ p. option_map (difference_of p) (place_in d)) (place_in c)

-- the difference of the pair that begins at a cell, where there is one
abbrev pub difference_beyond : List SurveyCell → ℤ × ℤ → SurveyCell → Option Difference
difference_beyond cs apart c = option_and_then (difference_in c) (held_beyond cs apart c)

-- those of all pairs of cells that lie so many apart
abbrev pub differences : List SurveyCell → ℤ × ℤ → List Difference
differences cs apart = filter_map (difference_beyond cs apart) cs

-- a cell with the one that lies so many beyond it, where both have positions
abbrev pub neighbours_from : List SurveyCell → ℤ × ℤ → SurveyCell → Option Neighbours
neighbours_from cs apart c =
    option_and_then (λ d. option_map (λ v. record { first = c; second = d; difference = v }) (difference_in c d)) (held_beyond cs apart c)

-- the pair that they are
abbrev pub pair_in : Neighbours → Pair
pair_in n = record { first = cell_in n.first; second = cell_in n.second; difference = n.difference }

-- the difference of the pair in front of a pair on its line, which ends where the pair begins
abbrev pub difference_ahead : List SurveyCell → ℤ × ℤ → Neighbours → Option Difference
difference_ahead cs apart n = option_and_then (difference_beyond cs apart) (held_before cs apart n.first)
