-- The pairs that jump among cells that are held with their positions.
use Rattle.std.specs.Prelude.{ℕ, ℤ, Bool, List, [], length, map, filter, filter_map, Option}
use Rattle.std.specs.Option.{option_map_or}
use Rattle.position_differences.specs.declared.difference.Difference.{Difference}
use Rattle.position_differences.specs.Differences.{is_jump}
use Rattle.position_differences.specs.Commonest.{commonest}
use Rattle.cell_positions.specs.declared.trace_pair.TracePair.{TracePair}
use Rattle.cell_positions.specs.Jumps.{traces_of}
use Rattle.survey_cells.specs.declared.cells.SurveyCell.{SurveyCell}
use Rattle.survey_cells.specs.declared.pairs.Neighbours.{Neighbours}
use Rattle.survey_cells.specs.Neighbours.{pair_in, neighbours_from, differences, difference_beyond, difference_ahead}

-- two neighbours that lie so many apart jump where u is the usual difference of such pairs
abbrev pub jumps_among : List SurveyCell → ℤ × ℤ → Difference → Neighbours → Bool
jumps_among cs apart u n = is_jump u (difference_ahead cs apart n) n.difference (difference_beyond cs apart n.second)

-- the first traces of those that jump
abbrev pub jump_traces : List SurveyCell → ℤ × ℤ → Difference → List TracePair
jump_traces cs apart u = map (λ n. traces_of (pair_in n)) (filter (jumps_among cs apart u) (filter_map (neighbours_from cs apart) cs))

-- how many pairs of cells that have positions lie so many apart, and the first traces of those that jump, where the usual difference is the commonest;
-- without a step, or a pair, nothing
abbrev pub held_along : List SurveyCell → Option (ℤ × ℤ) → ℕ × List TracePair
held_along cs step =
    option_map_or (λ apart. option_map_or (λ u. (length (differences cs apart), jump_traces cs apart u)) (commonest (differences cs apart)) (0, [])) step (0, [])
