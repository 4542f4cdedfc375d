use Rattle.std.specs.Prelude.{◌≡◌, ◌≤◌, ◌++◌, map, filter, filter_map, take}
use Rattle.cell_positions.specs.Jumps.{traces_of}
use Rattle.survey_cells.specs.Neighbours.{neighbours_from, pair_in}
use Rattle.survey_cells.specs.Along.{jumps_among}
use Rattle.survey_cells.proofs.jumps.add_each_jump.Given as goal

-- the pairs so far that jump are told
abbrev pub invariant-loop-cell : goal.invariant-loop-cell
invariant-loop-cell l =
    (l.traces.items ≡ l.initial.traces.items
    ++ map (λ n. traces_of (pair_in n)) (filter (jumps_among l.cells l.apart l.usual) (filter_map (neighbours_from l.cells l.apart) (take l.cell-index l.cells))))
    × (l.initial.room ≤ l.room)
