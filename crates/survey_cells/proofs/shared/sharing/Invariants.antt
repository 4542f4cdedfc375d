use Rattle.std.specs.Prelude.{◌≡◌, ◌≤◌, ◌++◌, drop, map}
use Rattle.cell_positions.specs.Shared.{sharing, sharing_behind}
use Rattle.survey_cells.specs.Standing.{standing_in}
use Rattle.survey_cells.proofs.shared.sharing.Given as goal

-- those so far and those behind the last first one are all
abbrev pub invariant-loop-cell : goal.invariant-loop-cell
invariant-loop-cell l = (l.pairs.items ++ sharing_behind (standing_in l.last) (map standing_in (drop l.cell-index l.others)) ≡ sharing (map standing_in l.fn.cells)) × (l.initial.room ≤ l.room)
