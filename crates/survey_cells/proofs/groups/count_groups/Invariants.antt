use Rattle.std.specs.Prelude.{map, take}
use Rattle.survey_cells.specs.Groups.{IsCountedBy}
use Rattle.survey_cells.specs.Standing.{standing_in}
use Rattle.survey_cells.proofs.groups.count_groups.Given as goal

-- the cells so far are counted
abbrev pub invariant-loop-cell : goal.invariant-loop-cell
invariant-loop-cell l = IsCountedBy l.groups (map standing_in (take l.cell-index l.cells)) l.sizes.items
