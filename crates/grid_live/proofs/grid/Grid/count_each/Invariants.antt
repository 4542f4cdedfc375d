use Rattle.std.proofs.Common.{◌≡◌, ◌≤◌, ◌++◌, map}
use Rattle.trace_record.specs.Facts.{facts_of}
use Rattle.trace_record.specs.Tally.{Same, tally_of}
use Rattle.grid_live.specs.GridKeys.{keys_of_grid}
use Rattle.grid_live.specs.OfGrid.{tally_of_grid}
use Rattle.grid_live.proofs.grid.Grid.count_each.Given as goal

-- the records so far are counted
abbrev pub invariant-loop-trace : goal.invariant-loop-trace
invariant-loop-trace l = (l.yielded ++ l.trace-iterator ≡ l.fn.records) × Same (tally_of_grid l.self) (tally_of keys_of_grid (map facts_of l.yielded)) × (l.initial.room ≤ l.room)
