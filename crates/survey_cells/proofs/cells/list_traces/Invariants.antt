use Rattle.std.proofs.Common.{◌≡◌, ◌≤◌, ◌+◌, ◌++◌, length, map}
use Rattle.trace_record.specs.Facts.{facts_of}
use Rattle.cell_positions.specs.Cells.{each_from}
use Rattle.cell_positions.specs.Placed.{positions_of}
use Rattle.survey_cells.specs.Held.{cell_in, place_in}
use Rattle.survey_cells.proofs.cells.list_traces.Given as goal

-- those so far and those that are left are all
abbrev pub invariant-loop-record : goal.invariant-loop-record
invariant-loop-record l = record {
  count : l.trace + length l.record-iterator ≡ length l.fn.records;
  cells : map cell_in l.list.items ++ each_from (l.trace + 1) (map facts_of l.record-iterator) ≡ each_from 1 (map facts_of l.fn.records);
  places : map place_in l.list.items ++ positions_of (map facts_of l.record-iterator) ≡ positions_of (map facts_of l.fn.records);
  memory : l.initial.room ≤ l.room;
}
