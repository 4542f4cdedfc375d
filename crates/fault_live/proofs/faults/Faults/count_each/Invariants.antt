use Rattle.std.proofs.Common.{◌≡◌, ◌≤◌, ◌++◌, map}
use Rattle.trace_record.specs.Facts.{facts_of}
use Rattle.trace_record.specs.Tally.{Same, tally_of}
use Rattle.fault_live.specs.FaultKeys.{keys_of_faults}
use Rattle.fault_live.specs.OfFaults.{tally_of_faults}
use Rattle.fault_live.proofs.faults.Faults.count_each.Given as goal

-- the records so far are counted
abbrev pub invariant-loop-trace : goal.invariant-loop-trace
invariant-loop-trace l = (l.yielded ++ l.trace-iterator ≡ l.fn.records) × Same (tally_of_faults l.self) (tally_of keys_of_faults (map facts_of l.yielded)) × (l.initial.room ≤ l.room)
