use Rattle.std.proofs.Common.{◌≤◌, take}
use Rattle.trace_groups.specs.OfFaultTallies.{AreTalliesOf, AreWithin}
use Rattle.trace_groups.proofs.by_fault.fault_groups.Given as goal

-- the faults so far are counted
abbrev pub invariant-loop-fault : goal.invariant-loop-fault
invariant-loop-fault l = AreWithin l.fault-index l.tallies × AreTalliesOf (take l.fault-index l.fn.faults) l.tallies × (l.initial.room ≤ l.room)
