-- The faults that tallies of runs counted, one tally for each problem.
use Rattle.std.specs.Prelude.{ℕ, List}
use Rattle.fault_live.specs.declared.fault.Fault.{Fault}
use Rattle.trace_groups.specs.OfTally.{IsTallyOf, IsWithin}
use Rattle.trace_groups.specs.FaultGroups.{fault_marks, sequence_facts, samples_facts, interval_facts, scalar_facts, units_facts, repeated_facts, name_facts}
use Rattle.trace_groups.specs.declared.fault_tallies.FaultTallies.{FaultTallies}

-- each counted the traces that these faults are of
pub record AreTalliesOf (fs : List Fault) (t : FaultTallies) : Type 0 where
  pub sequence : IsTallyOf (fault_marks sequence_facts fs) t.sequence
  pub samples : IsTallyOf (fault_marks samples_facts fs) t.samples
  pub interval : IsTallyOf (fault_marks interval_facts fs) t.interval
  pub scalar : IsTallyOf (fault_marks scalar_facts fs) t.scalar
  pub units : IsTallyOf (fault_marks units_facts fs) t.units
  pub repeated : IsTallyOf (fault_marks repeated_facts fs) t.repeated
  pub name : IsTallyOf (fault_marks name_facts fs) t.name

-- each has at most so many traces and closed runs
pub record AreWithin (n : ℕ) (t : FaultTallies) : Type 0 where
  pub sequence : IsWithin n t.sequence
  pub samples : IsWithin n t.samples
  pub interval : IsWithin n t.interval
  pub scalar : IsWithin n t.scalar
  pub units : IsWithin n t.units
  pub repeated : IsWithin n t.repeated
  pub name : IsWithin n t.name
