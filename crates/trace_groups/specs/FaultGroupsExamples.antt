-- Groups of faults, worked by hand.
use Rattle.std.specs.Prelude.{◌≡◌, pos, negsuc, true, false, List, [], ◌∷◌, refl}
use Rattle.fault_live.specs.declared.fault.Fault.{Fault}
use Rattle.fault_live.specs.declared.fault.Fault.TheVariants as fault
use Rattle.trace_groups.specs.declared.problem.TraceProblem.TheVariants as problem
use Rattle.trace_groups.specs.FaultGroups.{groups_of}

-- numbers that count on behind a trace that was left out, a trace that stands twice, and a fault of the file
abbrev faults : List Fault
faults =
    fault.TraceCount 9 4 ∷ fault.Sequence 2 (pos 3) ∷ fault.Samples 2 7 2 ∷ fault.Sequence 3 (pos 4) ∷ fault.Units 3 (pos 1) (pos 2)
    ∷ fault.Sequence 4 (pos 1) ∷ fault.Repeated 4 1 ∷ []

pub groups-all : groups_of false faults
    ≡ record { problem = problem.Sequence; traces = 3; runs = 2; first_runs = record { first = 2; last = 3; facts = (pos 1, pos 0) } ∷ record { first = 4; last = 4; facts = (negsuc 2, pos 0) } ∷ [] }
    ∷ record { problem = problem.Samples; traces = 1; runs = 1; first_runs = record { first = 2; last = 2; facts = (pos 7, pos 2) } ∷ [] }
    ∷ record { problem = problem.Units; traces = 1; runs = 1; first_runs = record { first = 3; last = 3; facts = (pos 1, pos 2) } ∷ [] }
    ∷ record { problem = problem.Repeated; traces = 1; runs = 1; first_runs = record { first = 4; last = 4; facts = (pos 3, pos 0) } ∷ [] } ∷ []
groups-all = refl

-- without repeated traces
pub groups-no_repeats : groups_of true (fault.Interval 1 2000 4000 ∷ fault.Interval 2 2000 4000 ∷ fault.Repeated 2 1 ∷ fault.Name 2 ∷ fault.Scalar 3 (pos 7) ∷ [])
    ≡ record { problem = problem.Interval; traces = 2; runs = 1; first_runs = record { first = 1; last = 2; facts = (pos 2000, pos 4000) } ∷ [] }
    ∷ record { problem = problem.Scalar; traces = 1; runs = 1; first_runs = record { first = 3; last = 3; facts = (pos 7, pos 0) } ∷ [] }
    ∷ record { problem = problem.Name; traces = 1; runs = 1; first_runs = record { first = 2; last = 2; facts = (pos 0, pos 0) } ∷ [] } ∷ []
groups-no_repeats = refl
