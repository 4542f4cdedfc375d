-- The traces that faults are of, group by group.
use Rattle.std.specs.Prelude.{ℕ, ℤ, pos, ◌-ℤ◌, Bool, List, [], ◌++◌, Option, Some, None, option_to_list, flat_map, if◌then◌else◌}
use Rattle.fault_live.specs.declared.fault.Fault.{Fault}
use Rattle.fault_live.specs.declared.fault.Fault.TheVariants as fault
use Rattle.trace_groups.specs.declared.mark.Mark.{Mark}
use Rattle.trace_groups.specs.declared.problem.TraceProblem.{TraceProblem}
use Rattle.trace_groups.specs.declared.problem.TraceProblem.TheVariants as problem
use Rattle.trace_groups.specs.Groups.{Group, group_of, marks_at}

-- the trace that a fault is of, and 0 for one of the file's headers
abbrev pub position_of : Fault → ℕ
position_of (fault.Sequence p s) = p
position_of (fault.Samples p f n) = p
position_of (fault.Interval p v w) = p
position_of (fault.Scalar p s) = p
position_of (fault.Units p u v) = p
position_of (fault.Repeated p first) = p
position_of (fault.TraceCount c n) = 0
position_of (fault.TextLines n) = 0
position_of (fault.Name p) = p

-- F1: how far the number lies above the position
abbrev pub sequence_facts : Fault → Option (ℤ × ℤ)
sequence_facts (fault.Sequence p s) = Some (s -ℤ pos p, pos 0)
sequence_facts _ = None

-- F2: the field, and the trace's number of samples
abbrev pub samples_facts : Fault → Option (ℤ × ℤ)
samples_facts (fault.Samples p f n) = Some (pos f, pos n)
samples_facts _ = None

-- F3: the trace's interval, and the binary header's
abbrev pub interval_facts : Fault → Option (ℤ × ℤ)
interval_facts (fault.Interval p v w) = Some (pos v, pos w)
interval_facts _ = None

-- F4: the scalar
abbrev pub scalar_facts : Fault → Option (ℤ × ℤ)
scalar_facts (fault.Scalar p s) = Some (s, pos 0)
scalar_facts _ = None

-- F5: the trace's units, and the first trace's
abbrev pub units_facts : Fault → Option (ℤ × ℤ)
units_facts (fault.Units p u first) = Some (u, first)
units_facts _ = None

-- F6: how far before the first trace with the same numbers stands
abbrev pub repeated_facts : Fault → Option (ℤ × ℤ)
repeated_facts (fault.Repeated p first) = Some (pos p -ℤ pos first, pos 0)
repeated_facts _ = None

-- F9: there is nothing to say beside
abbrev pub name_facts : Fault → Option (ℤ × ℤ)
name_facts (fault.Name p) = Some (pos 0, pos 0)
name_facts _ = None

-- the traces of those faults of which there are facts
abbrev pub fault_marks : (Fault → Option (ℤ × ℤ)) → List Fault → List Mark
fault_marks facts fs = flat_map (λ f. marks_at (position_of f) (facts f)) fs

-- the group of a problem, where faults tell of it
abbrev pub group_among : TraceProblem → (Fault → Option (ℤ × ℤ)) → List Fault → List Group
group_among p facts fs = option_to_list (group_of p (fault_marks facts fs))

-- F1 to F6 and F9, those that occur; F6 may be left out
abbrev pub groups_of : Bool → List Fault → List Group
groups_of leaves_out_repeats fs =
    group_among problem.Sequence sequence_facts fs
    ++ group_among problem.Samples samples_facts fs
    ++ group_among problem.Interval interval_facts fs
    ++ group_among problem.Scalar scalar_facts fs
    ++ group_among problem.Units units_facts fs
    ++ (if leaves_out_repeats then [] else group_among problem.Repeated repeated_facts fs)
    ++ group_among problem.Name name_facts fs
