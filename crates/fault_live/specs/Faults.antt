-- The faults of a volume's headers.
use Rattle.std.specs.Prelude.{ℕ, ℤ, pos, negsuc, Bool, true, false, not, ◌&&◌, ◌||◌, ◌==◌, List, [], ◌∷◌, ◌++◌, length, nat_lt, Option, Some, None, flat_map, if◌then◌else◌}
use Rattle.std.specs.List.{list_any, position_from, enumerate_from}
use Rattle.std.specs.Ordering.{int_eq}
use Rattle.trace_record.specs.Facts.{Facts}
use Rattle.fault_live.specs.declared.fault.Fault.{Fault}
use Rattle.fault_live.specs.declared.fault.Fault.TheVariants.{Sequence, Samples, Interval, Scalar, Units, Repeated, TraceCount, TextLines, Name}
use Rattle.fault_live.specs.declared.head_facts.HeadFacts.{HeadFacts}

-- the fault, unless the test holds
abbrev pub unless : Bool → Fault → List Fault
unless true fault = []
unless false fault = fault ∷ []

-- the file is of revision 2.0
abbrev pub is_revision_2 : HeadFacts → Bool
is_revision_2 h = h.major == 2 && h.minor == 0

-- the coordinate scalars of the standard
abbrev pub is_scalar : ℤ → Bool
is_scalar s =
    list_any (int_eq s) (pos 0 ∷ pos 1 ∷ pos 10 ∷ pos 100 ∷ pos 1000 ∷ pos 10000
    ∷ negsuc 0 ∷ negsuc 9 ∷ negsuc 99 ∷ negsuc 999 ∷ negsuc 9999 ∷ [])

-- two traces have one inline, crossline and offset
abbrev pub same_triple : Facts → Facts → Bool
same_triple f g = int_eq f.inline g.inline && int_eq f.crossline g.crossline && int_eq f.offset g.offset

-- the coordinate units of the first trace
abbrev pub first_units : List Facts → ℤ
first_units [] = pos 0
first_units (f ∷ fs) = f.units

-- the first position with the trace's inline, crossline and offset
abbrev pub first_with : List Facts → Facts → Option ℕ
first_with fs f = position_from (same_triple f) 1 fs

-- F6, where that position is before p
abbrev pub repeat_fault : ℕ → Option ℕ → List Fault
repeat_fault p None = []
repeat_fault p (Some first) = if nat_lt first p then Repeated p first ∷ [] else []

-- F1 to F3 of the trace f at position p
abbrev pub own_faults : HeadFacts → ℕ → Facts → List Fault
own_faults h p f =
    unless (int_eq f.sequence (pos p)) (Sequence p f.sequence)
    ++ unless (f.samples_field == 0 || f.samples_field == f.number) (Samples p f.samples_field f.number)
    ++ unless (f.interval == 0 || f.interval == h.interval) (Interval p f.interval h.interval)

-- F5, F6 and F9, where the first trace has these units and the trace's triple stands first there
abbrev pub among_faults : HeadFacts → ℤ → Option ℕ → ℕ → Facts → List Fault
among_faults h units first p f =
    unless (int_eq f.units units) (Units p f.units units)
    ++ repeat_fault p first
    ++ unless (not (is_revision_2 h) || f.has_known_name) (Name p)

-- F1 to F6 and F9 of the trace f at position p, among the traces fs
abbrev pub trace_faults : HeadFacts → List Facts → ℕ → Facts → List Fault
trace_faults h fs p f =
    own_faults h p f
    ++ unless (is_scalar f.scalar) (Scalar p f.scalar)
    ++ among_faults h (first_units fs) (first_with fs f) p f

-- F7 and F8 of a file with so many traces
abbrev pub head_faults : HeadFacts → ℕ → List Fault
head_faults h count =
    unless (not (is_revision_2 h) || h.trace_count == 0 || h.trace_count == count) (TraceCount h.trace_count count)
    ++ unless (h.lines == 0) (TextLines h.lines)

-- F7 and F8, then position by position the others, their codes rising
abbrev pub faults_of : HeadFacts → List Facts → List Fault
faults_of h fs = head_faults h (length fs) ++ flat_map (λ e. trace_faults h fs e.0 e.1) (enumerate_from 1 fs)
