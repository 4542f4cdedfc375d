-- Traces that are suspect: by themselves, or beside the others.
use Rattle.std.specs.Prelude.{ℕ, ℤ, pos, negsuc, ◌*◌, ◌-ℤ◌, ◌&&◌, ◌||◌, not, nat_lt, int_le, Bool, true, false, List, [], ◌∷◌, length, map, filter, Option, Some, None, option_and_then, if◌then◌else◌}
use Rattle.std.specs.List.{list_any}
use Rattle.std.specs.Option.{option_map_or}
use Rattle.std.specs.Ordering.{int_eq}
use Rattle.trace_record.specs.Facts.{Facts}
use Rattle.trace_record.specs.declared.amplitudes.Amplitudes.{Amplitudes}
use Rattle.trace_groups.specs.declared.mark.Mark.{Mark}
use Rattle.trace_groups.specs.Groups.{same_pair, marks_of}

-- ---- S2: no position

-- x and y are both 0
abbrev pub at_origin : Facts → Bool
at_origin f = int_eq f.x.num (pos 0) && int_eq f.y.num (pos 0)

-- the traces at 0
abbrev pub origins : List Facts → List Facts
origins fs = filter at_origin fs

-- a trace's inline and crossline
abbrev pub cell_of : Facts → ℤ × ℤ
cell_of f = (f.inline, f.crossline)

-- some cell is another than the first
abbrev pub has_two : List (ℤ × ℤ) → Bool
has_two [] = false
has_two (c ∷ cs) = list_any (λ d. not (same_pair c d)) cs

-- Fewer than half of all traces stand at 0, so more than half stand elsewhere, and those at 0 are of two cells or more: one cell at 0
-- is a local origin. Where no survey is known the cells do not count.
abbrev pub lack_positions : Bool → List Facts → Bool
lack_positions no_survey fs =
    nat_lt (2 * length (origins fs)) (length fs) && (no_survey || has_two (map cell_of (origins fs)))

-- a trace at 0 has no facts beside
abbrev pub origin_facts : Facts → Option (ℤ × ℤ)
origin_facts f = if at_origin f then Some (pos 0, pos 0) else None

-- the traces without a position
abbrev pub origin_marks : Bool → List Facts → List Mark
origin_marks no_survey fs = if lack_positions no_survey fs then marks_of origin_facts fs else []

-- ---- S5 and S6: far away

-- a number outside of the range, whose ends are near
abbrev pub far_facts : ℤ × ℤ → ℤ → Option (ℤ × ℤ)
far_facts near n = if int_le near.0 n && int_le n near.1 then None else Some (n, pos 0)

-- the traces whose inline lies outside of the range, where one is given
abbrev pub far_inlines : Option (ℤ × ℤ) → List Facts → List Mark
far_inlines near fs = option_map_or (λ range. marks_of (λ f. far_facts range f.inline) fs) near []

-- the same of crosslines
abbrev pub far_crosslines : Option (ℤ × ℤ) → List Facts → List Mark
far_crosslines near fs = option_map_or (λ range. marks_of (λ f. far_facts range f.crossline) fs) near []

-- ---- S12: dead traces; whether samples are floats comes first

-- how many of n samples are numbers: among floats the place of the sum has how many are none
abbrev pub numbers_among : Bool → ℕ → Amplitudes → ℤ
numbers_among false n a = pos n
numbers_among true n a = pos n -ℤ a.sum

-- a sample's value: itself, but of floats that of 0 for -0, whose rank is -1
abbrev pub value_of : Bool → ℤ → ℤ
value_of false v = v
value_of true v = if int_eq v (negsuc 0) then pos 0 else v

-- two or more of n samples are numbers, and all of these have one value
abbrev pub is_dead : Bool → ℕ → Amplitudes → Bool
is_dead floats n a = int_le (pos 2) (numbers_among floats n a) && int_eq (value_of floats a.least) (value_of floats a.greatest)

-- the value of a dead trace
abbrev pub dead_facts : Bool → Facts → Option (ℤ × ℤ)
dead_facts floats f = option_and_then (λ a. if is_dead floats f.number a then Some (value_of floats a.least, pos 0) else None) f.amplitudes

-- the dead traces
abbrev pub dead_marks : Bool → List Facts → List Mark
dead_marks floats fs = marks_of (dead_facts floats) fs
