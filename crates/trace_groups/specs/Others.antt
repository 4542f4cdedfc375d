-- Traces whose number in a field is not the one that most traces have there.
use Rattle.std.specs.Prelude.{ℤ, List, [], map, Option, Some, None, if◌then◌else◌}
use Rattle.std.specs.Option.{option_map_or}
use Rattle.std.specs.Ordering.{int_eq}
use Rattle.common_numbers.specs.Commonest.{commonest}
use Rattle.trace_record.specs.Facts.{Facts}
use Rattle.trace_groups.specs.declared.mark.Mark.{Mark}
use Rattle.trace_groups.specs.Groups.{marks_of}

-- a number beside the usual one: both, where they differ
abbrev pub other_facts : ℤ → ℤ → Option (ℤ × ℤ)
other_facts usual n = if int_eq n usual then None else Some (n, usual)

-- the traces whose number is not the commonest of all
abbrev pub other_marks : List ℤ → List Mark
other_marks ns = option_map_or (λ usual. marks_of (other_facts usual) ns) (commonest ns) []

-- the traces whose coordinate scalar is not the commonest
abbrev pub other_scalars : List Facts → List Mark
other_scalars fs = other_marks (map (λ f. f.scalar) fs)
