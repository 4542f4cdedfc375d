-- Where places of numbers lie.
use Rattle.std.specs.Prelude.{ℕ, ◌+◌, ◌-◌, ◌*◌}
use Rattle.field_map.specs.declared.place.Place.{Place}
use Rattle.field_map.specs.declared.place.TheConstants.{TRACE_HEADER_BYTES}

-- where a place begins in its trace, counted from 0: behind the headers in front of its own
abbrev pub offset_of : Place → ℕ
offset_of place = TRACE_HEADER_BYTES * place.extension + place.byte - 1
