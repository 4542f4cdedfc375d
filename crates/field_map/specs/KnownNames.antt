-- The names of a trace's fields that are known whatever is bound.
use Rattle.std.specs.Prelude.{ℕ, List, Option}
use Rattle.std.specs.Option.{option_or}
use Rattle.std.specs.Str.{str_to_ascii_lowercase}
use Rattle.field_map.specs.declared.place.Place.{Place}
use Rattle.field_map.specs.Pairs.{place_of}
use Rattle.field_map.specs.StandardNames.{standard_place}
use Rattle.field_map.specs.HeaderNames.{header_names}
use Rattle.field_map.specs.ToolNames.{unix_names, segyio_names}

-- the place of a field by segyio's name, in any case
abbrev pub segyio_place : List ℕ → Option Place
segyio_place name = place_of segyio_names (str_to_ascii_lowercase name)

-- the place of a field by a standard name, else by another name of the trace header, else by a word of Seismic Unix, else
-- by a name of segyio
unfoldable pub named_place : List ℕ → Option Place
named_place name =
    option_or (standard_place name)
    (option_or (place_of header_names name)
    (option_or (place_of unix_names name)
    (segyio_place name)))
