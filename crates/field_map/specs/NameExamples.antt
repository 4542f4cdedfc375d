-- Worked examples on the names of a trace's fields.
use Rattle.std.specs.Prelude.{◌≡◌, ℕ, ◌+◌, ◌==◌, ◌&&◌, Bool, true, not, [], ◌∷◌, length, take, map, Some, None, codes, refl}
use Rattle.std.specs.List.{list_all}
use Rattle.std.specs.Str.{str_to_ascii_lowercase}
use Rattle.field_map.specs.Pairs.{Pairs, bound, signed_at, unsigned_at, signed_in_first_extension, unsigned_in_first_extension}
use Rattle.field_map.specs.StandardNames.{standard_names}
use Rattle.field_map.specs.HeaderNames.{header_names}
use Rattle.field_map.specs.ToolNames.{unix_names, segyio_names}
use Rattle.field_map.specs.KnownNames.{named_place}
use Rattle.field_map.specs.Binding.{geometry_at_load, field_place, is_name, is_geometry, is_outside, is_bad_kind, bind_fault}
use Rattle.field_map.specs.Examples.{are_distinct}
use Rattle.field_map.specs.declared.map_fault.MapFault.TheVariants.{Standard}

pub header_names-length : length header_names ≡ 99
header_names-length = refl

pub unix_names-length : length unix_names ≡ 71
unix_names-length = refl

pub segyio_names-length : length segyio_names ≡ 110
segyio_names-length = refl

pub header_names-distinct : are_distinct header_names ≡ true
header_names-distinct = refl

pub unix_names-distinct : are_distinct unix_names ≡ true
unix_names-distinct = refl

pub segyio_names-distinct : are_distinct segyio_names ≡ true
segyio_names-distinct = refl

-- segyio's names stand in lower case
pub segyio_names-lower : map (λ e. str_to_ascii_lowercase e.0) segyio_names ≡ map (λ e. e.0) segyio_names
segyio_names-lower = refl

-- the fields follow one another without a gap, the first at the byte that is given
abbrev pub are_adjacent : ℕ → Pairs → Bool
are_adjacent byte [] = true
are_adjacent byte (e ∷ es) = e.1.byte == byte && are_adjacent (byte + e.1.kind.size) es

-- so the first 90 names are those of bytes 1 to 232 of the main header, segyio's first 91 of bytes 1 to 240
pub header_names-adjacent : are_adjacent 1 (take 90 header_names) ≡ true
header_names-adjacent = refl

pub segyio_names-adjacent : are_adjacent 1 (take 91 segyio_names) ≡ true
segyio_names-adjacent = refl

-- each name of the trace header could be bound where it stands, in a file with an extension, but for those that are
-- standard, and is no geometry name
pub header_names-inside : list_all (λ e. ((is_name e.0 && not (is_geometry e.0)) && not (is_outside 1 e.0 e.1)) && not (is_bad_kind e.0 e.1.kind)) header_names ≡ true
header_names-inside = refl

-- no list hides a name of another: each name of each is found at its own place
pub standard_names-found : map (λ e. named_place e.0) standard_names ≡ map (λ e. Some e.1) standard_names
unfolding named_place
standard_names-found = refl

pub header_names-found : map (λ e. named_place e.0) header_names ≡ map (λ e. Some e.1) header_names
unfolding named_place
header_names-found = refl

pub unix_names-found : map (λ e. named_place e.0) unix_names ≡ map (λ e. Some e.1) unix_names
unfolding named_place
unix_names-found = refl

pub segyio_names-found : map (λ e. named_place e.0) segyio_names ≡ map (λ e. Some e.1) segyio_names
unfolding named_place
segyio_names-found = refl

-- one name of each list
pub named-delay : named_place (codes "delay") ≡ Some (signed_at 109 2)
unfolding named_place
named-delay = refl

pub named-total_static : named_place (codes "total_static") ≡ Some (signed_at 103 2)
unfolding named_place
named-total_static = refl

pub named-ext_field_record : named_place (codes "ext_field_record") ≡ Some (signed_in_first_extension 17 8)
unfolding named_place
named-ext_field_record = refl

pub named-ext_sequence_line : named_place (codes "ext_sequence_line") ≡ Some (unsigned_in_first_extension 1 8)
unfolding named_place
named-ext_sequence_line = refl

pub named-cdp : named_place (codes "cdp") ≡ Some (signed_at 21 4)
unfolding named_place
named-cdp = refl

pub named-ns : named_place (codes "ns") ≡ Some (unsigned_at 115 2)
unfolding named_place
named-ns = refl

-- segyio's in any case
pub named-INLINE_3D : named_place (codes "INLINE_3D") ≡ Some (signed_at 189 4)
unfolding named_place
named-INLINE_3D = refl

pub named-Inline_3d : named_place (codes "Inline_3d") ≡ Some (signed_at 189 4)
unfolding named_place
named-Inline_3d = refl

-- a word of segyio.su, which has another for Seismic Unix's `stas`
pub named-iline : named_place (codes "iline") ≡ Some (signed_at 189 4)
unfolding named_place
named-iline = refl

pub named-stat : named_place (codes "stat") ≡ named_place (codes "stas")
unfolding named_place
named-stat = refl

-- the others only as they are written: this one is no name of segyio
pub named-FLDR : named_place (codes "FLDR") ≡ None
unfolding named_place
named-FLDR = refl

pub named-Delay : named_place (codes "Delay") ≡ None
unfolding named_place
named-Delay = refl

-- a name of segyio's that is Seismic Unix's word as well
pub named-CDP : named_place (codes "CDP") ≡ Some (signed_at 21 4)
unfolding named_place
named-CDP = refl

-- a word of Seismic Unix may be bound, and stands then where it is bound
pub bind-cdp : bind_fault 0 geometry_at_load (codes "cdp") (signed_at 233 4) ≡ None
bind-cdp = refl

pub field-cdp : field_place (bound geometry_at_load (codes "cdp") (signed_at 233 4)) (codes "cdp") ≡ Some (signed_at 233 4)
unfolding named_place
field-cdp = refl

-- `offset` is bound from the load on
pub field-offset : field_place (bound geometry_at_load (codes "offset") (signed_at 233 4)) (codes "offset") ≡ Some (signed_at 233 4)
unfolding named_place
field-offset = refl

-- a standard name is never bound anew
pub bind-delay : bind_fault 0 geometry_at_load (codes "delay") (signed_at 233 4) ≡ Some Standard
bind-delay = refl
