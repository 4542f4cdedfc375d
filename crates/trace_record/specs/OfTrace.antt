-- The facts of a trace, from its bytes.
use Rattle.std.specs.Prelude.{ℕ, ℤ, pos, Bool, ◌&&◌, List, [], ◌∷◌, replicate, codes, bytes_eq}
use Rattle.std.specs.List.{list_any, list_all}
use Rattle.std.specs.Option.{option_map_or}
use Rattle.field_map.specs.declared.place.Place.{Place}
use Rattle.field_map.specs.Pairs.{Pairs, place_of, signed_at}
use Rattle.field_map.specs.Binding.{geometry_at_load, is_geometry_kind}
use Rattle.frame_cut.specs.declared.file_head.Head.{Head}
use Rattle.frame_cut.specs.Frames.{header_bytes, header_unsigned, sample_count}
use Rattle.trace_view.specs.Values.{value_at, has_place, has_floats, samples_of}
use Rattle.std.specs.Prelude.{false}
use Rattle.trace_record.specs.Facts.{Facts}
use Rattle.trace_record.specs.Statistics.{amplitudes_of}
use Rattle.key_counts.specs.Coordinates.{under_scalar}

-- the value at the place that the map gives the name, and 0 of a name without one
abbrev pub bound_value : Head → Pairs → List ℕ → List ℕ → ℤ
bound_value h fields t name = option_map_or (value_at h t) (place_of fields name) (pos 0)

-- the value of a signed field of the main header
abbrev pub signed_value : Head → List ℕ → ℕ → ℕ → ℤ
signed_value h t byte size = value_at h t (signed_at byte size)

-- the trace has the place, and it is of a kind that the geometry name may have
abbrev pub has_geometry_at : Head → List ℕ → List ℕ → Place → Bool
has_geometry_at h t name place = has_place h t place && is_geometry_kind name place.kind

-- the geometry name is bound to such a place
abbrev pub has_named : Head → Pairs → List ℕ → List ℕ → Bool
has_named h fields t name = option_map_or (has_geometry_at h t name) (place_of fields name) false

-- each of the six geometry names is bound to a place that the trace has
abbrev pub has_geometry : Head → Pairs → List ℕ → Bool
has_geometry h fields t = list_all (λ e. has_named h fields t e.0) geometry_at_load

-- the trace names that mean a plain trace: zeros, and `SEG00000` in ASCII and in EBCDIC
abbrev pub known_names : List (List ℕ)
known_names =
    replicate 8 0
    ∷ codes "SEG00000"
    ∷ (0xE2 ∷ 0xC5 ∷ 0xC7 ∷ 0xF0 ∷ 0xF0 ∷ 0xF0 ∷ 0xF0 ∷ 0xF0 ∷ [])
    ∷ []

-- whether bytes 233-240 are one of them
abbrev pub has_known_name_of : List ℕ → Bool
has_known_name_of t = list_any (bytes_eq (header_bytes 0 233 8 t)) known_names

-- the record of a trace: the facts that its bytes give, its geometry names bound by the map
abbrev pub record_of : Head → Pairs → List ℕ → Facts
record_of h fields t = record {
  inline = bound_value h fields t (codes "inline");
  crossline = bound_value h fields t (codes "crossline");
  offset = bound_value h fields t (codes "offset");
  x = under_scalar (bound_value h fields t (codes "x")) (bound_value h fields t (codes "scalar"));
  y = under_scalar (bound_value h fields t (codes "y")) (bound_value h fields t (codes "scalar"));
  scalar = bound_value h fields t (codes "scalar");
  sequence = signed_value h t 5 4;
  units = signed_value h t 89 2;
  interval = header_unsigned h 0 117 2 t;
  samples_field = header_unsigned h 0 115 2 t;
  has_known_name = has_known_name_of t;
  amplitudes = amplitudes_of (has_floats h) (samples_of h t);
  number = sample_count h t;
}
