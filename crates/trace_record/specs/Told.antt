-- Bytes laid over a trace whose record is known: where they leave alone what is seldom edited, and cover each of six numbers exactly
-- or not at all, the record tells that of the trace with them, and no byte of the trace is needed.
use Rattle.std.specs.Prelude.{◌≡◌, ℕ, ◌+◌, ◌==◌, ◌&&◌, ◌||◌, nat_le, Bool, true, false, List, codes, refl}
use Rattle.std.specs.Option.{option_map_or}
use Rattle.field_map.specs.declared.place.Place.{Place}
use Rattle.field_map.specs.Binding.{geometry_at_load}
use Rattle.field_map.specs.Pairs.{Pairs, place_of, signed_at}
use Rattle.field_map.specs.Places.{offset_of}

-- so many bytes from place `at` on share none with so many others, at least one each; places count from 0 in a trace
abbrev pub are_apart : (at count start size : ℕ) → Bool
are_apart at count start size = nat_le (start + size) at || nat_le (at + count) start

-- worked out: bytes 189-192 share none with bytes 193-196, and bytes 191-194 share two with bytes 189-192
pub inline_and_crossline : are_apart 188 4 192 4 ≡ true
inline_and_crossline = refl

pub across_both : are_apart 190 4 188 4 ≡ false
across_both = refl

-- they share none with the number at the place
abbrev pub leaves : (at count : ℕ) → Place → Bool
leaves at count place = are_apart at count (offset_of place) place.kind.size

-- they share none with the number at the place, or are exactly its bytes
abbrev pub leaves_or_covers : (at count : ℕ) → Place → Bool
leaves_or_covers at count place = leaves at count place || (at == offset_of place && count == place.kind.size)

-- they share none with the number at the place that the map gives the name
abbrev pub leaves_name : Pairs → (at count : ℕ) → List ℕ → Bool
leaves_name fields at count name = option_map_or (leaves at count) (place_of fields name) false

-- they share none with it, or are exactly its bytes
abbrev pub leaves_or_covers_name : Pairs → (at count : ℕ) → List ℕ → Bool
leaves_or_covers_name fields at count name = option_map_or (leaves_or_covers at count) (place_of fields name) false

-- a record tells the one of its trace with so many bytes laid over it from place `at` on: they leave the coordinate scalar alone, and
-- bytes 89-90, 115-118 and 233-240; and each of inline, crossline, offset, x, y and the sequence number (bytes 5-8) they leave alone,
-- or are exactly its bytes
abbrev pub tells_record : Pairs → (at count : ℕ) → Bool
tells_record fields at count =
    leaves_name fields at count (codes "scalar")
    && leaves at count (signed_at 89 2)
    && leaves at count (signed_at 115 2)
    && leaves at count (signed_at 117 2)
    && leaves at count (signed_at 233 8)
    && leaves_or_covers_name fields at count (codes "x")
    && leaves_or_covers_name fields at count (codes "y")
    && leaves_or_covers_name fields at count (codes "inline")
    && leaves_or_covers_name fields at count (codes "crossline")
    && leaves_or_covers_name fields at count (codes "offset")
    && leaves_or_covers at count (signed_at 5 4)

-- worked out under the map that each file begins with: it tells a new inline (bytes 189-192), and bytes 9-12, which no record keeps;
-- it does not tell half an inline, inline and crossline at once, nor another coordinate scalar (bytes 71-72)
pub inline_told : tells_record geometry_at_load 188 4 ≡ true
inline_told = refl

pub others_told : tells_record geometry_at_load 8 4 ≡ true
others_told = refl

pub half_untold : tells_record geometry_at_load 188 2 ≡ false
half_untold = refl

pub two_untold : tells_record geometry_at_load 188 8 ≡ false
two_untold = refl

pub scalar_untold : tells_record geometry_at_load 70 2 ≡ false
scalar_untold = refl
