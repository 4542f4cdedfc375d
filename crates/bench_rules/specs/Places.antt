-- The place that a field stands for.
use Rattle.std.specs.Prelude.{ℕ, ◌+◌, ◌==◌, ◌&&◌, ◌||◌, nat_le, nat_lt, Bool, List, [], ◌∷◌, Option, Some}
use Rattle.std.specs.List.{list_any}
use Rattle.num_order.specs.Number.{is_size}
use Rattle.field_map.specs.declared.place.Place.{Place}
use Rattle.field_map.specs.Binding.{field_place}
use Rattle.field_map.specs.Pairs.{Pairs}
use Rattle.field_map.specs.StandardNames.{binary_place}
use Rattle.bench_rules.specs.declared.field.Field.{Field}
use Rattle.bench_rules.specs.declared.field.Field.TheVariants as field

-- the place of a trace's field, if it has one
abbrev pub place_in_trace : Pairs → Field → Option Place
place_in_trace fields (field.Place place) = Some place
place_in_trace fields (field.Name name) = field_place fields name

-- the place of a field of the binary header, if it has one
abbrev pub place_in_binary : Field → Option Place
place_in_binary (field.Place place) = Some place
place_in_binary (field.Name name) = binary_place name

-- the place is that of a number inside the binary header, bytes 3201 to 3600
abbrev pub is_in_binary : Place → Bool
is_in_binary place =
    is_size place.kind.size && place.extension == 0 && nat_le 3201 place.byte && nat_le (place.byte + place.kind.size) 3601

-- the first and last bytes of the fields that say how the file is cut
abbrev pub frame_fields : List (ℕ × ℕ)
frame_fields = (3221, 3222) ∷ (3225, 3226) ∷ (3269, 3272) ∷ (3297, 3300) ∷ (3501, 3510) ∷ (3521, 3532) ∷ []

-- the place has a byte of one of them
abbrev pub touches_frame : Place → Bool
touches_frame place = list_any (λ f. nat_le place.byte f.1 && nat_lt f.0 (place.byte + place.kind.size)) frame_fields

-- it is the place of a number inside the main header, and shares no byte with bytes 115-116, the only ones there that tell how
-- long the trace is: no value makes the trace longer or shorter
abbrev pub leaves_length : Place → Bool
leaves_length place =
    place.extension == 0
    && is_size place.kind.size
    && nat_lt 0 place.byte
    && nat_lt (place.byte + place.kind.size) 242
    && (nat_le (place.byte + place.kind.size) 115 || nat_le 117 place.byte)
