-- Sides of conditions that the record beside a trace tells: no byte of the trace is needed for them.
use Rattle.std.specs.Prelude.{◌≡◌, ℕ, ◌==◌, ◌&&◌, ◌||◌, Bool, true, false, List, codes, refl}
use Rattle.std.specs.List.{list_all}
use Rattle.std.specs.Option.{option_map_or}
use Rattle.field_map.specs.declared.place.Place.{Place}
use Rattle.field_map.specs.Binding.{geometry_at_load}
use Rattle.field_map.specs.Pairs.{Pairs, place_of, signed_at, unsigned_at}
use Rattle.trace_view.specs.Values.{is_in_header}
use Rattle.bench_rules.specs.declared.term.Term.{Term}
use Rattle.bench_rules.specs.declared.term.Term.TheVariants as terms
use Rattle.bench_rules.specs.declared.test.Test.{Test}
use Rattle.bench_rules.specs.declared.test_side.TestSide.{TestSide}
use Rattle.bench_rules.specs.declared.test_side.TestSide.TheVariants as sides

-- the two are one place, of a number of the main header that has a sign
abbrev pub is_one_number : Place → Place → Bool
is_one_number place other =
    is_in_header place
    && place.extension == 0
    && other.extension == 0
    && place.byte == other.byte
    && place.kind.size == other.kind.size
    && place.kind.signed
    && other.kind.signed

-- the map gives the name that place
abbrev pub is_named : Pairs → List ℕ → Place → Bool
is_named fields name place = option_map_or (is_one_number place) (place_of fields name) false

-- the place is that of the inline, the crossline or the offset under the map, or of the sequence number (bytes 5-8), in the main
-- header of each trace; the coordinates stand in a record under their scalar, and not as the numbers that they are in the header
abbrev pub tells_place : Pairs → Place → Bool
tells_place fields place =
    is_named fields (codes "inline") place
    || is_named fields (codes "crossline") place
    || is_named fields (codes "offset") place
    || is_one_number place (signed_at 5 4)

-- a number, or the number at such a place
abbrev pub tells_term : Pairs → Term → Bool
tells_term fields (terms.Number x) = true
tells_term fields (terms.At place) = tells_place fields place

-- one of these, a decimal, or a fact about samples, which stands in each record
abbrev pub tells_side : Pairs → TestSide → Bool
tells_side fields (sides.Term term) = tells_term fields term
tells_side fields (sides.Decimal a) = true
tells_side fields (sides.Fact fact) = true

-- both sides of a condition are told
abbrev pub tells_test : Pairs → Test → Bool
tells_test fields test = tells_side fields test.left && tells_side fields test.right

-- both sides of each condition are told
abbrev pub tells_tests : Pairs → List Test → Bool
tells_tests fields tests = list_all (tells_test fields) tests

-- worked out under the map that each file begins with: the inline (bytes 189-192) and the sequence number are told; half an inline,
-- the same bytes without a sign, an x (bytes 181-184) and bytes 9-12 are not
pub inline_told : tells_place geometry_at_load (signed_at 189 4) ≡ true
inline_told = refl

pub sequence_told : tells_place geometry_at_load (signed_at 5 4) ≡ true
sequence_told = refl

pub half_untold : tells_place geometry_at_load (signed_at 189 2) ≡ false
half_untold = refl

pub unsigned_untold : tells_place geometry_at_load (unsigned_at 189 4) ≡ false
unsigned_untold = refl

pub coordinate_untold : tells_place geometry_at_load (signed_at 181 4) ≡ false
coordinate_untold = refl

pub other_untold : tells_place geometry_at_load (signed_at 9 4) ≡ false
other_untold = refl
