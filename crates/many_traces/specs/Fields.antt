-- Fields of a trace, and the bytes that a place has in it.
use Rattle.std.specs.Prelude.{ℕ, ℤ, ◌+◌, ◌≤◌, List, length, Option, option_and_then}
use Rattle.num_order.specs.Number.{IsSize}
use Rattle.field_map.specs.declared.place.Place.{Place}
use Rattle.field_map.specs.Pairs.{Pairs}
use Rattle.field_map.specs.Places.{offset_of}
use Rattle.frame_cut.specs.declared.file_head.Head.{Head}
use Rattle.trace_view.specs.Values.{value_of}
use Rattle.bench_rules.specs.declared.field.Field.{Field}
use Rattle.bench_rules.specs.Places.{place_in_trace}

-- the number of a field of a trace, where the field has a place and the trace has it
abbrev pub number_in : Head → List ℕ → Pairs → Field → Option ℤ
number_in h t fields field = option_and_then (λ place. value_of h t place) (place_in_trace fields field)

-- bytes of the place's size can be put there in the trace
pub record HoldsPlace (t : List ℕ) (place : Place) : Type 0 where
  pub first : 1 ≤ place.byte
  pub size : IsSize place.kind.size
  pub inside : offset_of place + place.kind.size ≤ length t
