-- What is known of a place in a trace once an edit was not refused, whatever was read of the trace.
use Rattle.std.specs.Prelude.{◌≡◌, ℕ, ◌+◌, ◌*◌, ◌<◌, ◌≤◌, ◌^◌, true, ℤ, List, length, Some}
use Rattle.std.specs.List.{list_all}
use Rattle.num_order.specs.Number.{IsSize, fits}
use Rattle.sample_codes.specs.declared.value_format.ValueFormat.{ValueFormat}
use Rattle.sample_codes.specs.Formats.{values, width, sample_fits}
use Rattle.field_map.specs.declared.place.Place.{Place}
use Rattle.field_map.specs.Places.{offset_of}
use Rattle.frame_cut.specs.Traces.{count_of, trace_at}
use Rattle.frame_cut.specs.Volume.{Volume}

-- there is trace p, and the place, of a size that numbers have, lies inside it and has the value
pub record HasRoom (v : Volume) (p : ℕ) (place : Place) (x : ℤ) : Type 0 where
  pub first : 1 ≤ p
  pub last : p ≤ count_of v
  pub byte : 1 ≤ place.byte
  pub size : IsSize place.kind.size
  pub fits : fits place.kind x ≡ true
  pub inside : offset_of place + place.kind.size ≤ length (trace_at v p)

-- there is trace p, its samples have these values, and as many samples from this place on lie inside it
pub record HasSampleRoom (v : Volume) (p at : ℕ) (xs : List ℤ) : Type 0 where
  pub first : 1 ≤ p
  pub last : p ≤ count_of v
  pub format : ValueFormat
  pub reads : values v.head.format ≡ Some format
  pub fit : list_all (sample_fits format) xs ≡ true
  pub few : length xs < 2 ^ 32
  pub inside : at + width v.head.format * length xs ≤ length (trace_at v p)
