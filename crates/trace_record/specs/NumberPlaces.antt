-- Places of signed numbers, inside a header of 240 bytes.
use Rattle.std.specs.Prelude.{◌≡◌, ◌⊎◌, true}
use Rattle.field_map.specs.declared.place.Place.{Place}
use Rattle.trace_view.specs.Values.{is_in_header}

-- of two or four bytes
pub record IsNumber (p : Place) : Type 0 where
  pub inside : is_in_header p ≡ true
  pub signed : p.kind.signed ≡ true
  pub size : (p.kind.size ≡ 2) ⊎ (p.kind.size ≡ 4)

-- of two bytes
pub record IsShort (p : Place) : Type 0 where
  pub inside : is_in_header p ≡ true
  pub signed : p.kind.signed ≡ true
  pub size : p.kind.size ≡ 2
