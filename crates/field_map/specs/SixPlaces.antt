-- The places of the six geometry names.
use Rattle.std.specs.Prelude.{◌≡◌, ℕ, true, List, codes, Some}
use Rattle.field_map.specs.declared.place.Place.{Place}
use Rattle.field_map.specs.declared.geometry.Geometry.{Geometry}
use Rattle.field_map.specs.Pairs.{Pairs, place_of}
use Rattle.field_map.specs.Binding.{is_geometry_place}

-- the geometry name is bound to the place, where it may stand in a file with so many extensions for a trace
abbrev pub StandsAt : ℕ → Pairs → List ℕ → Place → Type 0
StandsAt extensions pairs name place = (place_of pairs name ≡ Some place) × (is_geometry_place extensions name place ≡ true)

-- each of the six is bound to the place that is given for it
pub record AreSixPlaces (extensions : ℕ) (pairs : Pairs) (g : Geometry) : Type 0 where
  pub inline : StandsAt extensions pairs (codes "inline") g.inline
  pub crossline : StandsAt extensions pairs (codes "crossline") g.crossline
  pub offset : StandsAt extensions pairs (codes "offset") g.offset
  pub x : StandsAt extensions pairs (codes "x") g.x
  pub y : StandsAt extensions pairs (codes "y") g.y
  pub scalar : StandsAt extensions pairs (codes "scalar") g.scalar
