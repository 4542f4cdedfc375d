-- How a field map is held.
use Rattle.field_map.specs.Maps.{NameMap}
use Rattle.field_map.specs.Pairs.{shown}
use Rattle.field_map.specs.Binding.{HasGeometry}
use Rattle.field_map.specs.SixPlaces.{AreSixPlaces}
use Rattle.field_map.specs.declared.field_map.FieldMap.TheInside.{Inside}

-- the map that is held
abbrev pub map_of : Inside → NameMap
map_of m = record { extensions = m.extensions; pairs = shown m.map.entries }

-- each of the six names stands where it may, and their places are kept beside the names
pub record IsHeld (m : Inside) : Type 0 where
  pub geometry : HasGeometry m.extensions (shown m.map.entries)
  pub places : AreSixPlaces m.extensions (shown m.map.entries) m.geometry
