use Rattle.std.proofs.Common.{◌≡◌, sym, subst, true}
use Rattle.field_map.specs.Maps.{NameMap}
use Rattle.field_map.specs.Pairs.{shown}
use Rattle.field_map.specs.Binding.{is_geometry_place}
use Rattle.field_map.proofs.GeometryLemmas.{HasGeometry-set}
use Rattle.field_map.proofs.field_map.FieldMap.set_geometry.Goals as goal

pub six_places-self-inside-requires : goal.six_places-self-inside-requires
six_places-self-inside-requires c =
    let may : is_geometry_place c.self.inside.extensions c.args.name.now c.args.place ≡ true
    = subst (λ (m : NameMap). is_geometry_place m.extensions c.args.name.now c.args.place ≡ true) (sym c.self.view_is) c.requires.place in
    rw c.set_place.ensures (HasGeometry-set c.self.inside.extensions (shown c.self.inside.map.entries) c.args.name.now c.args.place may c.self.invariant.geometry)
