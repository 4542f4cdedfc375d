use Rattle.std.proofs.Common.{◌∙◌, sym}
use Rattle.field_map.specs.Pairs.{shown}
use Rattle.field_map.proofs.GeometryLemmas.{HasGeometry-unbound}
use Rattle.field_map.proofs.field_map.FieldMap.unbind.Goals as goal

pub six_places-self-inside-requires : goal.six_places-self-inside-requires
six_places-self-inside-requires c =
    rw c.take_out.ensures (HasGeometry-unbound c.self.inside.extensions (shown c.self.inside.map.entries) c.args.name.now (sym c.is_geometry.ensures ∙ c.if-is_geometry.false) c.self.invariant.geometry)
