use Rattle.std.proofs.Common.{rules, ◌≡◌, sym, subst}
use Rattle.field_map.specs.Pairs.{Pairs, shown}
use Rattle.field_map.specs.Binding.{HasGeometry, geometry_at_load}
use Rattle.field_map.proofs.GeometryLemmas.{HasGeometry-at-load}
use Rattle.field_map.proofs.field_map.FieldMap.standard.Goals as goal

pub six_places-geometry-requires : goal.six_places-geometry-requires
six_places-geometry-requires c =
    let all : shown c.put-6.new.map.entries ≡ geometry_at_load = search rules in
    subst (λ (m : Pairs). HasGeometry c.args.extensions m) (sym all) (HasGeometry-at-load c.args.extensions)
