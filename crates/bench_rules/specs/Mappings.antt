-- The geometry names bound to several places at once.
use Rattle.std.specs.Prelude.{◌≡◌, ℕ, true, List, [], ◌∷◌, codes, Option, None}
use Rattle.std.specs.Option.{option_or}
use Rattle.field_map.specs.declared.map_fault.MapFault.{MapFault}
use Rattle.field_map.specs.Binding.{bind_fault, geometry_at_load, is_geometry, is_geometry_place}
use Rattle.field_map.specs.Pairs.{Pairs, bound, signed_at}
use Rattle.bench_rules.specs.declared.mapping.Mapping.{Mapping}
use Rattle.bench_rules.specs.declared.mapping.Mapping.TheVariants.{Shot, Usual}

-- the names that a mapping binds, each with its place: of a shot those of field_record, trace_in_record, group_x and group_y
abbrev pub bindings : Mapping → Pairs
bindings Shot = (codes "inline", signed_at 9 4) ∷ (codes "crossline", signed_at 13 4) ∷ (codes "x", signed_at 81 4) ∷ (codes "y", signed_at 85 4) ∷ []
bindings Usual = geometry_at_load

-- the field map with these names bound to their places, one after another
abbrev pub all_bound : Pairs → Pairs → Pairs
all_bound fields [] = fields
all_bound fields (b ∷ bs) = all_bound (bound fields b.0 b.1) bs

-- the first reason not to bind them one after another, in a file with so many extensions for a trace
abbrev pub first_bind_fault : ℕ → Pairs → Pairs → Option MapFault
first_bind_fault extensions fields [] = None
first_bind_fault extensions fields (b ∷ bs) = option_or (bind_fault extensions fields b.0 b.1) (first_bind_fault extensions (bound fields b.0 b.1) bs)

-- each of these is a geometry name, and may stand at its place
abbrev pub MayBeBound : ℕ → Pairs → Type 0
MayBeBound extensions [] = Unit {0}
MayBeBound extensions (b ∷ bs) = (is_geometry b.0 ≡ true) × (is_geometry_place extensions b.0 b.1 ≡ true) × MayBeBound extensions bs
