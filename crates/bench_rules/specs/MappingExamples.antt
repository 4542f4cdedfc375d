-- Geometry names bound to several places at once, worked by hand.
use Rattle.std.specs.Prelude.{◌≡◌, [], ◌∷◌, ◌++◌, Some, None, codes, refl, false}
use Rattle.field_map.specs.Binding.{geometry_at_load}
use Rattle.field_map.specs.KnownNames.{named_place}
use Rattle.field_map.specs.Pairs.{Pairs, place_of, signed_at}
use Rattle.frame_cut.specs.Readings.{as_written}
use Rattle.frame_cut.specs.SmallFiles.{wide_limits, volume_plain}
use Rattle.bench_rules.specs.declared.edit.Edit.TheVariants.{MapAs}
use Rattle.bench_rules.specs.declared.mapping.Mapping.TheVariants.{Shot, Usual}
use Rattle.bench_rules.specs.After.{fields_after}
use Rattle.bench_rules.specs.Kept.{kept_after_edit}
use Rattle.bench_rules.specs.Looks.{edit_looks}
use Rattle.bench_rules.specs.Mappings.{bindings}
use Rattle.bench_rules.specs.Refused.{first_refusal}
use Rattle.bench_rules.specs.State.{State}

-- the places of a shot are those of the standard's names
pub shot-inline : place_of (bindings Shot) (codes "inline") ≡ named_place (codes "field_record")
unfolding named_place
shot-inline = refl

pub shot-crossline : place_of (bindings Shot) (codes "crossline") ≡ named_place (codes "trace_in_record")
unfolding named_place
shot-crossline = refl

pub shot-x : place_of (bindings Shot) (codes "x") ≡ named_place (codes "group_x")
unfolding named_place
shot-x = refl

pub shot-y : place_of (bindings Shot) (codes "y") ≡ named_place (codes "group_y")
unfolding named_place
shot-y = refl

-- ---- a file of three traces

-- its names, with one more that the user bound
abbrev names : Pairs
names = geometry_at_load ++ (codes "shot", signed_at 9 4) ∷ []

abbrev loaded : State
loaded = record { volume = volume_plain; fields = names; reading = as_written; limits = wide_limits; on_disk = false }

-- the names stand where they stood; the offset, the scalar and a further name stay as they are
pub shot-names : fields_after names (MapAs Shot)
    ≡ (codes "inline", signed_at 9 4) ∷ (codes "crossline", signed_at 13 4) ∷ (codes "offset", signed_at 37 4) ∷ (codes "x", signed_at 81 4)
    ∷ (codes "y", signed_at 85 4) ∷ (codes "scalar", signed_at 71 2) ∷ (codes "shot", signed_at 9 4) ∷ []
shot-names = refl

-- and back again
pub usual-names : fields_after (fields_after names (MapAs Shot)) (MapAs Usual) ≡ names
usual-names = refl

pub shot-accepted : first_refusal loaded (MapAs Shot) ≡ None
shot-accepted = refl

pub shot-kept : kept_after_edit loaded (MapAs Shot) (2 ∷ 0 ∷ []) ≡ []
shot-kept = refl

pub shot-looks : edit_looks loaded (MapAs Shot) ≡ 3
shot-looks = refl
