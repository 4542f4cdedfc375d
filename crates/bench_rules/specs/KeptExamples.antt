-- Slices that are kept, worked by hand.
use Rattle.std.specs.Prelude.{◌≡◌, ℕ, List, [], ◌∷◌, pos, codes, refl, false}
use Rattle.field_map.specs.Binding.{geometry_at_load}
use Rattle.field_map.specs.Pairs.{signed_at}
use Rattle.frame_cut.specs.Readings.{as_written}
use Rattle.frame_cut.specs.SmallFiles.{wide_limits, volume_plain}
use Rattle.bench_rules.specs.declared.edit.Edit.TheVariants.{Set, Map, Patch, Delete, Renumber}
use Rattle.bench_rules.specs.declared.field.Field.TheVariants as field
use Rattle.bench_rules.specs.Kept.{kept_after_slice, kept_after_edit}
use Rattle.bench_rules.specs.State.{State}

-- three traces, of inline 10 and crosslines 21 to 23
abbrev pub loaded : State
loaded = record { volume = volume_plain; fields = geometry_at_load; reading = as_written; limits = wide_limits; on_disk = false }

-- three kept slices
abbrev three : List ℕ
three = 5 ∷ 1 ∷ 0 ∷ []

-- a kept slice comes first again
pub slice-again : kept_after_slice 1 three ≡ 1 ∷ 5 ∷ 0 ∷ []
slice-again = refl

-- the ninth goes
pub slice-ninth : kept_after_slice 9 (8 ∷ 7 ∷ 6 ∷ 5 ∷ 4 ∷ 3 ∷ 2 ∷ 1 ∷ []) ≡ 9 ∷ 8 ∷ 7 ∷ 6 ∷ 5 ∷ 4 ∷ 3 ∷ 2 ∷ []
slice-ninth = refl

-- values over samples 0 and 1
pub patch-two : kept_after_edit loaded (Patch 2 0 (pos 7 ∷ pos 8 ∷ [])) three ≡ 5 ∷ []
patch-two = refl

pub delete-all : kept_after_edit loaded (Delete 1) three ≡ []
delete-all = refl

-- another crossline, the crossline that the trace has, and another offset
pub set-crossline : kept_after_edit loaded (Set 2 (field.Name (codes "crossline")) (pos 21)) three ≡ []
set-crossline = refl

pub set-same : kept_after_edit loaded (Set 2 (field.Name (codes "crossline")) (pos 22)) three ≡ three
set-same = refl

pub set-offset : kept_after_edit loaded (Set 2 (field.Name (codes "offset")) (pos 21)) three ≡ three
set-offset = refl

-- the low byte of the inline, by its place
pub set-byte : kept_after_edit loaded (Set 2 (field.Place (signed_at 192 1)) (pos 11)) three ≡ []
set-byte = refl

-- a geometry name, and another
pub map-inline : kept_after_edit loaded (Map (codes "inline") (field.Place (signed_at 9 4))) three ≡ []
map-inline = refl

pub map-other : kept_after_edit loaded (Map (codes "shot") (field.Place (signed_at 9 4))) three ≡ three
map-other = refl

-- all three traces get the crossline that they have, and then the second another
pub renumber-same : kept_after_edit loaded (Renumber 1 3 (field.Name (codes "crossline")) (pos 21) (pos 1)) three ≡ three
renumber-same = refl

pub renumber-other : kept_after_edit loaded (Renumber 1 3 (field.Name (codes "crossline")) (pos 21) (pos 2)) three ≡ []
renumber-other = refl
