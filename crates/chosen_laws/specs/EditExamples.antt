-- Edits of chosen traces as edits one after another, worked by hand.
use Rattle.std.specs.Prelude.{◌≡◌, ℕ, [], ◌∷◌, pos, None, Ok, refl}
use Rattle.field_map.specs.Pairs.{signed_at}
use Rattle.frame_cut.specs.SmallFiles.{trace_plain_1, trace_plain_2, trace_plain_3, volume_plain}
use Rattle.bench_rules.specs.declared.edit.Edit.TheVariants.{Set, Patch, Delete}
use Rattle.bench_rules.specs.declared.field.Field.TheVariants as field
use Rattle.chosen_laws.specs.EditLaws.{deletes_of, done_each, others, patches_of, sets_at}

-- two of three traces are taken out, the one behind first
pub others-one : others volume_plain (1 ∷ 3 ∷ []) ≡ trace_plain_2 ∷ []
others-one = refl

pub others-all : others volume_plain [] ≡ trace_plain_1 ∷ trace_plain_2 ∷ trace_plain_3 ∷ []
others-all = refl

pub deletes-two : deletes_of (1 ∷ 3 ∷ []) ≡ Delete 3 ∷ Delete 1 ∷ []
deletes-two = refl

pub done-two : done_each {X = ℕ} (1 ∷ 3 ∷ []) ≡ Ok None ∷ Ok None ∷ []
done-two = refl

-- crosslines 5 and 15
pub sets-two : sets_at (signed_at 193 4) ((2, pos 5) ∷ (3, pos 15) ∷ []) ≡ Set 2 (field.Place (signed_at 193 4)) (pos 5) ∷ Set 3 (field.Place (signed_at 193 4)) (pos 15) ∷ []
sets-two = refl

-- 7 in samples 0 and 1
pub patches-two : patches_of 0 1 (pos 7) (2 ∷ 3 ∷ []) ≡ Patch 2 0 (pos 7 ∷ pos 7 ∷ []) ∷ Patch 3 0 (pos 7 ∷ pos 7 ∷ []) ∷ []
patches-two = refl
