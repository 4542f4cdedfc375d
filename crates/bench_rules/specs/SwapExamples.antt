-- Fields whose numbers change places, worked by hand.
use Rattle.std.specs.Prelude.{◌≡◌, [], ◌∷◌, None, Some, codes, refl, false}
use Rattle.field_map.specs.Binding.{geometry_at_load}
use Rattle.field_map.specs.KnownNames.{named_place}
use Rattle.field_map.specs.Pairs.{signed_at}
use Rattle.frame_cut.specs.Readings.{as_written}
use Rattle.frame_cut.specs.SmallFiles.{wide_limits, volume_plain, file_plain, with_bytes_at}
use Rattle.bench_rules.specs.declared.chosen.Chosen.{Chosen}
use Rattle.bench_rules.specs.declared.chosen_edit.ChosenEdit.TheVariants.{Swap}
use Rattle.bench_rules.specs.declared.edit.Edit.{Edit}
use Rattle.bench_rules.specs.declared.edit.Edit.TheVariants.{OfChosen}
use Rattle.bench_rules.specs.declared.field.Field.{Field}
use Rattle.bench_rules.specs.declared.field.Field.TheVariants as field
use Rattle.bench_rules.specs.declared.refusal.Refusal.TheVariants as refusals
use Rattle.bench_rules.specs.After.{bytes_after}
use Rattle.bench_rules.specs.Looks.{edit_looks}
use Rattle.bench_rules.specs.Refused.{first_refusal}
use Rattle.bench_rules.specs.State.{State}

-- three traces of inline 10, crosslines 21 to 23 and offsets 100, 200 and 300
abbrev loaded : State
loaded = record { volume = volume_plain; fields = geometry_at_load; reading = as_written; limits = wide_limits; on_disk = false }

-- two fields of traces 2 and 3
abbrev of_two : Field → Field → Edit
of_two first second = OfChosen (record { traces = Some (2, 3); conditions = [] }) (Swap first second)

abbrev lines : Edit
lines = of_two (field.Name (codes "inline")) (field.Name (codes "crossline"))

pub lines-accepted : first_refusal loaded lines ≡ None
lines-accepted = refl

-- the low bytes of inline and crossline are bytes 4036 and 4040 of the file in trace 2, and 4280 and 4284 in trace 3
pub lines-bytes : bytes_after loaded lines
    ≡ with_bytes_at 4284 (10 ∷ []) (with_bytes_at 4280 (23 ∷ []) (with_bytes_at 4040 (10 ∷ []) (with_bytes_at 4036 (22 ∷ []) file_plain)))
lines-bytes = refl

pub lines-looks : edit_looks loaded lines ≡ 4
lines-looks = refl

-- bytes 192-193 and 193-196 share one: 22 over the first, and then 2560, which stood there, over the second
pub shared-bytes : bytes_after loaded (OfChosen (record { traces = Some (2, 2); conditions = [] }) (Swap (field.Place (signed_at 192 2)) (field.Name (codes "crossline"))))
    ≡ with_bytes_at 4036 (0 ∷ 0 ∷ 0 ∷ 10 ∷ 0 ∷ []) file_plain
shared-bytes = refl

-- a name of nothing, and a byte that no trace has
pub refused-name : first_refusal loaded (of_two (field.Name (codes "inline")) (field.Name (codes "crosline"))) ≡ Some refusals.NoField
unfolding named_place
refused-name = refl

pub refused-place : first_refusal loaded (of_two (field.Name (codes "inline")) (field.Place (signed_at 240 4))) ≡ Some refusals.NoPlace
refused-place = refl

-- an offset of 200 in one byte with a sign
pub refused-number : first_refusal loaded (of_two (field.Name (codes "offset")) (field.Place (signed_at 231 1))) ≡ Some refusals.DoesNotFit
refused-number = refl
