-- Samples of chosen traces that get one value, worked by hand.
use Rattle.std.specs.Prelude.{◌≡◌, ℕ, ℤ, pos, negsuc, false, [], ◌∷◌, None, Some, refl}
use Rattle.field_map.specs.Binding.{geometry_at_load}
use Rattle.frame_cut.specs.Readings.{as_written}
use Rattle.frame_cut.specs.SmallFiles.{wide_limits, volume_plain, volume_counted, file_plain, with_bytes_at}
use Rattle.frame_cut.specs.Volume.{Volume, bytes_of}
use Rattle.bench_rules.specs.declared.chosen.Chosen.{Chosen}
use Rattle.bench_rules.specs.declared.chosen_edit.ChosenEdit.TheVariants.{Fill}
use Rattle.bench_rules.specs.declared.edit.Edit.{Edit}
use Rattle.bench_rules.specs.declared.edit.Edit.TheVariants.{OfChosen}
use Rattle.bench_rules.specs.declared.refusal.Refusal.TheVariants as refusals
use Rattle.bench_rules.specs.After.{bytes_after}
use Rattle.bench_rules.specs.Looks.{edit_looks}
use Rattle.bench_rules.specs.Refused.{first_refusal}
use Rattle.bench_rules.specs.State.{State}

abbrev of_file : Volume → State
of_file v = record { volume = v; fields = geometry_at_load; reading = as_written; limits = wide_limits; on_disk = false }

-- three traces of two samples of 16 bits
abbrev loaded : State
loaded = of_file volume_plain

-- samples of traces 2 and 3
abbrev of_two : (first last : ℕ) → ℤ → Edit
of_two first last x = OfChosen (record { traces = Some (2, 3); conditions = [] }) (Fill first last x)

-- of no trace
abbrev of_none : ℤ → Edit
of_none x = OfChosen (record { traces = None; conditions = [] }) (Fill 0 7 x)

-- sample 1 stands in bytes 4087-4088 of the file in trace 2, and in 4331-4332 in trace 3
pub one-accepted : first_refusal loaded (of_two 1 1 (negsuc 6)) ≡ None
one-accepted = refl

pub one-bytes : bytes_after loaded (of_two 1 1 (negsuc 6)) ≡ with_bytes_at 4331 (0xFF ∷ 0xF9 ∷ []) (with_bytes_at 4087 (0xFF ∷ 0xF9 ∷ []) file_plain)
one-bytes = refl

pub both-bytes : bytes_after loaded (of_two 0 1 (pos 5)) ≡ with_bytes_at 4329 (0 ∷ 5 ∷ 0 ∷ 5 ∷ []) (with_bytes_at 4085 (0 ∷ 5 ∷ 0 ∷ 5 ∷ []) file_plain)
both-bytes = refl

pub one-looks : edit_looks loaded (of_two 1 1 (negsuc 6)) ≡ 4
one-looks = refl

-- from sample 1 to sample 0 there is none
pub none-accepted : first_refusal loaded (of_two 1 0 (pos 5)) ≡ None
none-accepted = refl

pub none-bytes : bytes_after loaded (of_two 1 0 (pos 5)) ≡ file_plain
none-bytes = refl

-- there is no sample 2, also where none is filled; the greater of the two is named
pub refused-last : first_refusal loaded (of_two 0 2 (pos 5)) ≡ Some (refusals.NoSample 2 2)
refused-last = refl

pub refused-first : first_refusal loaded (of_two 3 0 (pos 5)) ≡ Some (refusals.NoSample 3 2)
refused-first = refl

-- 32768 does not fit 16 bits with a sign, also where there is no trace; a value that does is then accepted
pub refused-value : first_refusal loaded (of_two 0 2 (pos 32768)) ≡ Some refusals.DoesNotFit
refused-value = refl

pub refused-value-of-none : first_refusal loaded (of_none (pos 32768)) ≡ Some refusals.DoesNotFit
refused-value-of-none = refl

pub none-of-none : first_refusal loaded (of_none (pos 5)) ≡ None
none-of-none = refl

-- behind two header extensions sample 1 stands in bytes 4323-4324
pub counted-bytes : bytes_after (of_file volume_counted) (OfChosen (record { traces = Some (1, 1); conditions = [] }) (Fill 1 1 (pos 9)))
    ≡ with_bytes_at 4323 (0 ∷ 9 ∷ []) (bytes_of volume_counted)
counted-bytes = refl
