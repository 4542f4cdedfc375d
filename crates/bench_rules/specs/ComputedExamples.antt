-- Computed fields, worked by hand.
use Rattle.std.specs.Prelude.{◌≡◌, ◌-◌, ◌^◌, pos, negsuc, [], ◌∷◌, None, Some, Ok, Err, codes, refl, false}
use Rattle.field_map.specs.Binding.{geometry_at_load}
use Rattle.field_map.specs.KnownNames.{named_place}
use Rattle.field_map.specs.Pairs.{signed_at}
use Rattle.frame_cut.specs.Readings.{as_written}
use Rattle.frame_cut.specs.SmallFiles.{wide_limits, volume_plain, file_plain, with_bytes_at}
use Rattle.bench_rules.specs.declared.edit.Edit.{Edit}
use Rattle.bench_rules.specs.declared.edit.Edit.TheVariants.{Compute}
use Rattle.bench_rules.specs.declared.field.Field.TheVariants as field
use Rattle.bench_rules.specs.declared.operand.Operand.TheVariants as operand
use Rattle.bench_rules.specs.declared.operator.Operator.TheVariants.{Plus, Times, Over, Modulo}
use Rattle.bench_rules.specs.declared.refusal.Refusal.TheVariants as refusals
use Rattle.bench_rules.specs.After.{bytes_after}
use Rattle.bench_rules.specs.Computed.{quotient, applied, stepped}
use Rattle.bench_rules.specs.Kept.{kept_after_edit}
use Rattle.bench_rules.specs.Looks.{edit_looks}
use Rattle.bench_rules.specs.Refused.{first_refusal}
use Rattle.bench_rules.specs.State.{State}

-- three traces of inline 10, crosslines 21 to 23 and offsets 100, 200 and 300
abbrev loaded : State
loaded = record { volume = volume_plain; fields = geometry_at_load; reading = as_written; limits = wide_limits; on_disk = false }

-- 7 / 2, -7 / 2, 7 / -2 and -7 / -2
pub quotient-plus_plus : quotient (pos 7) (pos 2) ≡ pos 3
quotient-plus_plus = refl

pub quotient-minus_plus : quotient (negsuc 6) (pos 2) ≡ negsuc 3
quotient-minus_plus = refl

pub quotient-plus_minus : quotient (pos 7) (negsuc 1) ≡ negsuc 3
quotient-plus_minus = refl

pub quotient-minus_minus : quotient (negsuc 6) (negsuc 1) ≡ pos 3
quotient-minus_minus = refl

-- -7 % 2 and 7 % -2
pub modulo-minus_plus : applied Modulo (negsuc 6) (pos 2) ≡ pos 1
modulo-minus_plus = refl

pub modulo-plus_minus : applied Modulo (pos 7) (negsuc 1) ≡ negsuc 0
modulo-plus_minus = refl

-- the greatest number, and one more
pub step-greatest : stepped 1 Plus (pos (2 ^ 127 - 2)) (pos 1) ≡ Ok (pos (2 ^ 127 - 1))
step-greatest = refl

pub step-behind : stepped 1 Plus (pos (2 ^ 127 - 1)) (pos 1) ≡ Err refusals.DoesNotFit
step-behind = refl

-- the crossline of traces 2 and 3: the offset / 100 + the inline, so 12 and 13
abbrev twelve : Edit
twelve = Compute 2 3 (field.Name (codes "crossline")) (operand.Field (field.Name (codes "offset"))) ((Over, operand.Number (pos 100)) ∷ (Plus, operand.Field (field.Place (signed_at 189 4))) ∷ [])

pub twelve-accepted : first_refusal loaded twelve ≡ None
twelve-accepted = refl

-- bytes 4040 and 4284 of the file: the low bytes of the crosslines of traces 2 and 3
pub twelve-bytes : bytes_after loaded twelve ≡ with_bytes_at 4284 (13 ∷ []) (with_bytes_at 4040 (12 ∷ []) file_plain)
twelve-bytes = refl

pub twelve-kept : kept_after_edit loaded twelve (2 ∷ []) ≡ []
twelve-kept = refl

pub twelve-looks : edit_looks loaded twelve ≡ 4
twelve-looks = refl

-- all three traces would divide, and trace 1 is the lowest
pub divides-by_zero : first_refusal loaded (Compute 1 3 (field.Name (codes "offset")) (operand.Field (field.Name (codes "offset"))) ((Over, operand.Number (pos 0)) ∷ [])) ≡ Some (refusals.ZeroDivisor 1)
divides-by_zero = refl

-- 110 times 300 is no signed number of 2 bytes, so trace 3 is refused
pub too-great : first_refusal loaded (Compute 1 3 (field.Place (signed_at 9 2)) (operand.Field (field.Name (codes "offset"))) ((Times, operand.Number (pos 110)) ∷ [])) ≡ Some refusals.DoesNotFit
too-great = refl

pub just-fits : first_refusal loaded (Compute 1 2 (field.Place (signed_at 9 2)) (operand.Field (field.Name (codes "offset"))) ((Times, operand.Number (pos 110)) ∷ [])) ≡ None
just-fits = refl

-- a name that is not there comes before the place that a trace lacks, and that before the division
pub no-field : first_refusal loaded (Compute 1 3 (field.Name (codes "ext_count")) (operand.Number (pos 1)) ((Over, operand.Field (field.Name (codes "nothing"))) ∷ [])) ≡ Some refusals.NoField
unfolding named_place
no-field = refl

pub no-place : first_refusal loaded (Compute 1 3 (field.Name (codes "inline")) (operand.Number (pos 1)) ((Over, operand.Number (pos 0)) ∷ (Plus, operand.Field (field.Name (codes "ext_count"))) ∷ [])) ≡ Some refusals.NoPlace
unfolding named_place
no-place = refl
