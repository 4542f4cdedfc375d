-- Refusals of edits of samples and of whole traces, worked by hand.
use Rattle.std.specs.Prelude.{◌≡◌, [], ◌∷◌, pos, Some, None, refl, false}
use Rattle.std.proofs.Common.{lit≤}
use Rattle.field_map.specs.Binding.{geometry_at_load}
use Rattle.frame_cut.specs.declared.limits.Limits.{Limits}
use Rattle.frame_cut.specs.Readings.{as_written}
use Rattle.frame_cut.specs.SmallFiles.{wide_limits, volume_plain}
use Rattle.bench_rules.specs.declared.edit.Edit.TheVariants.{Patch, Blank, Copy, Move}
use Rattle.bench_rules.specs.declared.refusal.Refusal.TheVariants as refusals
use Rattle.bench_rules.specs.Refused.{first_refusal}
use Rattle.bench_rules.specs.State.{State}

-- limits on the bytes, and on the traces
abbrev small_limits : Limits
small_limits = record { bytes = 4575; traces = 9; small = lit≤ tt }

abbrev few_limits : Limits
few_limits = record { bytes = 4576; traces = 3; small = lit≤ tt }

abbrev just_limits : Limits
just_limits = record { bytes = 4576; traces = 4; small = lit≤ tt }

-- three traces of two samples, 4332 bytes in all, under these limits
abbrev under : Limits → State
under limits = record { volume = volume_plain; fields = geometry_at_load; reading = as_written; limits = limits; on_disk = false }

-- two values from sample 1 on
pub patch-behind : first_refusal (under wide_limits) (Patch 2 1 (pos 7 ∷ pos 8 ∷ [])) ≡ Some (refusals.NoSample 2 2)
patch-behind = refl

-- the number named is the greater of sample and count
pub patch-far : first_refusal (under wide_limits) (Patch 2 5 []) ≡ Some (refusals.NoSample 5 2)
patch-far = refl

-- no values behind the last sample
pub patch-nothing : first_refusal (under wide_limits) (Patch 2 2 []) ≡ None
patch-nothing = refl

-- the second value is no number of 16 bits, and the third has no sample
pub patch-first : first_refusal (under wide_limits) (Patch 2 0 (pos 7 ∷ pos 32768 ∷ pos 7 ∷ [])) ≡ Some refusals.DoesNotFit
patch-first = refl

-- a blank trace has 244 bytes
pub blank-large : first_refusal (under small_limits) (Blank 4) ≡ Some refusals.TooLarge
blank-large = refl

pub blank-just_fits : first_refusal (under just_limits) (Blank 4) ≡ None
blank-just_fits = refl

pub copy-many : first_refusal (under few_limits) (Copy 1 4) ≡ Some refusals.TooManyTraces
copy-many = refl

-- the trace that is copied comes first
pub copy-from : first_refusal (under wide_limits) (Copy 4 5) ≡ Some (refusals.NoTrace 4 3)
copy-from = refl

pub copy-to : first_refusal (under wide_limits) (Copy 3 5) ≡ Some (refusals.NoTrace 5 3)
copy-to = refl

-- no trace is moved behind the last place
pub move-to : first_refusal (under wide_limits) (Move 1 4) ≡ Some (refusals.NoTrace 4 3)
move-to = refl
