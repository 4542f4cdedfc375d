-- Refusals of another number of samples of a trace, and of a field of many traces, worked by hand.
use Rattle.std.specs.Prelude.{◌≡◌, pos, Some, None, codes, refl, false}
use Rattle.std.proofs.Common.{lit≤}
use Rattle.field_map.specs.Binding.{geometry_at_load}
use Rattle.frame_cut.specs.declared.limits.Limits.{Limits}
use Rattle.frame_cut.specs.Readings.{as_written}
use Rattle.frame_cut.specs.SmallFiles.{wide_limits, volume_plain, volume_counted}
use Rattle.frame_cut.specs.Volume.{Volume}
use Rattle.bench_rules.specs.declared.edit.Edit.TheVariants.{Resize, Renumber}
use Rattle.bench_rules.specs.declared.field.Field.TheVariants as field
use Rattle.bench_rules.specs.declared.refusal.Refusal.TheVariants as refusals
use Rattle.bench_rules.specs.Refused.{first_refusal}
use Rattle.bench_rules.specs.State.{State}

-- a volume as it was loaded under these limits
abbrev under : Volume → Limits → State
under v limits = record { volume = v; fields = geometry_at_load; reading = as_written; limits = limits; on_disk = false }

-- four samples in place of two make 4328 bytes of 4324: one byte too many, and just enough
abbrev small_limits : Limits
small_limits = record { bytes = 4327; traces = 9; small = lit≤ tt }

abbrev just_limits : Limits
just_limits = record { bytes = 4328; traces = 9; small = lit≤ tt }

-- that there is no such trace is told before the number is judged
pub resize-no_trace : first_refusal (under volume_plain wide_limits) (Resize 4 (pos 0)) ≡ Some (refusals.NoTrace 4 3)
resize-no_trace = refl

-- two bytes cannot hold it, and the file has no header extensions
pub resize-many : first_refusal (under volume_plain wide_limits) (Resize 1 (pos 65536)) ≡ Some refusals.DoesNotFit
resize-many = refl

-- each trace has the binary header's number of samples
pub resize-frame : first_refusal (under volume_plain wide_limits) (Resize 1 (pos 3)) ≡ Some refusals.Frame
resize-frame = refl

pub resize-large : first_refusal (under volume_counted small_limits) (Resize 1 (pos 4)) ≡ Some refusals.TooLarge
resize-large = refl

pub resize-just_fits : first_refusal (under volume_counted just_limits) (Resize 1 (pos 4)) ≡ None
resize-just_fits = refl

-- no sample at all is not told from the binary header's number
pub resize-zero : first_refusal (under volume_counted wide_limits) (Resize 1 (pos 0)) ≡ Some refusals.DoesNotFit
resize-zero = refl

-- the last trace is named where it stands before the first
pub renumber-backwards : first_refusal (under volume_plain wide_limits) (Renumber 3 2 (field.Name (codes "nothing")) (pos 0) (pos 1)) ≡ Some (refusals.NoTrace 2 3)
renumber-backwards = refl

-- the third value, 2^31, is no number of four bytes with a sign
pub renumber-third : first_refusal (under volume_plain wide_limits) (Renumber 1 3 (field.Name (codes "crossline")) (pos 2147483646) (pos 1)) ≡ Some refusals.DoesNotFit
renumber-third = refl
