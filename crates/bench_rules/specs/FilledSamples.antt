-- One value in a range of the samples of each of many traces. Samples are counted from 0.
use Rattle.std.specs.Prelude.{ℕ, ◌+◌, ◌-◌, ◌*◌, nat_lt, max, ℤ, List, length, replicate, Option, Some, None, if◌then◌else◌}
use Rattle.std.specs.Option.{option_map_or}
use Rattle.sample_codes.specs.declared.value_format.ValueFormat.{ValueFormat}
use Rattle.sample_codes.specs.Formats.{sample_fits, samples_bytes, values, width}
use Rattle.frame_cut.specs.declared.file_head.Head.{Head}
use Rattle.frame_cut.specs.Frames.{sample_count}
use Rattle.frame_cut.specs.Splice.{splice}
use Rattle.trace_view.specs.Values.{samples_at}
use Rattle.bench_rules.specs.declared.refusal.Refusal.{Refusal}
use Rattle.bench_rules.specs.declared.refusal.Refusal.TheVariants as refusals

-- the value for each sample from the first to the last; none where the first is above the last
abbrev pub range_values : (first last : ℕ) → ℤ → List ℤ
range_values first last x = replicate (last + 1 - first) x

-- the trace with these values over its samples from sample k on, as numbers of the format
abbrev pub with_samples : Head → ValueFormat → List ℕ → (k : ℕ) → List ℤ → List ℕ
with_samples h f t k xs = splice t (samples_at h t + width h.format * k) (width h.format * length xs) (samples_bytes h.order f xs)

-- the trace with the value in its samples from the first to the last, where samples have values
abbrev pub filled : Head → (first last : ℕ) → ℤ → List ℕ → List ℕ
filled h first last x t = option_map_or (λ f. with_samples h f t first (range_values first last x)) (values h.format) t

-- the refusal of a value for samples that are read so, whatever trace they are of: E12 where they have no values, then E04
abbrev pub sample_value_refusal : Option ValueFormat → ℤ → Option Refusal
sample_value_refusal None x = Some refusals.NoValues
sample_value_refusal (Some f) x = if sample_fits f x then None else Some refusals.DoesNotFit

-- the refusal of a trace that lacks one of two samples: E05, which names the greater of the two
abbrev pub samples_refusal : Head → (first last : ℕ) → List ℕ → Option Refusal
samples_refusal h first last t = if nat_lt (max first last) (sample_count h t) then None else Some (refusals.NoSample (max first last) (sample_count h t))
