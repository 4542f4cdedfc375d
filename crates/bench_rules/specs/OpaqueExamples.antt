-- A file whose samples have no values, worked by hand.
use Rattle.std.specs.Prelude.{◌≡◌, [], ◌∷◌, pos, replicate, Some, None, Ok, Err, refl, false}
use Rattle.field_map.specs.Binding.{geometry_at_load}
use Rattle.num_order.specs.declared.order.Order.TheVariants.{Little}
use Rattle.frame_cut.specs.Readings.{as_opaque}
use Rattle.frame_cut.specs.SmallFiles.{wide_limits, head_untold, bin_untold, trace_untold}
use Rattle.frame_cut.specs.Volume.{Volume}
use Rattle.bench_rules.specs.declared.edit.Edit.TheVariants.{Patch, Resize, Delete}
use Rattle.bench_rules.specs.declared.refusal.Refusal.TheVariants as refusals
use Rattle.bench_rules.specs.declared.query.Query.TheVariants.{Count, Sample, Stat, Totals, Slice}
use Rattle.bench_rules.specs.declared.answer.Answer.TheVariants as answers
use Rattle.bench_rules.specs.declared.ask_fault.AskFault.TheVariants.{NoTrace, NoValues}
use Rattle.bench_rules.specs.Answer.{answer}
use Rattle.bench_rules.specs.Refused.{first_refusal}
use Rattle.bench_rules.specs.State.{State}

-- one trace with one IBM float, in little-endian order that is asked for
abbrev volume_untold : Volume
volume_untold = record { head = head_untold; text = replicate 3200 0x40; bin = bin_untold; blocks = []; traces = trace_untold ∷ []; tail = []; trailer = [] }

abbrev untold : State
untold = record { volume = volume_untold; fields = geometry_at_load; reading = record as_opaque { order = Some Little }; limits = wide_limits; on_disk = false }

-- and the same without a trace
abbrev none_left : State
none_left = record untold { volume = record volume_untold { traces = [] } }

-- no trace comes before no value, and no value before no sample and a number that does not fit
pub sample-no_trace : answer untold (Sample 2 9) ≡ Err (NoTrace 2 1)
sample-no_trace = refl

pub sample-no_value : answer untold (Sample 1 9) ≡ Err NoValues
sample-no_value = refl

pub stat-no_value : answer untold (Stat 1) ≡ Err NoValues
stat-no_value = refl

pub patch-no_trace : first_refusal untold (Patch 2 9 (pos 4294967296 ∷ [])) ≡ Some (refusals.NoTrace 2 1)
patch-no_trace = refl

pub patch-no_value : first_refusal untold (Patch 1 9 (pos 4294967296 ∷ [])) ≡ Some refusals.NoValues
patch-no_value = refl

-- whether there are traces or none
pub totals-no_value : answer none_left Totals ≡ Err NoValues
totals-no_value = refl

pub slice-no_value : answer none_left (Slice 0) ≡ Err NoValues
slice-no_value = refl

-- other edits and queries are what they are
pub count-untold : answer untold Count ≡ Ok (answers.Count 1)
count-untold = refl

pub resize-untold : first_refusal untold (Resize 1 (pos 3)) ≡ None
resize-untold = refl

pub delete-untold : first_refusal untold (Delete 1) ≡ None
delete-untold = refl
