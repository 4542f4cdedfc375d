-- Reports of a small survey, worked by hand.
use Rattle.std.specs.Prelude.{◌≡◌, [], ◌∷◌, pos, negsuc, Some, Ok, Err, refl, false}
use Rattle.field_map.specs.Binding.{geometry_at_load}
use Rattle.frame_cut.specs.Readings.{as_written}
use Rattle.frame_cut.specs.SmallFiles.{wide_limits, volume_plain}
use Rattle.key_counts.specs.Coordinates.{under_scalar}
use Rattle.trace_record.specs.SmallSurvey.{survey, trace_2}
use Rattle.bench_rules.specs.Reports.{records, head_facts, faults_in, geometry_in, location_of}
use Rattle.bench_rules.specs.Answer.{answer}
use Rattle.bench_rules.specs.Looks.{query_looks}
use Rattle.bench_rules.specs.declared.answer.Answer.TheVariants as answers
use Rattle.bench_rules.specs.declared.query.Query.TheVariants.{Geometry, Fold, Slice}
use Rattle.bench_rules.specs.declared.ask_fault.AskFault.TheVariants.{NoTrace}
use Rattle.bench_rules.specs.State.{State}

-- the survey's three traces in a file
abbrev pub loaded : State
loaded = record { volume = volume_plain; fields = geometry_at_load; reading = as_written; limits = wide_limits; on_disk = false }

pub records-plain : records loaded ≡ survey
unfolding under_scalar
records-plain = refl

pub geometry-plain : geometry_in loaded 2 ≡ Some (location_of trace_2)
unfolding under_scalar
geometry-plain = refl

-- 40 lines begin with C in EBCDIC, and the interval is 4000
pub heads-plain : head_facts volume_plain ≡ record { trace_count = 0; lines = 0; interval = 4000; major = 1; minor = 0 }
heads-plain = refl

-- the small survey has no faults
pub faults-plain : faults_in loaded ≡ []
unfolding under_scalar
faults-plain = refl

pub report-no_trace : answer loaded (Geometry 4) ≡ Err (NoTrace 4 3)
report-no_trace = refl

-- a cell that no trace has
pub report-fold : answer loaded (Fold (pos 10) (negsuc 0)) ≡ Ok (answers.Fold 0)
unfolding under_scalar
report-fold = refl

-- no trace has a third sample
pub report-slice : answer loaded (Slice 2) ≡ Ok (answers.Slice [])
report-slice = refl

-- three looks, and none where the slice is kept
pub looks-slice : query_looks loaded (7 ∷ []) (Slice 2) ≡ 3
looks-slice = refl

pub looks-kept : query_looks loaded (7 ∷ 2 ∷ []) (Slice 2) ≡ 0
looks-kept = refl
