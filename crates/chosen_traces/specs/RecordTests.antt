-- Conditions whose sides the records beside the traces tell.
use Rattle.std.specs.Prelude.{◌≡◌, ℕ, ◌-◌, ℤ, Bool, List, map, slice_get, Option, Some, None, option_and_then, if◌then◌else◌}
use Rattle.std.specs.List.{list_all}
use Rattle.field_map.specs.Pairs.{Pairs}
use Rattle.frame_cut.specs.declared.file_head.Head.{Head}
use Rattle.trace_view.specs.Values.{has_floats}
use Rattle.trace_record.specs.declared.amplitudes.Amplitudes.{Amplitudes}
use Rattle.trace_record.specs.declared.packed_record.PackedRecord.{PackedRecord}
use Rattle.trace_record.specs.Facts.{Facts, facts_of}
use Rattle.trace_record.specs.OfTrace.{record_of}
use Rattle.trace_record.specs.Packed.{record_in}
use Rattle.edit_overlay.specs.CountedVolume.{CountedVolume}
use Rattle.bench_rules.specs.declared.side_value.SideValue.{SideValue}
use Rattle.bench_rules.specs.declared.side_value.SideValue.TheVariants as values
use Rattle.bench_rules.specs.declared.term.Term.{Term as PlacedTerm}
use Rattle.bench_rules.specs.declared.test.Test.{Test}
use Rattle.bench_rules.specs.declared.test_side.TestSide.{TestSide}
use Rattle.bench_rules.specs.Computed.{term_in}
use Rattle.bench_rules.specs.Conditions.{meets, side_by, test_in}
use Rattle.bench_rules.specs.SampleFacts.{amplitudes_at, fact_by}
use Rattle.bench_rules.specs.SideValues.{compares}
use Rattle.chosen_traces.specs.declared.record_tests.RecordSide.{RecordSide}
use Rattle.chosen_traces.specs.declared.record_tests.RecordSide.TheVariants.{Term, Decimal, Fact}
use Rattle.chosen_traces.specs.declared.record_tests.RecordTerm.{RecordTerm}
use Rattle.chosen_traces.specs.declared.record_tests.RecordTerm.TheVariants.{Number, Inline, Crossline, Offset, Sequence}
use Rattle.chosen_traces.specs.declared.record_tests.RecordTest.{RecordTest}

-- the number in a record
abbrev pub number_of : Facts → RecordTerm → ℤ
number_of f (Number x) = x
number_of f Inline = f.inline
number_of f Crossline = f.crossline
number_of f Offset = f.offset
number_of f Sequence = f.sequence

-- what a side says of the trace of a record; whether samples are floats comes first
abbrev pub value_in : Bool → Facts → RecordSide → SideValue
value_in floats f (Term term) = values.Whole (number_of f term)
value_in floats f (Decimal amount) = values.Decimal amount
value_in floats f (Fact fact) = fact_by floats f.amplitudes f.number fact

-- whether a record meets a condition
abbrev pub holds : Bool → Facts → RecordTest → Bool
holds floats f test = compares test.comparison (value_in floats f test.left) (value_in floats f test.right)

-- it meets each of them
abbrev pub hold : Bool → Facts → List RecordTest → Bool
hold floats f tests = list_all (holds floats f) tests

-- the record of each trace tells the number of the term
abbrev pub IsTermOf : Pairs → PlacedTerm → RecordTerm → Type 0
IsTermOf fields term told = (h : Head) (t : List ℕ) → term_in h t term ≡ Some (number_of (record_of h fields t) told)

-- it tells what the side says
abbrev pub IsSideOf : Pairs → TestSide → RecordSide → Type 0
IsSideOf fields side told = (h : Head) (t : List ℕ) → side_by h t (amplitudes_at h t) side ≡ Some (value_in (has_floats h) (record_of h fields t) told)

-- it tells whether the trace meets the condition
abbrev pub IsTestOf : Pairs → Test → RecordTest → Type 0
IsTestOf fields test told = (h : Head) (t : List ℕ) → test_in h t test ≡ Some (holds (has_floats h) (record_of h fields t) told)

-- it tells whether the trace meets all conditions
abbrev pub AreTestsOf : Pairs → List Test → List RecordTest → Type 0
AreTestsOf fields tests told = (h : Head) (t : List ℕ) → meets h t tests ≡ Some (hold (has_floats h) (record_of h fields t) told)

-- beside each trace of the volume its record stands
abbrev pub HasRecords : CountedVolume PackedRecord → Pairs → Type 0
HasRecords o fields = map facts_of (map record_in o.payloads) ≡ map (record_of o.volume.head fields) o.volume.traces

-- what the record beside trace p says of its samples
abbrev pub amplitudes_beside : List PackedRecord → (p : ℕ) → Option Amplitudes
amplitudes_beside payloads p = option_and_then (λ r. r.amplitudes) (slice_get (map record_in payloads) (p - 1))

-- the same where it is asked for
abbrev pub amplitudes_if : Bool → List PackedRecord → (p : ℕ) → Option Amplitudes
amplitudes_if asked payloads p = if asked then amplitudes_beside payloads p else None
