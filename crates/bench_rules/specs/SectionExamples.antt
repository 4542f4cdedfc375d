-- Samples of many traces, worked by hand.
use Rattle.std.specs.Prelude.{◌≡◌, ℕ, pos, negsuc, [], ◌∷◌, None, Some, Ok, Err, refl}
use Rattle.sample_codes.specs.declared.format.Format.TheVariants.{Opaque}
use Rattle.sample_codes.specs.declared.opaque_format.OpaqueFormat.TheVariants.{IbmFloat32}
use Rattle.field_map.specs.KnownNames.{named_place}
use Rattle.frame_cut.specs.SmallFiles.{head_plain, volume_plain}
use Rattle.bench_rules.specs.declared.answer.Answer.TheVariants as answers
use Rattle.bench_rules.specs.declared.ask_fault.AskFault.TheVariants as asks
use Rattle.bench_rules.specs.declared.chosen.Chosen.{Chosen}
use Rattle.bench_rules.specs.declared.chosen_query.ChosenQuery.TheVariants.{Samples}
use Rattle.bench_rules.specs.declared.query.Query.{Query}
use Rattle.bench_rules.specs.declared.query.Query.TheVariants.{OfChosen}
use Rattle.bench_rules.specs.declared.sample_range.SampleRange.{SampleRange}
use Rattle.bench_rules.specs.declared.section.Section.{Section}
use Rattle.bench_rules.specs.Answer.{answer}
use Rattle.bench_rules.specs.ChosenExamples.{far, loaded, unknown}
use Rattle.bench_rules.specs.Looks.{query_looks}
use Rattle.bench_rules.specs.Sections.{numbers_asked, rows_of, samples_asked}
use Rattle.bench_rules.specs.State.{State}

abbrev by : (from to step : ℕ) → SampleRange
by from to step = record { from = from; to = to; step = step }

-- ---- which numbers are asked for

pub numbers-each : numbers_asked (by 2 5 1) ≡ 2 ∷ 3 ∷ 4 ∷ 5 ∷ []
numbers-each = refl

pub numbers-third : numbers_asked (by 2 9 3) ≡ 2 ∷ 5 ∷ 8 ∷ []
numbers-third = refl

pub numbers-one : numbers_asked (by 4 4 7) ≡ 4 ∷ []
numbers-one = refl

-- none where the first is above the last
pub numbers-none : numbers_asked (by 5 4 1) ≡ []
numbers-none = refl

-- a step of 0 counts as 1
pub numbers-zero : numbers_asked (by 2 4 0) ≡ 2 ∷ 3 ∷ 4 ∷ []
numbers-zero = refl

-- ---- the rows

-- trace 3 has the samples -5 and 6, and no sample 2
pub asked-both : samples_asked volume_plain (by 0 9 1) 3 ≡ negsuc 4 ∷ pos 6 ∷ []
asked-both = refl

pub asked-second : samples_asked volume_plain (by 1 9 4) 3 ≡ pos 6 ∷ []
asked-second = refl

pub asked-behind : samples_asked volume_plain (by 2 9 1) 3 ≡ []
asked-behind = refl

-- the rows stand as the traces are listed
pub rows-two : rows_of volume_plain (record { traces = 2 ∷ 3 ∷ []; samples = by 0 1 1 }) ≡ (2, pos 3 ∷ pos 4 ∷ []) ∷ (3, negsuc 4 ∷ pos 6 ∷ []) ∷ []
rows-two = refl

-- ---- the answer

-- the samples of all three traces
abbrev of_all : SampleRange → Query
of_all range = OfChosen (record { traces = Some (1, 3); conditions = [] }) (Samples range)

pub answer-all : answer loaded (of_all (by 0 1 1)) ≡ Ok (answers.Section (record { traces = 1 ∷ 2 ∷ 3 ∷ []; samples = by 0 1 1 }))
answer-all = refl

-- the traces are not yet looked at
pub answer-looks : query_looks loaded [] (of_all (by 0 1 1)) ≡ 0
answer-looks = refl

-- the same file where samples have no value
abbrev opaque : State
opaque = record loaded { volume = record volume_plain { head = record head_plain { format = Opaque IbmFloat32 } } }

-- that is refused of no trace too, but behind the place that a condition lacks, and behind a name that stands for nothing
pub opaque-none : answer opaque (OfChosen (record { traces = None; conditions = [] }) (Samples (by 0 1 1))) ≡ Err asks.NoValues
opaque-none = refl

pub opaque-place : answer opaque (OfChosen (record { traces = Some (1, 3); conditions = far ∷ [] }) (Samples (by 0 1 1))) ≡ Err asks.NoPlace
opaque-place = refl

pub opaque-name : answer opaque (OfChosen (record { traces = Some (1, 3); conditions = unknown ∷ [] }) (Samples (by 0 1 1))) ≡ Err asks.NoField
unfolding named_place
opaque-name = refl
