-- Facts about the samples of a trace that may stand in a condition.
use Rattle.std.specs.Prelude.{ℕ, ℤ, pos, Bool, true, false, List, [], ◌∷◌, codes, bytes_eq, Option, None, if◌then◌else◌}
use Rattle.std.specs.Map.{lookup}
use Rattle.std.specs.Option.{option_map_or}
use Rattle.std.specs.Ordering.{int_eq}
use Rattle.float_codes.specs.Ranks.{no_number}
use Rattle.frame_cut.specs.declared.file_head.Head.{Head}
use Rattle.trace_view.specs.Values.{has_floats, samples_of}
use Rattle.trace_record.specs.declared.amplitudes.Amplitudes.{Amplitudes}
use Rattle.trace_record.specs.Statistics.{amplitudes_of}
use Rattle.bench_rules.specs.declared.field.Field.TheVariants as fields
use Rattle.bench_rules.specs.declared.operand.Operand.{Operand}
use Rattle.bench_rules.specs.declared.operand.Operand.TheVariants as operands
use Rattle.bench_rules.specs.declared.sample_fact.SampleFact.{SampleFact}
use Rattle.bench_rules.specs.declared.sample_fact.SampleFact.TheVariants.{Least, Greatest, Count}
use Rattle.bench_rules.specs.declared.side_value.SideValue.{SideValue}
use Rattle.bench_rules.specs.declared.side_value.SideValue.TheVariants.{Whole, Rank, Missing}
use Rattle.bench_rules.specs.declared.test_side.TestSide.{TestSide}
use Rattle.bench_rules.specs.declared.test_side.TestSide.TheVariants.{Term, Decimal, Fact}

-- ---- their names

-- the fact of that name
abbrev pub fact_named : List ℕ → Option SampleFact
fact_named name = lookup (bytes_eq name)
    ((codes "sample_least", Least) ∷ (codes "sample_greatest", Greatest) ∷ (codes "sample_count", Count) ∷ [])

-- the fact that an operand names
abbrev pub fact_of : Operand → Option SampleFact
fact_of (operands.Number x) = None
fact_of (operands.Field (fields.Place place)) = None
fact_of (operands.Field (fields.Name name)) = fact_named name

-- ---- kinds of sides

-- a decimal
abbrev pub is_decimal : TestSide → Bool
is_decimal (Term term) = false
is_decimal (Decimal a) = true
is_decimal (Fact fact) = false

-- a fact that samples without values do not tell: the least or the greatest
abbrev pub is_value : SampleFact → Bool
is_value Least = true
is_value Greatest = true
is_value Count = false

-- the least or the greatest sample
abbrev pub is_extreme : TestSide → Bool
is_extreme (Term term) = false
is_extreme (Decimal a) = false
is_extreme (Fact fact) = is_value fact

-- ---- what they say

-- The least, the greatest and the sum of the trace's samples. Of floats the least and the greatest number, as ranks: the least is
-- `no_number` where none of them is one.
abbrev pub amplitudes_at : Head → List ℕ → Option Amplitudes
amplitudes_at h t = amplitudes_of (has_floats h) (samples_of h t)

-- the least or the greatest of samples; whether they are floats comes first. It is missing where no float is a number
abbrev pub extreme_by : Bool → Amplitudes → ℤ → SideValue
extreme_by false a x = Whole x
extreme_by true a x = if int_eq a.least no_number then Missing else Rank x

-- what a fact says of so many samples with these amplitudes; the least and the greatest of no samples are missing
abbrev pub fact_by : Bool → Option Amplitudes → (count : ℕ) → SampleFact → SideValue
fact_by floats all n Least = option_map_or (λ a. extreme_by floats a a.least) all Missing
fact_by floats all n Greatest = option_map_or (λ a. extreme_by floats a a.greatest) all Missing
fact_by floats all n Count = Whole (pos n)
