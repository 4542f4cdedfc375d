-- Conditions on facts about samples, worked by hand.
use Rattle.std.specs.Prelude.{◌≡◌, ℕ, ℤ, pos, negsuc, List, [], ◌∷◌, codes, false, None, Some, Ok, Err, refl, true}
use lib.Ieee.{to_bits, round}
use Rattle.exact_amounts.specs.declared.amount.Amount.{Amount}
use Rattle.std.specs.declared.cmp.Ordering.TheVariants as orders
use Rattle.std.specs.Option.{option_map_or}
use Rattle.field_map.specs.Binding.{geometry_at_load}
use Rattle.field_map.specs.KnownNames.{named_place}
use Rattle.field_map.specs.Pairs.{Pairs, signed_at}
use Rattle.float_codes.specs.Ranks.{no_number}
use Rattle.frame_cut.specs.Readings.{as_written}
use Rattle.frame_cut.specs.SmallFiles.{head_plain, volume_plain, wide_limits}
use Rattle.sample_codes.specs.declared.format.Format.TheVariants.{Opaque}
use Rattle.sample_codes.specs.declared.opaque_format.OpaqueFormat.TheVariants.{IbmFloat32}
use Rattle.trace_record.specs.Statistics.{amplitudes_of}
use Rattle.bench_rules.specs.declared.answer.Answer.TheVariants as answers
use Rattle.bench_rules.specs.declared.ask_fault.AskFault.TheVariants as asks
use Rattle.bench_rules.specs.declared.chosen.Chosen.{Chosen}
use Rattle.bench_rules.specs.declared.chosen_edit.ChosenEdit.TheVariants as each
use Rattle.bench_rules.specs.declared.chosen_query.ChosenQuery.TheVariants as about
use Rattle.bench_rules.specs.declared.comparison.Comparison.{Comparison}
use Rattle.bench_rules.specs.declared.comparison.Comparison.TheVariants.{AtLeast, AtMost, Equal, Greater, Less, Unequal}
use Rattle.bench_rules.specs.declared.condition.Condition.{Condition}
use Rattle.bench_rules.specs.declared.edit.Edit.TheVariants.{OfChosen}
use Rattle.bench_rules.specs.declared.field.Field.TheVariants as field
use Rattle.bench_rules.specs.declared.operand.Operand.TheVariants as operand
use Rattle.bench_rules.specs.declared.query.Query.TheVariants as queries
use Rattle.bench_rules.specs.declared.refusal.Refusal.TheVariants as refusals
use Rattle.bench_rules.specs.declared.sample_fact.SampleFact.TheVariants as facts
use Rattle.bench_rules.specs.declared.side.Side.{Side}
use Rattle.bench_rules.specs.declared.side.Side.TheVariants as side
use Rattle.bench_rules.specs.declared.side_value.SideValue.TheVariants.{Whole, Rank, Decimal, Missing}
use Rattle.bench_rules.specs.Answer.{answer}
use Rattle.bench_rules.specs.Conditions.{chosen, test_of}
use Rattle.bench_rules.specs.Looks.{query_looks}
use Rattle.bench_rules.specs.Refused.{first_refusal}
use Rattle.bench_rules.specs.SampleFacts.{fact_by}
use Rattle.bench_rules.specs.SideValues.{compares}
use Rattle.bench_rules.specs.State.{State}

-- a side that is a name, or a number
abbrev name : List ℕ → Side
name word = side.Operand (operand.Field (field.Name word))

abbrev number : ℤ → Side
number x = side.Operand (operand.Number x)

abbrev when : Side → Comparison → Side → Condition
when a comparison b = record { left = a; comparison = comparison; right = b }

abbrev all_with : List Condition → Chosen
all_with conditions = record { traces = Some (1, 3); conditions = conditions }

-- three traces with the samples 1 and -2, 3 and 4, -5 and 6
abbrev loaded : State
loaded = record { volume = volume_plain; fields = geometry_at_load; reading = as_written; limits = wide_limits; on_disk = false }

-- ---- facts of whole numbers

pub least-below : chosen volume_plain geometry_at_load (all_with (when (name (codes "sample_least")) Less (number (pos 0)) ∷ [])) ≡ Some (1 ∷ 3 ∷ [])
unfolding named_place
least-below = refl

-- beside a field: the crosslines are 21 to 23
pub beside-field : chosen volume_plain geometry_at_load (all_with (when (name (codes "sample_greatest")) AtMost (name (codes "crossline")) ∷ when (name (codes "crossline")) Greater (number (pos 21)) ∷ [])) ≡ Some (2 ∷ 3 ∷ [])
unfolding named_place
beside-field = refl

-- beside another fact
pub beside-fact : chosen volume_plain geometry_at_load (all_with (when (name (codes "sample_least")) Greater (name (codes "sample_count")) ∷ [])) ≡ Some (2 ∷ [])
unfolding named_place
beside-fact = refl

-- no trace is looked at
pub fact-looks : query_looks loaded [] (queries.OfChosen (all_with (when (name (codes "sample_least")) Less (name (codes "crossline")) ∷ [])) about.Count) ≡ 0
unfolding named_place
fact-looks = refl

-- a name that is bound is that field: bytes 193-196, the crosslines
abbrev bound : Pairs
bound = (codes "sample_least", signed_at 193 4) ∷ geometry_at_load

pub name-bound : chosen volume_plain bound (all_with (when (name (codes "sample_least")) AtLeast (number (pos 22)) ∷ [])) ≡ Some (2 ∷ 3 ∷ [])
name-bound = refl

-- ---- refused

-- the same file whose samples have no values, and the facts of it
abbrev opaque : State
opaque = record loaded { volume = record volume_plain { head = record head_plain { format = Opaque IbmFloat32 } } }

-- a byte that no trace has
abbrev far : Condition
far = when (side.Operand (operand.Field (field.Place (signed_at 240 4)))) Unequal (number (pos 0))

-- a name of nothing comes before samples without values, and these before a place that is not there
pub refused-name : first_refusal opaque (OfChosen (all_with (when (name (codes "sample_least")) Less (name (codes "crosline")) ∷ [])) each.Delete) ≡ Some refusals.NoField
unfolding named_place
refused-name = refl

pub refused-values : first_refusal opaque (OfChosen (all_with (far ∷ when (number (pos 0)) Less (name (codes "sample_greatest")) ∷ [])) each.Delete) ≡ Some refusals.NoValues
unfolding named_place
refused-values = refl

pub answer-values : answer opaque (queries.OfChosen (all_with (far ∷ when (number (pos 0)) Less (name (codes "sample_greatest")) ∷ [])) about.Count) ≡ Err asks.NoValues
unfolding named_place
answer-values = refl

-- how many samples there are is known without their values: two, as the headers count them
pub count-opaque : answer opaque (queries.OfChosen (all_with (when (name (codes "sample_count")) Equal (number (pos 2)) ∷ [])) about.Count) ≡ Ok (answers.Chosen 3)
unfolding named_place
count-opaque = refl

-- ---- decimals

-- 0.1, just below the float nearest to it
abbrev tenth : Amount
tenth = record { rank = pos 0x3FB999999999999A; side = orders.Less }

-- beside the least sample, and beside nothing else: not where the name is bound
pub decimal-stands : option_map_or (λ test. true) (test_of geometry_at_load (when (side.Decimal tenth) Less (name (codes "sample_least")))) false ≡ true
unfolding named_place
decimal-stands = refl

pub decimal-bound : test_of bound (when (side.Decimal tenth) Less (name (codes "sample_least"))) ≡ None
decimal-bound = refl

pub decimal-count : test_of geometry_at_load (when (name (codes "sample_count")) Less (side.Decimal tenth)) ≡ None
unfolding named_place
decimal-count = refl

-- ---- floats

-- 2.5 and the float nearest to 0.1, which is above 0.1
pub float-whole : compares Greater (Rank (pos 0x4004000000000000)) (Whole (pos 2)) ≡ true
unfolding to_bits round
float-whole = refl

pub whole-float : compares Greater (Whole (pos 2)) (Rank (pos 0x4004000000000000)) ≡ false
unfolding to_bits round
whole-float = refl

pub float-decimal : compares Greater (Rank (pos 0x3FB999999999999A)) (Decimal tenth) ≡ true
float-decimal = refl

pub decimal-float : compares Equal (Decimal tenth) (Rank (pos 0x3FB999999999999A)) ≡ false
decimal-float = refl

-- 0 and -0 are the same
pub zero-whole : compares Equal (Rank (negsuc 0)) (Whole (pos 0)) ≡ true
unfolding to_bits round
zero-whole = refl

pub zero-float : compares Equal (Rank (negsuc 0)) (Rank (pos 0)) ≡ true
zero-float = refl

-- of -0, what is no number, and 2.5 the greatest is 2.5
pub greatest-number : fact_by true (amplitudes_of true (negsuc 0 ∷ no_number ∷ pos 0x4004000000000000 ∷ [])) 3 facts.Greatest ≡ Rank (pos 0x4004000000000000)
greatest-number = refl

-- a trace without a number, or without a sample, meets no condition on one, but has a number of samples
pub no-number : fact_by true (amplitudes_of true (no_number ∷ [])) 1 facts.Greatest ≡ Missing
no-number = refl

pub no-sample : fact_by false (amplitudes_of false []) 0 facts.Least ≡ Missing
no-sample = refl

pub missing-meets : compares Unequal Missing (Whole (pos 0)) ≡ false
missing-meets = refl

pub no-samples : fact_by true (amplitudes_of true []) 0 facts.Count ≡ Whole (pos 0)
no-samples = refl
