-- Traces that are chosen by conditions on their numbers and samples. Traces are counted from 1.
use Rattle.std.specs.Prelude.{ℕ, ◌+◌, ◌≤◌, ◌&&◌, ◌||◌, Bool, true, false, not, is_none, List, [], ◌∷◌, map, filter, Option, Some, None, option_map, option_and_then, if◌then◌else◌}
use Rattle.std.specs.List.{list_all, list_any}
use Rattle.std.specs.Option.{option_or}
use Rattle.sample_codes.specs.declared.format.Format.{Format}
use Rattle.sample_codes.specs.Formats.{values as values_of}
use Rattle.field_map.specs.Pairs.{Pairs}
use Rattle.frame_cut.specs.declared.file_head.Head.{Head}
use Rattle.frame_cut.specs.Frames.{sample_count}
use Rattle.frame_cut.specs.Traces.{trace_at}
use Rattle.frame_cut.specs.Volume.{Volume}
use Rattle.trace_view.specs.Values.{has_floats}
use Rattle.trace_record.specs.declared.amplitudes.Amplitudes.{Amplitudes}
use Rattle.bench_rules.specs.declared.chosen.Chosen.{Chosen}
use Rattle.bench_rules.specs.declared.comparison.Comparison.{Comparison}
use Rattle.bench_rules.specs.declared.condition.Condition.{Condition}
use Rattle.bench_rules.specs.declared.side.Side.{Side}
use Rattle.bench_rules.specs.declared.side.Side.TheVariants as sides
use Rattle.bench_rules.specs.declared.side_value.SideValue.{SideValue}
use Rattle.bench_rules.specs.declared.side_value.SideValue.TheVariants as values
use Rattle.bench_rules.specs.declared.test.Test.{Test}
use Rattle.bench_rules.specs.declared.test_side.TestSide.{TestSide}
use Rattle.bench_rules.specs.declared.test_side.TestSide.TheVariants as test_sides
use Rattle.bench_rules.specs.Computed.{term_in, term_of}
use Rattle.bench_rules.specs.ManyTraces.{positions, each_of}
use Rattle.bench_rules.specs.SampleFacts.{amplitudes_at, fact_by, fact_of, is_decimal, is_extreme}
use Rattle.bench_rules.specs.SideValues.{compares}

-- ---- one condition

-- a side with its place: a field that has one, else the fact of that name
abbrev pub side_of : Pairs → Side → Option TestSide
side_of fields (sides.Operand operand) = option_or (option_map test_sides.Term (term_of fields operand)) (option_map test_sides.Fact (fact_of operand))
side_of fields (sides.Decimal amount) = Some (test_sides.Decimal amount)

-- a decimal stands beside the least or the greatest sample alone
abbrev pub are_comparable : TestSide → TestSide → Bool
are_comparable l r = (not (is_decimal l) || is_extreme r) && (not (is_decimal r) || is_extreme l)

-- the condition on these sides, if they can be compared
abbrev pub test_on : Comparison → TestSide → TestSide → Option Test
test_on comparison l r = if are_comparable l r then Some (record { left = l; comparison = comparison; right = r }) else None

-- a condition with the places of its fields, where each has one or names a fact, and the sides can be compared
abbrev pub test_of : Pairs → Condition → Option Test
test_of fields c = option_and_then (λ l. option_and_then (test_on c.comparison l) (side_of fields c.right)) (side_of fields c.left)

-- what a side says of a trace whose samples have these amplitudes; nothing where the trace lacks its place
abbrev pub side_by : Head → List ℕ → Option Amplitudes → TestSide → Option SideValue
side_by h t all (test_sides.Term term) = option_map values.Whole (term_in h t term)
side_by h t all (test_sides.Decimal amount) = Some (values.Decimal amount)
side_by h t all (test_sides.Fact fact) = Some (fact_by (has_floats h) all (sample_count h t) fact)

-- whether such a trace meets a condition; nothing where it lacks a place of it
abbrev pub test_by : Head → List ℕ → Option Amplitudes → Test → Option Bool
test_by h t all test =
    option_and_then (λ x. option_map (λ y. compares test.comparison x y) (side_by h t all test.right)) (side_by h t all test.left)

-- whether a trace meets it
abbrev pub test_in : Head → List ℕ → Test → Option Bool
test_in h t test = test_by h t (amplitudes_at h t) test

-- ---- all conditions

-- the conditions with the places of their fields, where each field has one or names a fact, and the sides of each condition can be compared
abbrev pub tests_of : Pairs → List Condition → Option (List Test)
tests_of fields conditions = each_of (test_of fields) conditions

-- a condition on the least or the greatest sample
abbrev pub asks_values : Test → Bool
asks_values test = is_extreme test.left || is_extreme test.right

-- a condition asks for values of samples, and those of the format have none
abbrev pub lacks_values : Format → List Test → Bool
lacks_values format tests = list_any asks_values tests && is_none (values_of format)

-- the same where samples have the values that they ask for, too
abbrev pub asked_tests : Format → Pairs → List Condition → Option (List Test)
asked_tests format fields conditions = option_and_then (λ tests. if lacks_values format tests then None else Some tests) (tests_of fields conditions)

-- whether a trace whose samples have these amplitudes meets all of them; nothing where the trace lacks a place of one
abbrev pub meets_by : Head → List ℕ → Option Amplitudes → List Test → Option Bool
meets_by h t all tests = option_map (λ bs. list_all (λ b. b) bs) (each_of (test_by h t all) tests)

-- whether a trace meets all of them
abbrev pub meets : Head → List ℕ → List Test → Option Bool
meets h t tests = meets_by h t (amplitudes_at h t) tests

-- ---- the traces

-- each of these traces with whether it meets all conditions; nothing where one of them lacks a place
abbrev pub judged : Volume → List Test → List ℕ → Option (List (ℕ × Bool))
judged v tests ps = each_of (λ p. option_map (λ b. (p, b)) (meets v.head (trace_at v p) tests)) ps

-- those that meet all conditions, in order
abbrev pub chosen_among : Volume → List Test → List ℕ → Option (List ℕ)
chosen_among v tests ps = option_map (λ js. map (λ j. j.0) (filter (λ j. j.1) js)) (judged v tests ps)

-- the traces of a range; none where there is no range
abbrev pub range_of : Option (ℕ × ℕ) → List ℕ
range_of None = []
range_of (Some r) = positions r.0 r.1

-- the traces that are chosen; nothing where a condition has no place or cannot be compared, samples have no values that are asked for, or
-- a trace of the range lacks a place
abbrev pub chosen : Volume → Pairs → Chosen → Option (List ℕ)
chosen v fields c = option_and_then (λ tests. chosen_among v tests (range_of c.traces)) (asked_tests v.head.format fields c.conditions)

-- the positions rise, from position k on, and none is above n
abbrev pub AreRising : (k n : ℕ) → List ℕ → Type 0
AreRising k n [] = Unit {0}
AreRising k n (p ∷ ps) = (k ≤ p) × (p ≤ n) × AreRising (p + 1) n ps

-- there is no condition
abbrev pub is_empty : {X : Type 0} → List X → Bool
is_empty [] = true
is_empty (x ∷ xs) = false
