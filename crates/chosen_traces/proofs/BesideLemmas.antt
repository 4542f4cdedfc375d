-- What is beside a trace is needed only where conditions ask for values of samples.
use Rattle.std.proofs.Common.{◌≡◌, ℕ, Bool, true, false, List, [], ◌∷◌, Option, Some, refl, sym, ap, ap₂}
use Rattle.std.specs.Prelude.{option_map, option_and_then}
use Rattle.std.specs.List.{list_all, list_any}
use Rattle.std.proofs.lemmas.Bool.{or_parts}
use Rattle.frame_cut.specs.declared.file_head.Head.{Head}
use Rattle.frame_cut.specs.Frames.{sample_count}
use Rattle.trace_view.specs.Values.{has_floats}
use Rattle.trace_record.specs.declared.amplitudes.Amplitudes.{Amplitudes}
use Rattle.trace_record.specs.declared.packed_record.PackedRecord.{PackedRecord}
use Rattle.bench_rules.specs.declared.sample_fact.SampleFact.{SampleFact}
use Rattle.bench_rules.specs.declared.sample_fact.SampleFact.TheVariants.{Least, Greatest, Count}
use Rattle.bench_rules.specs.declared.side_value.SideValue.{SideValue}
use Rattle.bench_rules.specs.declared.test.Test.{Test}
use Rattle.bench_rules.specs.declared.test_side.TestSide.{TestSide}
use Rattle.bench_rules.specs.declared.test_side.TestSide.TheVariants.{Term, Decimal, Fact}
use Rattle.bench_rules.specs.Conditions.{asks_values, meets_by, side_by, test_by}
use Rattle.bench_rules.specs.ManyTraces.{each_of}
use Rattle.bench_rules.specs.SampleFacts.{fact_by, is_extreme, is_value}
use Rattle.bench_rules.specs.SideValues.{compares}
use Rattle.chosen_traces.specs.RecordTests.{amplitudes_beside, amplitudes_if}

module _ (h : Head) (t : List ℕ) (a b : Option Amplitudes) where
  same-fact : (fact : SampleFact) → is_value fact ≡ false → fact_by (has_floats h) a (sample_count h t) fact ≡ fact_by (has_floats h) b (sample_count h t) fact
  same-fact Least e = absurd cc
  same-fact Greatest e = absurd cc
  same-fact Count e = refl

  same-side : (side : TestSide) → is_extreme side ≡ false → side_by h t a side ≡ side_by h t b side
  same-side (Term term) e = refl
  same-side (Decimal amount) e = refl
  same-side (Fact fact) e = ap (λ (x : SideValue). Some x) (same-fact fact e)

  same-test : (test : Test) → asks_values test ≡ false → test_by h t a test ≡ test_by h t b test
  same-test test e =
      let none = or_parts (is_extreme test.left) (is_extreme test.right) e in
      ap₂ (λ (l r : Option SideValue). option_and_then (λ x. option_map (λ y. compares test.comparison x y) r) l) (same-side test.left none.0) (same-side test.right none.1)

  same-each : (tests : List Test) → list_any asks_values tests ≡ false → each_of (test_by h t a) tests ≡ each_of (test_by h t b) tests
  same-each [] e = refl
  same-each (test ∷ tests) e =
      let none = or_parts (asks_values test) (list_any asks_values tests) e in
      ap₂ (λ (o : Option Bool) (os : Option (List Bool)). option_and_then (λ x. option_map (λ xs. x ∷ xs) os) o) (same-test test none.0) (same-each tests none.1)

  -- conditions that ask for none say the same, whatever the samples are
  same_whatever : (tests : List Test) → list_any asks_values tests ≡ false → meets_by h t a tests ≡ meets_by h t b tests
  same_whatever tests none = ap (λ (o : Option (List Bool)). option_map (λ bs. list_all (λ x. x) bs) o) (same-each tests none)

-- so what is fetched only where they ask for some says as much as what is always fetched
pub same_where_asked : (h : Head) (t : List ℕ) (asked : Bool) (payloads : List PackedRecord) (p : ℕ) (tests : List Test) → asked ≡ list_any asks_values tests
    → meets_by h t (amplitudes_if asked payloads p) tests ≡ meets_by h t (amplitudes_beside payloads p) tests
same_where_asked h t true payloads p tests is = refl
same_where_asked h t false payloads p tests is = same_whatever h t (amplitudes_if false payloads p) (amplitudes_beside payloads p) tests (sym is)
