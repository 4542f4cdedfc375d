-- Why no traces are chosen.
use Rattle.std.proofs.Common.{◌≡◌, ℕ, Bool, true, false, List, Option, Some, None, refl, sym, ap, ◌∙◌}
use Rattle.std.specs.Prelude.{option_and_then, if◌then◌else◌}
use Rattle.field_map.specs.Pairs.{Pairs}
use Rattle.frame_cut.specs.Volume.{Volume}
use Rattle.bench_rules.specs.declared.ask_fault.AskFault.{AskFault}
use Rattle.bench_rules.specs.declared.ask_fault.AskFault.TheVariants.{NoField, NoPlace, NoValues}
use Rattle.bench_rules.specs.declared.condition.Condition.{Condition}
use Rattle.bench_rules.specs.declared.test.Test.{Test}
use Rattle.bench_rules.specs.Conditions.{asked_tests, chosen_among, lacks_values, range_of, tests_of}
use Rattle.chosen_traces.specs.Choosing.{fault_under, fault_without}

module _ (v : Volume) (range : Option (ℕ × ℕ)) (pairs : Pairs) (conditions : List Condition) (tests : List Test) where
  -- a field of a condition has no place
  pub field_lacks : (fault : AskFault) → (fault ≡ NoField) × (tests_of pairs conditions ≡ None) → fault_under v range (tests_of pairs conditions) ≡ Some fault
  field_lacks fault e = rw (e.1, e.0) refl

  -- a condition asks for values that samples have not
  pub values_lack : (lacks : Bool) → lacks ≡ lacks_values v.head.format tests → lacks ≡ true → tests_of pairs conditions ≡ Some tests → fault_under v range (tests_of pairs conditions) ≡ Some NoValues
  values_lack lacks is so e = rw (e, sym is, so) refl

  -- or a trace lacks a place
  pub place_lacks : asked_tests v.head.format pairs conditions ≡ Some tests → chosen_among v tests (range_of range) ≡ None → fault_under v range (tests_of pairs conditions) ≡ Some NoPlace
  place_lacks e f = by (tests_of pairs conditions) e
    where
      asked : (ts : List Test) (lacks : Bool) → (let o : Option (List Test) = if lacks then None else Some ts in o) ≡ Some tests
          → (if lacks then Some NoValues else fault_without (chosen_among v ts (range_of range))) ≡ Some NoPlace
      asked ts true g = absurd cc
      asked ts false g =
          let same : ts ≡ tests = cc in
          ap (λ (us : List Test). fault_without (chosen_among v us (range_of range))) same ∙ ap (λ (o : Option (List ℕ)). fault_without o) f

      by : (o : Option (List Test)) → option_and_then (λ ts. if lacks_values v.head.format ts then None else Some ts) o ≡ Some tests → fault_under v range o ≡ Some NoPlace
      by None g = absurd cc
      by (Some ts) g = asked ts (lacks_values v.head.format ts) g
