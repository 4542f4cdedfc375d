-- What is told of the traces that are chosen.
use Rattle.std.proofs.Common.{◌≡◌, ◌⊎◌, ℕ, ◌+◌, ◌<◌, ◌≤◌, Bool, true, false, not, List, length, Option, Some, None, inl, inr, refl, sym, ap, ap₂, subst, ◌∙◌, arith}
use Rattle.std.specs.Prelude.{Ok, Err, IfOk, IfErr, option_and_then, if◌then◌else◌}
use Rattle.field_map.specs.Pairs.{Pairs}
use Rattle.frame_cut.specs.Volume.{Volume}
use Rattle.bench_rules.specs.declared.ask_fault.AskFault.{AskFault}
use Rattle.bench_rules.specs.declared.ask_fault.AskFault.TheVariants.{NoField, NoPlace, NoValues, OutOfMemory}
use Rattle.bench_rules.specs.declared.chosen.Chosen.{Chosen}
use Rattle.bench_rules.specs.declared.chosen_query.ChosenQuery.{ChosenQuery}
use Rattle.bench_rules.specs.declared.chosen_query.ChosenQuery.TheVariants as about
use Rattle.bench_rules.specs.declared.query.Query.TheVariants.{OfChosen}
use Rattle.bench_rules.specs.declared.test.Test.{Test}
use Rattle.bench_rules.specs.Answer.{answer, IsReply, Reply}
use Rattle.bench_rules.specs.ChosenQueries.{answer_of_chosen, answer_of_each, answer_under, asks_for_fields, chosen_answer, of_range}
use Rattle.bench_rules.specs.Conditions.{chosen, chosen_among, lacks_values, range_of, tests_of}
use Rattle.bench_rules.specs.Looks.{asking_looks, choosing_looks, chosen_query_looks, looks_at_chosen, most_chosen, most_query_looks}
use Rattle.bench_rules.specs.RangeFaults.{or_fault}
use Rattle.bench_rules.specs.RangeRefusals.{range_refusal}
use Rattle.bench_rules.specs.ReadFaults.{IsReadFault}
use Rattle.bench_rules.specs.State.{State}
use Rattle.chosen_traces.specs.Choosing.{choosing_fault, fault_under, fault_without}

-- the looks of a query where these are chosen
pub looks_chosen : (v : Volume) (pairs : Pairs) (c : Chosen) (q : ChosenQuery) (ps : List ℕ) → chosen v pairs c ≡ Some ps → chosen_query_looks v pairs c q ≡ choosing_looks v pairs c + asking_looks q (length ps)
looks_chosen v pairs c q ps e = ap (λ o. choosing_looks v pairs c + looks_at_chosen (asking_looks q) o) e

-- more traces are no fewer looks
pub asking_more : (q : ChosenQuery) (n m : ℕ) → n ≤ m → asking_looks q n ≤ asking_looks q m
asking_more about.Count n m less = omega arith
asking_more (about.Table fields) n m less = less
asking_more (about.Find field low high) n m less = less
asking_more about.Extremes n m less = less
asking_more about.Stats n m less = less
asking_more (about.Samples range) n m less = omega arith

-- what is told where the traces of the range are there
abbrev after_range : Volume → Pairs → Chosen → ChosenQuery → Reply
after_range v pairs c q = if not (asks_for_fields pairs q) then Err NoField else answer_under v pairs c.traces q (tests_of pairs c.conditions)

module _ (v : Volume) (pairs : Pairs) (c : Chosen) (q : ChosenQuery) where
  -- a fault of the choice is the fault of the reply
  under-fault : (o : Option (List Test)) (fault : AskFault) → fault_under v c.traces o ≡ Some fault → answer_under v pairs c.traces q o ≡ Err fault
  under-fault None fault e = let is : NoField ≡ fault = cc in ap (λ f. Err f) is
  under-fault (Some tests) fault e = by (lacks_values v.head.format tests) (chosen_among v tests (range_of c.traces)) e
    where
      by : (lacks : Bool) (o : Option (List ℕ)) → (if lacks then Some NoValues else fault_without o) ≡ Some fault → (if lacks then Err NoValues else answer_of_chosen v pairs q o) ≡ Err fault
      by true o f = let is : NoValues ≡ fault = cc in ap (λ g. Err g) is
      by false None f = let is : NoPlace ≡ fault = cc in ap (λ g. Err g) is
      by false (Some ps) f = absurd cc

  -- and where traces are chosen, it is what is told of these
  abbrev among : List Test → Option (List ℕ)
  among tests = chosen_among v tests (range_of c.traces)

  under-chosen : (o : Option (List Test)) (ps : List ℕ) → option_and_then among (option_and_then (λ tests. if lacks_values v.head.format tests then None else Some tests) o) ≡ Some ps
      → answer_under v pairs c.traces q o ≡ answer_of_each v pairs q ps
  under-chosen None ps e = absurd cc
  under-chosen (Some tests) ps e = by (lacks_values v.head.format tests) e
    where
      by : (lacks : Bool) → option_and_then among (if lacks then None else Some tests) ≡ Some ps → (if lacks then Err NoValues else answer_of_chosen v pairs q (among tests)) ≡ answer_of_each v pairs q ps
      by true f = absurd cc
      by false f = ap (λ o. answer_of_chosen v pairs q o) f

  with-fields : asks_for_fields pairs q ≡ true → after_range v pairs c q ≡ answer_under v pairs c.traces q (tests_of pairs c.conditions)
  with-fields has = rw has refl

-- ---- replies

module _ (s : State) (v : Volume) (pairs : Pairs) (c : Chosen) (q : ChosenQuery) (o : Option AskFault)
    (same : s.volume ≡ v) (held : s.fields ≡ pairs) (told : (reply : Reply) → of_range v c.traces reply ≡ or_fault o reply) where
  answer-is : answer s (OfChosen c q) ≡ or_fault o (after_range v pairs c q)
  answer-is = ap₂ (λ u ps. chosen_answer u ps c q) same held ∙ told (after_range v pairs c q)

  in-range : o ≡ None → answer s (OfChosen c q) ≡ after_range v pairs c q
  in-range none = answer-is ∙ ap (λ p. or_fault p (after_range v pairs c q)) none

  wants : range_refusal v c.traces ≡ None → IsReply s (OfChosen c q) (Err OutOfMemory)
  wants free = inr (inl (refl, (tt, inr (subst (λ (u : Volume). range_refusal u c.traces ≡ None) (sym same) free))))

  fails : (on_disk : Bool) (fault : AskFault) → s.on_disk ≡ on_disk → 0 < most_query_looks v pairs c q → IsReadFault on_disk fault → IsReply s (OfChosen c q) (Err fault)
  fails on_disk fault disk some read =
      let looks : most_query_looks s.volume s.fields c q ≡ most_query_looks v pairs c q = ap₂ (λ u ps. most_query_looks u ps c q) same held in
      inr (inr (subst (λ (n : ℕ). 0 < n) (sym looks) some, subst (λ (d : Bool). IsReadFault d fault) (sym disk) read))

  module _ {P : Type 0} (on_disk : Bool) (disk : s.on_disk ≡ on_disk) (none : o ≡ None) (free : range_refusal v c.traces ≡ None) (has : asks_for_fields pairs q ≡ true) (sure : P) where
    -- no traces are chosen
    pub choice_told : (fault : AskFault) → (fault ≡ OutOfMemory) ⊎ (IsReadFault on_disk fault × (0 < choosing_looks v pairs c)) ⊎ (P → choosing_fault v pairs c ≡ Some fault) → IsReply s (OfChosen c q) (Err fault)
    choice_told fault (inl is) = subst (λ (f : AskFault). IsReply s (OfChosen c q) (Err f)) (sym is) (wants free)
    choice_told fault (inr (inl read)) = fails on_disk fault disk (omega (arith, read.1)) read.0
    choice_told fault (inr (inr is)) = inl (sym (in-range none ∙ with-fields v pairs c q has ∙ under-fault v pairs c q (tests_of pairs c.conditions) fault (is sure)))

    module _ (ps : List ℕ) (found : chosen v pairs c ≡ Some ps) (few : length ps ≤ most_chosen v pairs c) where
      answered : answer s (OfChosen c q) ≡ answer_of_each v pairs q ps
      answered = in-range none ∙ with-fields v pairs c q has ∙ under-chosen v pairs c q (tests_of pairs c.conditions) ps found

      -- what is told of those that are
      pub each_told : (r : Reply) → IfOk r (λ a. P → answer_of_each v pairs q ps ≡ Ok a)
          → IfErr r (λ fault. (fault ≡ OutOfMemory) ⊎ (IsReadFault on_disk fault × (0 < asking_looks q (length ps))) ⊎ (P → answer_of_each v pairs q ps ≡ Err fault)) → IsReply s (OfChosen c q) r
      each_told (Ok a) ok err = inl (sym (answered ∙ ok sure))
      each_told (Err fault) ok (inl is) = subst (λ (f : AskFault). IsReply s (OfChosen c q) (Err f)) (sym is) (wants free)
      each_told (Err fault) ok (inr (inl read)) = fails on_disk fault disk (let most = asking_more q (length ps) (most_chosen v pairs c) few in omega (arith, read.1, most)) read.0
      each_told (Err fault) ok (inr (inr is)) = inl (sym (answered ∙ is sure))

      -- the same, told of the volume as it is after the choice
      pub each_told_after : (w : Volume) (stays : Bool) → w ≡ v → stays ≡ on_disk → (r : Reply) → IfOk r (λ a. P → answer_of_each w pairs q ps ≡ Ok a)
          → IfErr r (λ fault. (fault ≡ OutOfMemory) ⊎ (IsReadFault stays fault × (0 < asking_looks q (length ps))) ⊎ (P → answer_of_each w pairs q ps ≡ Err fault)) → IsReply s (OfChosen c q) r
      each_told_after w stays is still r ok err =
          each_told r (subst (λ (u : Volume). IfOk r (λ a. P → answer_of_each u pairs q ps ≡ Ok a)) is ok)
          (subst (λ (d : Bool). IfErr r (λ fault. (fault ≡ OutOfMemory) ⊎ (IsReadFault d fault × (0 < asking_looks q (length ps))) ⊎ (P → answer_of_each v pairs q ps ≡ Err fault))) still
          (subst (λ (u : Volume). IfErr r (λ fault. (fault ≡ OutOfMemory) ⊎ (IsReadFault stays fault × (0 < asking_looks q (length ps))) ⊎ (P → answer_of_each u pairs q ps ≡ Err fault))) is err))
