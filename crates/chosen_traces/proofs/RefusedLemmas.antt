-- What reads tell where a query about chosen traces is refused: its rules refuse it whatever they gave.
use Rattle.std.proofs.Common.{◌≡◌, ◌⊎◌, ℕ, Bool, true, false, List, Option, Some, None, inl, inr, sym, subst}
use Rattle.std.specs.Prelude.{Err, IfErr, if◌then◌else◌}
use Rattle.frame_cut.specs.Volume.{Volume}
use Rattle.edit_overlay.specs.Reads.{Reads, Follow}
use Rattle.bench_rules.specs.declared.ask_fault.AskFault.{AskFault}
use Rattle.bench_rules.specs.declared.ask_fault.AskFault.TheVariants.{NoField, NoPlace, NoValues, OutOfMemory}
use Rattle.bench_rules.specs.declared.test.Test.{Test}
use Rattle.bench_rules.specs.Answer.{Reply}
use Rattle.bench_rules.specs.ChosenQueries.{of_range}
use Rattle.bench_rules.specs.Conditions.{chosen_among, lacks_values, range_of}
use Rattle.bench_rules.specs.ReadFaults.{IsFaultOfReads}
use Rattle.bench_rules.proofs.LookLemmas.{if_err}
use Rattle.bench_rules.proofs.ReadTellLemmas.{ask_before, range_tells}
use Rattle.chosen_traces.specs.Choosing.{fault_under, fault_without}

module _ (old new : Reads) where
  -- for the range of the traces
  pub range_of_tells : (v : Volume) (range : Option (ℕ × ℕ)) (fault : AskFault) → ((reply : Reply) → of_range v range reply ≡ Err fault) → IsFaultOfReads old new fault
  range_of_tells v None fault told =
      let told_it : of_range v None (Err NoField) ≡ Err fault = told (Err NoField) in
      let same : NoField ≡ fault = cc in
      subst (λ (f : AskFault). IsFaultOfReads old new f) same tt
  range_of_tells v (Some r) fault told = range_tells v r.0 r.1 fault old new told

  -- for the conditions
  under_tells : (v : Volume) (range : Option (ℕ × ℕ)) (o : Option (List Test)) (fault : AskFault) → fault_under v range o ≡ Some fault → IsFaultOfReads old new fault
  under_tells v range None fault e = let same : NoField ≡ fault = cc in subst (λ (f : AskFault). IsFaultOfReads old new f) same tt
  under_tells v range (Some tests) fault e = by (lacks_values v.head.format tests) (chosen_among v tests (range_of range)) e
    where
      by : (lacks : Bool) (o : Option (List ℕ)) → (if lacks then Some NoValues else fault_without o) ≡ Some fault → IsFaultOfReads old new fault
      by true o f = let same : NoValues ≡ fault = cc in subst (λ (g : AskFault). IsFaultOfReads old new g) same tt
      by false None f = let same : NoPlace ≡ fault = cc in subst (λ (g : AskFault). IsFaultOfReads old new g) same tt
      by false (Some ps) f = absurd cc

  -- the same, or for want of memory
  pub conditions_tell : (v : Volume) (o : Option (List Test)) (fault : AskFault) → (fault ≡ OutOfMemory) ⊎ ((range : Option (ℕ × ℕ)) → fault_under v range o ≡ Some fault) → IsFaultOfReads old new fault
  conditions_tell v o fault (inl is) = subst (λ (f : AskFault). IsFaultOfReads old new f) (sym is) tt
  conditions_tell v o fault (inr told) = under_tells v None o fault (told None)

-- what the reads after others tell, all of them tell
pub reply_before : (old mid new : Reads) (r : Reply) → Follow old mid → IfErr r (IsFaultOfReads mid new) → IfErr r (IsFaultOfReads old new)
reply_before old mid new r on told = if_err r (λ fault. ask_before old mid new fault on) told
