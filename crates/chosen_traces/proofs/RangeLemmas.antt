-- No fault of a range of traces tells that memory ran out, where there is a range.
use Rattle.std.proofs.Common.{◌≡◌, ◌∙◌, ℕ, Option, Some, None, arith}
use Rattle.std.specs.Prelude.{Err, IsErrOf}
use Rattle.room.specs.Refusals.{Rises}
use Rattle.frame_cut.specs.Volume.{Volume}
use Rattle.bench_rules.specs.declared.ask_fault.AskFault.{AskFault}
use Rattle.bench_rules.specs.declared.ask_fault.AskFault.TheVariants.{NoField, OutOfMemory}
use Rattle.bench_rules.specs.Answer.{Reply}
use Rattle.bench_rules.specs.ChosenQueries.{of_range}
use Rattle.bench_rules.proofs.RangeMemoryLemmas.{range_memory}

other_fault : (v : Volume) (range : Option (ℕ × ℕ)) (fault : AskFault) → ((reply : Reply) → of_range v range reply ≡ Err fault) → fault ≡ OutOfMemory → ⊥
other_fault v None fault told memory =
    let told_it : of_range v None (Err NoField) ≡ Err fault = told (Err NoField) in
    let same : NoField ≡ fault = cc in
    let bad : NoField ≡ OutOfMemory = same ∙ memory in
    cc
other_fault v (Some r) fault told memory = range_memory v r.0 r.1 fault told memory

-- so where a query is told the fault of its range, the count need not rise
pub range_rises : {T : Type 0} (v : Volume) (range : Option (ℕ × ℕ)) (fault : AskFault) (room : ℕ) → ((reply : Reply) → of_range v range reply ≡ Err fault)
    → Rises (IsErrOf {T = T} (Err fault) OutOfMemory) room room
range_rises v range fault room told = record {
  never_falls = omega arith;
  rose = λ e.
      let memory : fault ≡ OutOfMemory = cc in
      absurd (other_fault v range fault told memory);
}
