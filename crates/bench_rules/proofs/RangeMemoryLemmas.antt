-- No fault of a range of traces tells that memory ran out.
use Rattle.std.proofs.Common.{◌≡◌, ◌∙◌, ℕ, Bool, true, false, not, ap, arith}
use Rattle.std.specs.Prelude.{◌&&◌, nat_le, Err, IsErrOf, if◌then◌else◌}
use Rattle.room.specs.Refusals.{Rises}
use Rattle.frame_cut.specs.Traces.{count_of, is_trace}
use Rattle.frame_cut.specs.Volume.{Volume}
use Rattle.bench_rules.specs.declared.ask_fault.AskFault.{AskFault}
use Rattle.bench_rules.specs.declared.ask_fault.AskFault.TheVariants.{NoField, NoTrace, OutOfMemory}
use Rattle.bench_rules.specs.Answer.{of_traces, Reply}

-- a reply where two checks let it pass
abbrev checked : Bool → Bool → AskFault → AskFault → Reply → Reply
checked first second fault other reply = if first then Err fault else if second then reply else Err other

others_fault : (first second : Bool) (a b n : ℕ) → checked first second (NoTrace a n) (NoTrace b n) (Err NoField) ≡ Err OutOfMemory → ⊥
others_fault true second a b n e = cc
others_fault false true a b n e = cc
others_fault false false a b n e = cc

pub range_memory : (v : Volume) (a b : ℕ) (fault : AskFault) → ((reply : Reply) → of_traces v a b reply ≡ Err fault) → fault ≡ OutOfMemory → ⊥
range_memory v a b fault told memory =
    others_fault (not (is_trace v a)) (nat_le a b && nat_le b (count_of v)) a b (count_of v)
    (told (Err NoField) ∙ ap (λ (f : AskFault). let r : Reply = Err f in r) memory)

-- so where a query is told the fault of its range, the count need not rise
pub range_rises : {T : Type 0} (v : Volume) (a b : ℕ) (fault : AskFault) (room : ℕ) → ((reply : Reply) → of_traces v a b reply ≡ Err fault)
    → Rises (IsErrOf {T = T} (Err fault) OutOfMemory) room room
range_rises v a b fault room told = record {
  never_falls = omega arith;
  rose = λ e.
      let memory : fault ≡ OutOfMemory = cc in
      absurd (range_memory v a b fault told memory);
}
