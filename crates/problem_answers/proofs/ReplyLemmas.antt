-- What is told where the problems are asked for.
use Rattle.std.specs.Prelude.{◌≡◌, ◌⊎◌, ◌<◌, Err, refl}
use Rattle.std.proofs.Common.{ap, inl, inr}
use Rattle.frame_cut.specs.Traces.{count_of}
use Rattle.bench_rules.specs.declared.ask_fault.AskFault.{AskFault}
use Rattle.bench_rules.specs.declared.ask_fault.AskFault.TheVariants.{OutOfMemory}
use Rattle.bench_rules.specs.declared.query.Query.TheVariants.{Problems}
use Rattle.bench_rules.specs.Answer.{IsReply, Reply}
use Rattle.bench_rules.specs.ReadFaults.{IsReadFault}
use Rattle.bench_rules.specs.State.{State}

-- want of memory is a reply
pub wants_memory : (s : State) (fault : AskFault) → fault ≡ OutOfMemory → IsReply s Problems (Err fault)
wants_memory s fault is = inr (inl (ap (λ (f : AskFault). let r : Reply = Err f in r) is, (record {}, inl refl)))

-- so is a read that failed, where there is a trace
pub fails_to_read : (s : State) (fault : AskFault) → IsReadFault s.on_disk fault → 0 < count_of s.volume → IsReply s Problems (Err fault)
fails_to_read s fault is some = inr (inr (some, is))

pub told : (s : State) (fault : AskFault) → ((fault ≡ OutOfMemory) ⊎ (IsReadFault s.on_disk fault × (0 < count_of s.volume))) → IsReply s Problems (Err fault)
told s fault (inl is) = wants_memory s fault is
told s fault (inr is) = fails_to_read s fault is.0 is.1
