use Rattle.std.proofs.Common.{◌≡◌, ◌∙◌, List, ℕ, Err, ap, arith, inr, sym, subst}
use Rattle.frame_cut.specs.declared.load_fault.LoadFault.TheVariants.{OutOfMemory}
use Rattle.frame_cut.specs.Fronts.{BeginsWith}
use Rattle.frame_cut.specs.Heads.{head_of}
use Rattle.frame_cut.proofs.MemoryLemmas.{head_memory}
use Rattle.volume_loading.proofs.PassLemmas.{all_next, some_file}
use Rattle.volume_loading.proofs.pass_reads.read_head.Goals as goal

pub returns-in-Err-clause-refused : goal.returns-in-Err-clause-refused
returns-in-Err-clause-refused c =
    let next = c.hold.ensures.next 0 c.turns.invariant.next in
    let front : c.front-front.result.now ≡ c.hold.new.held.bytes = all_next c.hold.new.held.bytes c.hold.new.self.bytes c.front-front.result.now c.len.result next c.len.ensures c.front-front.ensures in
    inr (λ file begun. c.in-Err.ensures.told file (subst (λ (s : List ℕ). BeginsWith s c.args.size file) (sym front) begun))

pub returns-in-Err-clause-memory : goal.returns-in-Err-clause-memory
returns-in-Err-clause-memory c =
    let next = c.hold.ensures.next 0 c.turns.invariant.next in
    let front : c.front-front.result.now ≡ c.hold.new.held.bytes = all_next c.hold.new.held.bytes c.hold.new.self.bytes c.front-front.result.now c.len.result next c.len.ensures c.front-front.ensures in
    let file = some_file c.hold.new.held.bytes c.args.size c.hold.ensures.within in
    let told : head_of file.0 c.args.reading c.args.limits ≡ Err c.in-Err.fault = c.in-Err.ensures.told file.0 (subst (λ (s : List ℕ). BeginsWith s c.args.size file.0) (sym front) file.1) in
    record {
      never_falls = omega arith;
      rose = λ p.
          let memory : c.in-Err.fault ≡ OutOfMemory = cc in
          absurd (head_memory file.0 c.args.reading c.args.limits (told ∙ ap Err memory));
    }
