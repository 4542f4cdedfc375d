use Rattle.std.proofs.Common.{◌≡◌, ◌-◌, ◌*◌, ◌∙◌, ap, Err, length, sym, arith, inl, inr}
use Rattle.frame_cut.specs.Walk.{traces_end}
use Rattle.frame_cut.specs.declared.load_fault.LoadFault.TheVariants.{OutOfMemory}
use Rattle.frame_cut.proofs.MemoryLemmas.{head_memory}
use Rattle.frame_cut.proofs.HeadFrontLemmas.{has_head}
use Rattle.frame_cut.proofs.LaidLemmas.{cut_from, laid_from, stopped}
use Rattle.frame_cut.proofs.cutting.cut.Goals as goal

pub walk-requires : goal.walk-requires
walk-requires c =
    let k = has_head c.args.bytes.now c.args.reading c.args.limits c.in-Ok.head (sym c.in-Ok.ensures) in
    omega (arith, k.whole, k.first)

pub returns-in-Err-clause-refused : goal.returns-in-Err-clause-refused
returns-in-Err-clause-refused c = inr (inl (sym c.in-Err.ensures))

pub overflow_sub-end : goal.overflow_sub-end
overflow_sub-end c =
    let k = has_head c.args.bytes.now c.args.reading c.args.limits c.in-Ok.head (sym c.in-Ok.ensures) in
    omega (arith, k.whole)

pub returns-in-Ok-walk-clause-ok : goal.returns-in-Ok-walk-clause-ok
returns-in-Ok-walk-clause-ok c =
    rw c.new.ensures
    (cut_from c.args.bytes.now c.args.reading c.args.limits c.in-Ok.head c.in-Ok-walk.extents.items _ c.in-Ok-walk.at (sym c.in-Ok.ensures) c.in-Ok-walk.ensures.ends (omega arith))

pub returns-in-Ok-walk-clause-laid : goal.returns-in-Ok-walk-clause-laid
returns-in-Ok-walk-clause-laid c =
    rw c.new.ensures
    (laid_from c.args.bytes.now c.args.reading c.args.limits c.in-Ok.head c.in-Ok-walk.extents.items _ c.in-Ok-walk.at (sym c.in-Ok.ensures) c.in-Ok-walk.ensures.ends (omega arith))

pub returns-in-Err-walk-clause-refused : goal.returns-in-Err-walk-clause-refused
returns-in-Err-walk-clause-refused c = stopped c.args.bytes.now c.args.reading c.args.limits c.in-Ok.head c.in-Err-walk.fault (sym c.in-Ok.ensures) c.in-Err-walk.ensures.stops

pub returns-in-Err-clause-memory : goal.returns-in-Err-clause-memory
returns-in-Err-clause-memory c = record {
  never_falls = omega arith;
  rose = λ p.
      let memory : c.in-Err.fault ≡ OutOfMemory = cc in
      absurd (head_memory c.args.bytes.now c.args.reading c.args.limits (sym c.in-Err.ensures ∙ ap Err memory));
}

pub returns-in-Err-walk-clause-memory : goal.returns-in-Err-walk-clause-memory
returns-in-Err-walk-clause-memory c = record {
  never_falls = c.in-Err-walk.ensures.memory.never_falls;
  rose = λ p.
      let memory : c.in-Err-walk.fault ≡ OutOfMemory = cc in
      c.in-Err-walk.ensures.memory.rose (ap Err memory);
}
