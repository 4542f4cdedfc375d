use Rattle.std.proofs.Common.{sym, subst}
use Rattle.std.proofs.lemmas.Result.{err_from_is_err_and}
use Rattle.trace_record.specs.declared.packed_record.PackedRecord.{PackedRecord}
use Rattle.edit_overlay.specs.CountedVolume.{CountedVolume}
use Rattle.edit_overlay.specs.Reads.{Follow}
use Rattle.bench_rules.specs.ReadFaults.{ask_fault_of}
use Rattle.bench_rules.proofs.ReadTellLemmas.{ask_before, ask_tells}
use Rattle.problem_answers.proofs.delays.delays.Goals as goal

pub returns-in_err-delay-clause-reads_tell : goal.returns-in_err-delay-clause-reads_tell
returns-in_err-delay-clause-reads_tell c =
    let old = c.args.overlay.now.reads in
    let mid = c.read_ahead.new.self.reads in
    let new = c.delay.new.overlay.reads in
    let read = c.in_err-delay.field-0.0 in
    let on = subst (λ (o : CountedVolume PackedRecord). Follow old o.reads) (sym c.read_ahead.ensures) c.loop-k.invariant.seen.reads in
    let handed_on = err_from_is_err_and c.from_residual-in_err-delay.result c.from_residual-in_err-delay.ensures.1 in
    rw (handed_on.1, handed_on.2) (ask_before old mid new (ask_fault_of read) on (ask_tells mid new read c.in_err-delay.ensures.reads_tell))
