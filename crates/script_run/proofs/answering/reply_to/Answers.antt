use Rattle.std.proofs.Common.{inl, inr, arith}
use Rattle.script_run.specs.Causes.{failures}
use Rattle.script_run.proofs.CauseLemmas.{between_in}
use Rattle.script_run.proofs.SessionCauseLemmas.{word_in}
use Rattle.script_run.proofs.answering.reply_to.Goals as goal

pub returns-in-Text-2-clause-step : goal.returns-in-Text-2-clause-step
returns-in-Text-2-clause-step g c = λ sure printed reads behind prints text holds first before lost.
    let read = c.in-Text-2.ensures.read text holds in
    let line = c.reply_to_text.ensures.step sure printed reads behind prints in
    inr (read.0, rw c.if-not-has_end.false (inl (word_in _ _ (between_in (failures first c.args.bench.now.reads.failures) (failures c.reply_to_text.new.room reads.failures) (failures c.args.room.now c.args.bench.now.reads.failures) (failures c.reply_to_text.new.room reads.failures) before (omega arith) (omega arith) (omega arith)) _ _ _ _ _ (rw (c.strip_return.ensures, c.bytes.ensures, read.1) at line))))
