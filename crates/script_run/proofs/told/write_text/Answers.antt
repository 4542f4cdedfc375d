use Rattle.script_text.specs.Held.{printed_of}
use Rattle.line_texts.proofs.OutLemmas.{by_fault}
use Rattle.script_run.proofs.TellLemmas.{told_behind, told_at_last}
use Rattle.script_run.proofs.told.write_text.Goals as goal

pub returns-in_err-push : goal.returns-in_err-push
returns-in_err-push g c =
    by_fault c.from_residual-in_err-push.result c.in_err-push.field-0.0 _ _ c.from_residual-in_err-push.ensures.1
    (told_behind _ _ _ _ (printed_of c.args.reply.now).text c.args.behind.now (rw c.begin.ensures at c.in_ok-push_reply.ensures) c.in_err-push.field-0.0.written c.in_err-push.ensures)

pub returns-in_err-flush : goal.returns-in_err-flush
returns-in_err-flush g c =
    by_fault c.from_residual-in_err-flush.result c.in_err-flush.field-0.0 _ _ c.from_residual-in_err-flush.ensures.1
    (told_at_last _ _ _ _ (printed_of c.args.reply.now).text c.args.behind.now (rw c.begin.ensures at c.in_ok-push_reply.ensures) _ _ c.in_err-flush.field-0.0.written
    c.in_ok-push.ensures c.in_err-flush.ensures.pushed)
