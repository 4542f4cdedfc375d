use Rattle.std.proofs.Common.{◌++◌}
use Rattle.line_texts.proofs.OutLemmas.{begun, goes_on, breaks_on, ends, by_fault}
use Rattle.script_text.proofs.long_texts.push_between.Goals as goal

pub returns-in_err-push-2 : goal.returns-in_err-push-2
returns-in_err-push-2 g c =
    let a = c.args in
    by_fault c.from_residual-in_err-push-2.result c.in_err-push-2.field-0.0 _ _ c.from_residual-in_err-push-2.ensures.1
    (breaks_on _ _ _ _ _ a.text.now a.behind.now (a.before.now ++ (a.text.now ++ a.behind.now)) c.in_err-push-2.field-0.0.written
    (begun _ _ _ _ a.before.now (a.text.now ++ a.behind.now) c.in_ok-push.ensures) c.in_err-push-2.ensures)

pub returns : goal.returns
returns g c =
    let a = c.args in
    ends c.push-3.result _ _ _ _ _ _ a.behind.now (a.before.now ++ (a.text.now ++ a.behind.now))
    (goes_on _ _ _ _ _ _ a.text.now a.behind.now (a.before.now ++ (a.text.now ++ a.behind.now))
    (begun _ _ _ _ a.before.now (a.text.now ++ a.behind.now) c.in_ok-push.ensures) c.in_ok-push-2.ensures) c.push-3.ensures
