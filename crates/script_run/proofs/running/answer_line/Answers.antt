use Rattle.std.proofs.Common.{subst}
use Rattle.line_texts.specs.Devices.{device_of}
use Rattle.script_text.specs.Replies.{Printed}
use Rattle.script_run.specs.Telling.{IsWritten}
use Rattle.script_run.proofs.TellLemmas.{followed_by_none}
use Rattle.script_run.proofs.running.answer_line.Goals as goal

pub returns-clause-line : goal.returns-clause-line
returns-clause-line g c = λ sure.
    let wrote = c.write_reply-told.ensures in
    let before = wrote.reads.agreed sure in
    let told = wrote.written sure (c.run_line-reply.ensures.there before) in (
      told.0,
      rw wrote.state (c.run_line-reply.ensures.step before told.0 c.write_reply-told.new.bench.reads wrote.reads.failures told.1),
      subst (λ (p : Printed). IsWritten (device_of g.A.Write.contents c.args.answers.now) (device_of g.A.Write.contents c.write_reply-told.new.answers) p c.write_reply-told.result)
          (followed_by_none told.0) told.2,
    )
