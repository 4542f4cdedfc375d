use Rattle.std.proofs.Common.{refl}
use Rattle.script_run.specs.Sessions.{with_empty_line}
use Rattle.script_run.proofs.answering.answer.Goals as goal

pub returns-clause-line : goal.returns-clause-line
returns-clause-line g c = λ sure.
    let wrote = c.write_reply.ensures in
    let before = wrote.reads.agreed sure in
    let told = wrote.written sure (c.reply_to-reply.ensures.there before) in (
      with_empty_line told.0,
      λ text h first le lost. (told.0, rw (wrote.state, wrote.loaded) (c.reply_to-reply.ensures.step before told.0 c.write_reply.new.bench.reads wrote.reads.failures told.1 text h first le lost), refl),
      told.2,
    )
