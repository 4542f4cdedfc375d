use Rattle.std.proofs.Common.{[], refl}
use Rattle.line_texts.proofs.OutLemmas.{ends}
use Rattle.line_texts.proofs.out_buffer.OutBuffer.push.Goals as goal

pub returns : goal.returns
returns g c =
    ends c.write.result _ _ _ _ _ _ c.args.text.now c.args.text.now (record { done = []; out = c.in_ok-flush.ensures.pushed; joined = refl }) c.write.ensures
