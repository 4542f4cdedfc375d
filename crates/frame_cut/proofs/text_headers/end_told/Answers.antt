use Rattle.std.proofs.Common.{sym}
use Rattle.frame_cut.proofs.FrontLemmas.{end_in_front}
use Rattle.frame_cut.proofs.text_headers.end_told.Goals as goal

pub returns-in-Some-clause-told : goal.returns-in-Some-clause-told
returns-in-Some-clause-told c = λ all begun. sym (end_in_front c.args.rest.now c.args.left all c.in-Some.blocks begun (sym c.in-Some.ensures.blocks))
