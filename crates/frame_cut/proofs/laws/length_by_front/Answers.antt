use Rattle.frame_cut.proofs.EditLemmas.{trace_length-front}
use Rattle.frame_cut.proofs.laws.length_by_front.Goals as goal

pub returns : goal.returns
returns c = trace_length-front
