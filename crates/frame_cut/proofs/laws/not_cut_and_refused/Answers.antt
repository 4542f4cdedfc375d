use Rattle.frame_cut.proofs.OneCutLemmas.{not_cut_and_refused}
use Rattle.frame_cut.proofs.laws.not_cut_and_refused.Goals as goal

pub returns : goal.returns
returns c = not_cut_and_refused
