use Rattle.frame_cut.proofs.LaidLemmas.{cut_or_refused}
use Rattle.frame_cut.proofs.laws.cut_or_refused.Goals as goal

pub returns : goal.returns
returns c = cut_or_refused
