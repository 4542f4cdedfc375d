use Rattle.frame_cut.proofs.EditLemmas.{cut_with_splice}
use Rattle.frame_cut.proofs.laws.splice_stays_cut.Goals as goal

pub returns : goal.returns
returns c = cut_with_splice
