use Rattle.frame_cut.proofs.OneCutLemmas.{at_most_one_refusal}
use Rattle.frame_cut.proofs.laws.at_most_one_refusal.Goals as goal

pub returns : goal.returns
returns c = at_most_one_refusal
