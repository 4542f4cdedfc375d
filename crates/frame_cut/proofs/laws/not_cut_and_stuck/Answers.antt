use Rattle.frame_cut.proofs.OneCutLemmas.{not_cut_and_stuck}
use Rattle.frame_cut.proofs.laws.not_cut_and_stuck.Goals as goal

pub returns : goal.returns
returns c = not_cut_and_stuck
