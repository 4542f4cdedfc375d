use Rattle.declared_frame.proofs.StaysLemmas.{stays_cut}
use Rattle.declared_frame.proofs.laws.declared_stays_cut.Goals as goal

pub returns : goal.returns
returns c = stays_cut
