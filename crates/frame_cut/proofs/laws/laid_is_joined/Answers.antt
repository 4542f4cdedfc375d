use Rattle.frame_cut.proofs.LaidLemmas.{joined-laid}
use Rattle.frame_cut.proofs.laws.laid_is_joined.Goals as goal

pub returns : goal.returns
returns c = joined-laid
