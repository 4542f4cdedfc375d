use Rattle.declared_frame.proofs.PartLemmas.{declared_is_read}
use Rattle.declared_frame.proofs.laws.declared_is_read.Goals as goal

pub returns : goal.returns
returns c = declared_is_read
