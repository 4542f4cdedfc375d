use Rattle.declared_frame.proofs.OtherLemmas.{undeclared_is_other}
use Rattle.declared_frame.proofs.laws.undeclared_is_other.Goals as goal

pub returns : goal.returns
returns c = undeclared_is_other
