use Rattle.float_text.proofs.LimbLemmas.{no_carry}
use Rattle.exact_amounts.proofs.large_number.LargeNumber.multiply_add.Goals as goal

pub returns : goal.returns
returns c = rw (← c.self.view_is) (no_carry _ _ _ _ c.multiply_add.ensures (rw (← c.self.view_is) at c.requires))
