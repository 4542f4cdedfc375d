use Rattle.time_slice.proofs.CacheLemmas.{forgotten_stays_right}
use Rattle.time_slice.proofs.laws.forgotten_stays_right.Goals as goal

pub returns : goal.returns
returns c = forgotten_stays_right
