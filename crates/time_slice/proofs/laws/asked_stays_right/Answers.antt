use Rattle.time_slice.proofs.CacheLemmas.{asked_stays_right}
use Rattle.time_slice.proofs.laws.asked_stays_right.Goals as goal

pub returns : goal.returns
returns c = asked_stays_right
