use Rattle.time_slice.proofs.CacheLemmas.{numbers_after_forgotten}
use Rattle.time_slice.proofs.laws.numbers_after_forgotten.Goals as goal

pub returns : goal.returns
returns c = numbers_after_forgotten
