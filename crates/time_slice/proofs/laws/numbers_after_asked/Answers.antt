use Rattle.time_slice.proofs.CacheLemmas.{numbers_after_asked}
use Rattle.time_slice.proofs.laws.numbers_after_asked.Goals as goal

pub returns : goal.returns
returns c = numbers_after_asked
