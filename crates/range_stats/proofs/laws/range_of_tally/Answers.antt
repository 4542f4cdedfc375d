use Rattle.range_stats.proofs.TallyRangeLemmas.{range_of_tally}
use Rattle.range_stats.proofs.laws.range_of_tally.Goals as goal

pub returns : goal.returns
returns c = range_of_tally
