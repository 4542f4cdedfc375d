use Rattle.range_stats.proofs.RangeLemmas.{at_most_one_range}
use Rattle.range_stats.proofs.laws.at_most_one_range.Goals as goal

pub returns : goal.returns
returns c = at_most_one_range
