use Rattle.range_stats.proofs.TallyRangeLemmas.{one_range_in}
use Rattle.range_stats.proofs.laws.at_most_one_range_in.Goals as goal

pub returns : goal.returns
returns c = one_range_in
