use Rattle.grid_live.proofs.GridLemmas.{one_histogram}
use Rattle.grid_live.proofs.laws.at_most_one_histogram.Goals as goal

pub returns : goal.returns
returns c = one_histogram
