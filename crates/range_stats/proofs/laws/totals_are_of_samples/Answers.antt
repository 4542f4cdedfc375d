use Rattle.range_stats.proofs.TotalsLemmas.{totals_are_of_samples}
use Rattle.range_stats.proofs.laws.totals_are_of_samples.Goals as goal

pub returns : goal.returns
returns c = totals_are_of_samples
