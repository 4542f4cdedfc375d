use Rattle.range_stats.proofs.TotalsLemmas.{totals_of_tally}
use Rattle.range_stats.proofs.laws.totals_of_tally.Goals as goal

pub returns : goal.returns
returns c = totals_of_tally
