use Rattle.range_stats.proofs.RangeLemmas.{IsRange-range_of}
use Rattle.range_stats.proofs.laws.range_is_range.Goals as goal

pub returns : goal.returns
returns c = IsRange-range_of
