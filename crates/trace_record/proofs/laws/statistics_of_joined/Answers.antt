use Rattle.trace_record.proofs.StatisticsLemmas.{statistics_of_joined}
use Rattle.trace_record.proofs.laws.statistics_of_joined.Goals as goal

pub returns : goal.returns
returns c = statistics_of_joined
