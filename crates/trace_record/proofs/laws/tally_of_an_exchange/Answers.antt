use Rattle.trace_record.proofs.TallyLemmas.{tally_of_an_exchange}
use Rattle.trace_record.proofs.laws.tally_of_an_exchange.Goals as goal

pub returns : goal.returns
returns c = tally_of_an_exchange
