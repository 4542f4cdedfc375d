use Rattle.trace_record.proofs.TallyLemmas.{tally_of_one_less}
use Rattle.trace_record.proofs.laws.tally_of_one_less.Goals as goal

pub returns : goal.returns
returns c = tally_of_one_less
