use Rattle.trace_record.proofs.TallyLemmas.{tally_of_one_more}
use Rattle.trace_record.proofs.laws.tally_of_one_more.Goals as goal

pub returns : goal.returns
returns c = tally_of_one_more
