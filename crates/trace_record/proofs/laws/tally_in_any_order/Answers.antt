use Rattle.trace_record.proofs.TallyLemmas.{tally-IsPermutation}
use Rattle.trace_record.proofs.laws.tally_in_any_order.Goals as goal

pub returns : goal.returns
returns c = tally-IsPermutation
