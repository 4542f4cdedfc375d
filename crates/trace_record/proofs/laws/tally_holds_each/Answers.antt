use Rattle.trace_record.proofs.TallyLemmas.{tally_holds_each}
use Rattle.trace_record.proofs.laws.tally_holds_each.Goals as goal

pub returns : goal.returns
returns c = tally_holds_each
