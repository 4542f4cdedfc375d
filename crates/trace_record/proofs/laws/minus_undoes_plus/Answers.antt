use Rattle.trace_record.proofs.TallyLemmas.{minus-plus}
use Rattle.trace_record.proofs.laws.minus_undoes_plus.Goals as goal

pub returns : goal.returns
returns c = minus-plus
