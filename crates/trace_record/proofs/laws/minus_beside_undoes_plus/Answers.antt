use Rattle.trace_record.proofs.TallyLemmas.{minus_beside-plus}
use Rattle.trace_record.proofs.laws.minus_beside_undoes_plus.Goals as goal

pub returns : goal.returns
returns c = minus_beside-plus
