use Rattle.trace_record.proofs.TallyLemmas.{plus-minus}
use Rattle.trace_record.proofs.laws.plus_undoes_minus.Goals as goal

pub returns : goal.returns
returns c = plus-minus
