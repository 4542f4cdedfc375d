use Rattle.trace_record.proofs.TallyLemmas.{plus_in_any_order}
use Rattle.trace_record.proofs.laws.plus_in_any_order.Goals as goal

pub returns : goal.returns
returns c = plus_in_any_order
