use Rattle.trace_seq.proofs.TogetherLemmas.{together}
use Rattle.trace_seq.proofs.laws.taken_out_together.Goals as goal

pub returns : goal.returns
returns c = λ ids positions rising. together ids positions rising
