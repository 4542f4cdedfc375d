use Rattle.fault_live.proofs.OnceLemmas.{once_is_not_repeated}
use Rattle.fault_live.proofs.laws.once_is_not_repeated.Goals as goal

pub returns : goal.returns
returns c = once_is_not_repeated
