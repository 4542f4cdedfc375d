use Rattle.common_numbers.proofs.CommonestLemmas.{commonest_found}
use Rattle.common_numbers.proofs.laws.commonest_is_found.Goals as goal

pub returns : goal.returns
returns c = commonest_found
