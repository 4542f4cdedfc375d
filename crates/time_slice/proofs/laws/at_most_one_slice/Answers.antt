use Rattle.time_slice.proofs.SliceLemmas.{one_slice}
use Rattle.time_slice.proofs.laws.at_most_one_slice.Goals as goal

pub returns : goal.returns
returns c = one_slice
