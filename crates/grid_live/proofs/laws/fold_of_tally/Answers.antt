use Rattle.grid_live.proofs.GridLemmas.{fold_of_tally}
use Rattle.grid_live.proofs.laws.fold_of_tally.Goals as goal

pub returns : goal.returns
returns c = fold_of_tally
