use Rattle.grid_live.proofs.GridLemmas.{one_list_of_crosslines}
use Rattle.grid_live.proofs.laws.at_most_one_list_of_crosslines.Goals as goal

pub returns : goal.returns
returns c = one_list_of_crosslines
