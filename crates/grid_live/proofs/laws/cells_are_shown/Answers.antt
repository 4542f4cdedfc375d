use Rattle.grid_live.proofs.GridLemmas.{cells_are_shown}
use Rattle.grid_live.proofs.laws.cells_are_shown.Goals as goal

pub returns : goal.returns
returns c = cells_are_shown
