use Rattle.grid_live.proofs.GridLemmas.{crosslines_are_shown}
use Rattle.grid_live.proofs.laws.crosslines_are_shown.Goals as goal

pub returns : goal.returns
returns c = crosslines_are_shown
