use Rattle.grid_live.proofs.GridLemmas.{histogram_is_shown}
use Rattle.grid_live.proofs.laws.histogram_is_shown.Goals as goal

pub returns : goal.returns
returns c = histogram_is_shown
