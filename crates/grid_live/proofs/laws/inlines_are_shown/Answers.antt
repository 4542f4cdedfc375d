use Rattle.grid_live.proofs.GridLemmas.{inlines_are_shown}
use Rattle.grid_live.proofs.laws.inlines_are_shown.Goals as goal

pub returns : goal.returns
returns c = inlines_are_shown
