use Rattle.grid_live.proofs.GridLemmas.{histogram-shown}
use Rattle.grid_live.proofs.lists.histogram_of_cells.Goals as goal

pub returns-clause-histogram : goal.returns-clause-histogram
returns-clause-histogram c = histogram-shown c.args.cells.now _ _ c.in_ok-folds.ensures.counts c.in_ok-list.ensures.shows
