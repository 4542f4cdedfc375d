use Rattle.std.specs.Prelude.{◌≡◌, ◌≤◌, length, filter_map, take}
use Rattle.key_counts.specs.Rising.{times_in}
use Rattle.position_differences.specs.Differences.{difference_cmp}
use Rattle.position_differences.specs.declared.difference.Difference.{Difference}
use Rattle.survey_cells.specs.Lately.{held_in}
use Rattle.survey_cells.specs.Neighbours.{difference_beyond}
use Rattle.survey_cells.proofs.pairs.count_differences.Given as goal

-- the differences of the pairs so far are counted, and so are the pairs
abbrev pub invariant-loop-cell : goal.invariant-loop-cell
invariant-loop-cell l = record {
  pairs : l.pairs ≡ length (filter_map (difference_beyond l.cells l.apart) (take l.cell-index l.cells));
  counts : (q : Difference) → held_in l.lately l.counts q ≡ times_in difference_cmp (filter_map (difference_beyond l.cells l.apart) (take l.cell-index l.cells)) q;
  memory : l.initial.room ≤ l.room;
}
