use Rattle.std.proofs.Common.{◌≡◌, ◌≤◌, map, ℕ}
use Rattle.std.specs.Prelude.{take}
use Rattle.std.specs.Ordering.{nat_cmp}
use Rattle.key_counts.specs.Counts.{count_of}
use Rattle.key_counts.specs.Rising.{times_in}
use Rattle.grid_live.proofs.lists.count_folds.Given as goal

-- the folds of the cells so far are counted
abbrev pub invariant-loop-cell : goal.invariant-loop-cell
invariant-loop-cell l = (l.initial.room ≤ l.room) × ((q : ℕ) → count_of nat_cmp l.folds q ≡ times_in nat_cmp (map (λ c. c.fold) (take l.cell-index l.cells)) q)
