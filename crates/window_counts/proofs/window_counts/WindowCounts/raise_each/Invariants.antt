use Rattle.std.specs.Prelude.{◌≡◌, ◌≤◌, take}
use Rattle.key_counts.specs.Counts.{count_of}
use Rattle.key_counts.specs.Rising.{times_in}
use Rattle.window_counts.proofs.window_counts.WindowCounts.raise_each.Given as goal

abbrev pub invariant-loop-key : goal.invariant-loop-key
invariant-loop-key g l = (l.initial.room ≤ l.room) × ((q : g.row.K.Denot) → count_of g.K.Ord.cmp l.self q ≡ times_in g.K.Ord.cmp (take l.key-index l.keys) q)
