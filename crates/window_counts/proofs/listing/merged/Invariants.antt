use Rattle.std.proofs.Common.{length, ◌≡◌, ◌++◌, ◌+◌, ◌-◌, ◌≤◌, map, drop}
use Rattle.window_counts.specs.Window.{merge}
use Rattle.window_counts.proofs.listing.merged.Given as goal

-- the entries so far, and those that are left merged, are all merged
abbrev pub invariant-loop-i : goal.invariant-loop-i
invariant-loop-i g l = record {
  memory : l.initial.room ≤ l.room;
  some : l.i ≤ length l.some;
  others : l.j ≤ length l.others;
  entries : map g.T.FromCount.count l.list.items ++ merge g.K.Ord.cmp (drop l.i l.some) (drop l.j l.others) ≡ merge g.K.Ord.cmp l.some l.others;
}

abbrev pub decreases-loop-i : goal.decreases-loop-i
decreases-loop-i g l = (length l.some + length l.others) - (l.i + l.j)
