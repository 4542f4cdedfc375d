use Rattle.std.proofs.Common.{◌≡◌, ◌≤◌, map}
use Rattle.std.specs.Map.Iter.{deref_pair}
use Rattle.key_counts.proofs.counts.Counts.list.Given as goal

-- the items so far are those of the pairs so far
abbrev pub invariant-loop-key : goal.invariant-loop-key
invariant-loop-key g l = (map g.T.FromCount.count l.list.items ≡ map deref_pair l.yielded) × (l.initial.room ≤ l.room)
