use Rattle.std.proofs.Common.{◌≡◌, ◌+◌, drop}
use Rattle.key_counts.specs.Runs.{runs_after}
use Rattle.key_counts.proofs.runs.equal_in_front.Given as goal

abbrev pub invariant-loop-other : goal.invariant-loop-other
invariant-loop-other g l = (l.count ≡ l.other-index) × (runs_after g.K.Ord.cmp l.key 1 l.keys ≡ runs_after g.K.Ord.cmp l.key (l.count + 1) (drop l.count l.keys))
