use Rattle.std.proofs.Common.{◌≡◌, ◌≤◌, ◌++◌}
use Rattle.range_stats.specs.Whole.{AreCounted}
use Rattle.range_stats.proofs.whole_counts.raise_each.Given as goal

-- the records so far are counted
abbrev pub invariant-loop-trace : goal.invariant-loop-trace
invariant-loop-trace l = (l.yielded ++ l.trace-iterator ≡ l.fn.records) × AreCounted l.which l.counts l.yielded × (l.initial.room ≤ l.room)
