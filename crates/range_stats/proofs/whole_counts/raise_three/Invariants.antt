use Rattle.std.proofs.Common.{◌≡◌, ◌≤◌, ◌++◌}
use Rattle.range_stats.specs.Whole.{AreCounted}
use Rattle.range_stats.specs.declared.whole_counts.WholeQuantity.TheVariants.{Inline, Crossline, Offset}
use Rattle.range_stats.proofs.whole_counts.raise_three.Given as goal

-- the records so far are counted
abbrev pub invariant-loop-trace : goal.invariant-loop-trace
invariant-loop-trace l =
    (l.yielded ++ l.trace-iterator ≡ l.fn.records)
    × AreCounted Inline l.inlines l.yielded
    × AreCounted Crossline l.crosslines l.yielded
    × AreCounted Offset l.offsets l.yielded
    × (l.initial.room ≤ l.room)
