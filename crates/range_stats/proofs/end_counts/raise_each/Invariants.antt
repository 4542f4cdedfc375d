use Rattle.std.proofs.Common.{◌≡◌, ◌≤◌, ◌++◌}
use Rattle.range_stats.specs.EndsCounted.{AreEndsCounted}
use Rattle.range_stats.proofs.SumLemmas.{AreOfFront}
use Rattle.range_stats.proofs.end_counts.raise_each.Given as goal

-- the ends of the records so far are counted, and their samples summed
abbrev pub invariant-loop-trace : goal.invariant-loop-trace
invariant-loop-trace l =
    (l.yielded ++ l.trace-iterator ≡ l.fn.records)
    × AreEndsCounted (λ a. a.least) l.least l.yielded
    × AreEndsCounted (λ a. a.greatest) l.greatest l.yielded
    × AreOfFront l.sums.number l.sums.sum l.trace-iterator l.fn.records
    × (l.initial.room ≤ l.room)
