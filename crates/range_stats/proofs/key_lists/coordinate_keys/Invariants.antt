use Rattle.std.proofs.Common.{◌≡◌, ◌≤◌, ◌++◌, map}
use Rattle.key_counts.specs.Packed.{ratio_in}
use Rattle.range_stats.proofs.key_lists.coordinate_keys.Given as goal

-- the coordinates of the records so far
abbrev pub invariant-loop-trace : goal.invariant-loop-trace
invariant-loop-trace l =
    (l.yielded ++ l.trace-iterator ≡ l.fn.records)
    × (map ratio_in l.x.items ≡ map (λ r. r.x) l.yielded)
    × (map ratio_in l.y.items ≡ map (λ r. r.y) l.yielded)
    × (l.initial.room ≤ l.room)
