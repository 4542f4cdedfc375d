use Rattle.std.proofs.Common.{◌≡◌, ◌≤◌, ◌++◌, map}
use Rattle.std.specs.Prelude.{filter_map}
use Rattle.range_stats.proofs.SumLemmas.{AreOfFront}
use Rattle.range_stats.proofs.key_lists.end_keys.Given as goal

-- the ends and the sums of the records so far
abbrev pub invariant-loop-trace : goal.invariant-loop-trace
invariant-loop-trace l =
    (l.yielded ++ l.trace-iterator ≡ l.fn.records)
    × (l.least.items ≡ map (λ a. a.least) (filter_map (λ r. r.amplitudes) l.yielded))
    × (l.greatest.items ≡ map (λ a. a.greatest) (filter_map (λ r. r.amplitudes) l.yielded))
    × AreOfFront l.sums.number l.sums.sum l.trace-iterator l.fn.records
    × (l.initial.room ≤ l.room)
