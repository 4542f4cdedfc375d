use Rattle.std.proofs.Common.{◌≡◌}
use Rattle.bench_rules.specs.Sorted.{are_in_front}
use Rattle.bench_rules.proofs.RowOrderLemmas.{front_from}
use Rattle.many_traces.proofs.sorting.compare.Given as goal

-- what is left tells
abbrev pub invariant-loop-k : goal.invariant-loop-k
invariant-loop-k l = are_in_front l.falling l.numbers l.others ≡ front_from l.k l.falling l.numbers l.others
