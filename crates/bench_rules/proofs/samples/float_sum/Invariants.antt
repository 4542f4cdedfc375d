use Rattle.std.proofs.Common.{◌≡◌, ◌≤◌, ◌+◌, ◌^◌, ◌++◌, true, length}
use Rattle.std.specs.Prelude.{All}
use Rattle.num_order.specs.Number.{is_between}
use Rattle.bench_rules.specs.FloatStatistics.{floats_of}
use Rattle.bench_rules.proofs.samples.float_sum.Given as goal

-- what was added and what is left are all of them
abbrev pub invariant-ranks : goal.invariant-ranks
invariant-ranks l = record {
  all : l.total ++ floats_of l.ranks ≡ floats_of l.initial.ranks;
  few : length l.total + length l.ranks ≤ 2 ^ 32;
  ranks : All (λ r. is_between true 8 r ≡ true) l.ranks;
}

abbrev pub decreases-ranks : goal.decreases-ranks
decreases-ranks l = length l.ranks
