use Rattle.std.proofs.Common.{◌≡◌, take}
use Rattle.float_sum.proofs.tests.sum_of.Given as goal

abbrev pub invariant-loop-value : goal.invariant-loop-value
invariant-loop-value l = l.total ≡ take l.value-index l.values
