use Rattle.std.proofs.Common.{◌≡◌, ◌*◌, ◌^◌}
use Rattle.exact_amounts.proofs.large_number.LargeNumber.multiply.Given as goal

abbrev pub invariant-loop-left : goal.invariant-loop-left
invariant-loop-left l = l.self * l.by ^ l.left ≡ l.fn.self * l.by ^ l.times

abbrev pub decreases-loop-left : goal.decreases-loop-left
decreases-loop-left l = l.left
