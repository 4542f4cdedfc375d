use Rattle.std.proofs.Common.{◌≡◌, ◌+◌, ◌≤◌}
use Rattle.float_text.specs.Limbs.{value_below}
use Rattle.exact_amounts.proofs.large_number.compare_limbs.Given as goal

-- the limbs above are the same
abbrev pub invariant-loop-at : goal.invariant-loop-at
invariant-loop-at l = (l.at ≤ 72) × (value_below l.left 72 + value_below l.right l.at ≡ value_below l.right 72 + value_below l.left l.at)

abbrev pub decreases-loop-at : goal.decreases-loop-at
decreases-loop-at l = l.at
