use Rattle.std.proofs.Common.{◌≡◌, ℕ, ◌+◌, ◌*◌, ◌≤◌, get_or}
use Rattle.float_text.specs.Limbs.{limb_weight, value_below}
use Rattle.exact_amounts.proofs.large_number.multiply_add.Given as goal

-- the limbs below are multiplied, and those above are as they were
abbrev pub invariant-loop-at : goal.invariant-loop-at
invariant-loop-at l =
    (value_below l.limbs l.at + l.carry * limb_weight l.at ≡ value_below l.fn.limbs l.at * l.by + l.add) × ((k : ℕ) → l.at ≤ k → get_or l.limbs k 0 ≡ get_or l.fn.limbs k 0)
