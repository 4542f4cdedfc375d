use Rattle.std.proofs.Common.{ℕ, ◌<◌, ◌≤◌, ◌+◌, ◌^◌, drop, length}
use Rattle.float_sum.specs.Worth.{worth}
use Rattle.float_sum.specs.Sums.{HasLeading}
use Rattle.float_sum.proofs.digits.leading_of.Given as goal

abbrev pub invariant-loop-i : goal.invariant-loop-i
invariant-loop-i l =
    ((r : ℕ) × HasLeading (worth (drop l.i l.words)) l.top l.dropped l.rest r)
    × (l.top < 2 ^ 96)
    × (l.dropped + l.i ≤ length l.words)

abbrev pub decreases-loop-i : goal.decreases-loop-i
decreases-loop-i l = l.i
