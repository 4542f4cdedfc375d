use Rattle.std.proofs.Common.{ℕ, ◌≡◌, ◌<◌, ◌≤◌, ◌+◌, ◌*◌, ◌^◌, take, get_or}
use Rattle.float_sum.specs.Worth.{worth}
use Rattle.float_sum.proofs.digits.subtract.Given as goal

abbrev pub invariant-loop-i : goal.invariant-loop-i
invariant-loop-i l =
    (worth (take l.i l.out) + worth (take l.i l.less) ≡ worth (take l.i l.from) + l.borrow * 2 ^ (32 * l.i))
    × ((k : ℕ) → k < l.i → get_or l.out k 0 < 2 ^ 32)
    × (l.borrow ≤ 1)
