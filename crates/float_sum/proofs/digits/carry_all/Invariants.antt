use Rattle.std.proofs.Common.{ℕ, ◌≡◌, ◌<◌, ◌≤◌, ◌+◌, ◌*◌, ◌^◌, get_or}
use Rattle.float_sum.specs.Worth.{worth, IsWithin}
use Rattle.float_sum.proofs.digits.carry_all.Given as goal

abbrev pub invariant-loop-i : goal.invariant-loop-i
invariant-loop-i l =
    (worth l.words + l.carry * 2 ^ (32 * l.i) ≡ worth l.fn.words)
    × ((k : ℕ) → k < l.i → get_or l.words k 0 < 2 ^ 32)
    × IsWithin (2 ^ 127) l.words
    × (l.carry ≤ 2 ^ 96)
