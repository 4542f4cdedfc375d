-- Lists without the items at some positions, which count from 1.
use Rattle.std.specs.Prelude.{ℕ, zero, suc, ◌≤◌, ◌-◌, List, [], ◌∷◌}
use Rattle.std.specs.List.{remove}
use Rattle.trace_seq.specs.Order.{times}

-- the list with the item in front, if that is taken out no times
abbrev pub unless : {T : Type 0} → ℕ → T → List T → List T
unless zero x xs = x ∷ xs
unless (suc n) x xs = xs

-- the items of a list whose first stands at `at`, without each that stands at one of the positions
abbrev pub without_from : {T : Type 0} → ℕ → List T → List ℕ → List T
without_from at [] positions = []
without_from at (x ∷ xs) positions = unless (times at positions) x (without_from (suc at) xs positions)

-- the list without each item that stands at one of the positions, the others in their order
abbrev pub without_each : {T : Type 0} → List T → List ℕ → List T
without_each xs positions = without_from 1 xs positions

-- the same where the positions rise, one after the other: the item at the last of them is taken out first
abbrev pub taken_out : {T : Type 0} → List T → List ℕ → List T
taken_out xs [] = xs
taken_out xs (p ∷ ps) = remove (taken_out xs ps) (p - 1)

-- each position is above the one in front of it, and the first is not below `from`
abbrev pub AreRising : ℕ → List ℕ → Type 0
AreRising from [] = Unit {0}
AreRising from (p ∷ ps) = (from ≤ p) × AreRising (suc p) ps
