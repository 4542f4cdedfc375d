-- A large number as limbs of 64 bits, the lowest first.
use Rattle.std.specs.Prelude.{ℕ, zero, suc, ◌+◌, ◌*◌, ◌^◌, List, slice_index}

-- what a 1 in limb i counts
unfoldable pub limb_weight : ℕ → ℕ
limb_weight i = (2 ^ 64) ^ i

-- the number that the first n limbs hold
unfoldable pub value_below : List ℕ → ℕ → ℕ
value_below limbs zero = 0
value_below limbs (suc i) = value_below limbs i + slice_index limbs i * limb_weight i
