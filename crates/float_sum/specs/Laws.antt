-- Laws of the exact sum.
use Rattle.std.specs.Prelude.{◌≡◌, ◌^◌, true, List, T, IsPermutation}
use Rattle.std.specs.Float.{Float, binary64, float_is_finite}
use lib.Ieee.{fits}
use lib.Ieee.Exact.{HasValue}
use Rattle.float_sum.specs.Sums.{nearest_sum, total_of, units_of, is_negative}

-- a finite binary64 is exactly its units / 2 ^ 1074, with its sign
abbrev pub UnitsAreExact : Type 0
UnitsAreExact = (v : Float) → float_is_finite v ≡ true → T (fits binary64 v) → HasValue v (is_negative v) (units_of v) (2 ^ 1074)

-- no order changes a sum of finite floats
abbrev pub SumHasNoOrder : Type 0
SumHasNoOrder = (vs ws : List Float) → IsPermutation vs ws → nearest_sum vs ≡ nearest_sum ws

-- nor one with infinities and what is no number among them
abbrev pub TotalHasNoOrder : Type 0
TotalHasNoOrder = (vs ws : List Float) → IsPermutation vs ws → total_of vs ≡ total_of ws
