-- Floats as whole numbers in the order of their values.
use Rattle.std.specs.Prelude.{ℕ, ℤ, pos, negsuc, ◌≡◌, ◌+◌, ◌*◌, ◌^◌, ◌%◌, ◌≤◌, ◌==◌, ◌&&◌, not, nat_le, int_lt, int_le, cond, Bool, from_bits, to_bits}
use Rattle.std.specs.Float.{Float, binary64}
use lib.Ieee.{lt}

-- The rank of a pattern of binary64: its bits without the sign, and where the sign is set the number that stands as far below -1 as they are above 0.
-- So -0 has the rank -1, just below that of 0.
abbrev pub rank : ℕ → ℤ
rank b = cond (nat_le (2 ^ 63) b) (negsuc (b % 2 ^ 63)) (pos (b % 2 ^ 63))

-- the pattern of a rank
abbrev pub pattern_at : ℤ → ℕ
pattern_at (pos n) = n
pattern_at (negsuc n) = 2 ^ 63 + n

-- the rank of a float; of what is no number, that of its one pattern, which stands above all numbers
abbrev pub rank_of : Float → ℤ
rank_of v = rank (to_bits binary64 v)

-- the float of a rank
abbrev pub value_at : ℤ → Float
value_at r = from_bits binary64 (pattern_at r)

-- the rank of what is no number
abbrev pub no_number : ℤ
no_number = pos 0x7FF8000000000000

-- whether a rank is that of a number, finite or infinite
abbrev pub is_number_rank : ℤ → Bool
is_number_rank r = int_le (negsuc 0x7FF0000000000000) r && int_le r (pos 0x7FF0000000000000)

-- a pattern of a number, finite or infinite
abbrev pub IsNumber : ℕ → Type 0
IsNumber b = b % 2 ^ 63 ≤ 2047 * 2 ^ 52

-- a pattern of 0 or -0
abbrev pub is_zero : ℕ → Bool
is_zero b = b % 2 ^ 63 == 0

-- numbers are in the order of their ranks, but that -0 and 0 have two
abbrev pub RanksKeepOrder : Type 0
RanksKeepOrder = (b c : ℕ) → IsNumber b → IsNumber c → lt (from_bits binary64 b) (from_bits binary64 c) ≡ (int_lt (rank b) (rank c) && not (is_zero b && is_zero c))
