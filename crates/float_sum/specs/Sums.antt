-- The exact sum of floats.
use Rattle.std.specs.Prelude.{ℕ, ◌≡◌, ◌+◌, ◌*◌, ◌/◌, ◌^◌, ◌<◌, ◌≤◌, Bool, true, false, not, cond, List, All, sum_by, filter}
use Rattle.std.specs.List.{list_any}
use Rattle.std.specs.Float.{Float, nan, inf, fin, binary64, float_is_finite}
use lib.Ieee.{up, down, sum}

-- The size of a float in units of 2 ^ -1074, of which each finite binary64 is a whole number. `up e / down e` is 2 ^ e.
abbrev pub units_of : Float → ℕ
units_of nan = 0
units_of (inf s) = 0
units_of (fin s m e) = m * up e * 2 ^ 1074 / down e

-- whether a float has the sign minus, -0 and -inf too; what is no number has none
abbrev pub is_negative : Float → Bool
is_negative nan = false
is_negative (inf s) = s
is_negative (fin s m e) = s

-- what a float adds to the sum of the positive ones
abbrev pub plus_of : Float → ℕ
plus_of v = cond (is_negative v) 0 (units_of v)

-- what a float adds to the sum of the amounts of the negative ones
abbrev pub minus_of : Float → ℕ
minus_of v = cond (is_negative v) (units_of v) 0

-- The binary64 nearest to the exact sum, at a tie the even one: `sum f s a t b c` is ±a / c + ±b / c rounded once, here a / 2 ^ 1074 - b / 2 ^ 1074.
-- A sum of zero is +0, and one past the greatest float an infinity.
abbrev pub nearest_sum : List Float → Float
nearest_sum vs = sum binary64 false (sum_by plus_of vs) true (sum_by minus_of vs) (2 ^ 1074)

-- an infinity of this sign
abbrev pub is_infinity : Bool → Float → Bool
is_infinity s nan = false
is_infinity s (inf t) = cond s t (not t)
is_infinity s (fin t m e) = false

-- a sum, where an infinity stands beside it, and where one below 0 does
abbrev pub beside_infinities : Bool → Bool → Float → Float
beside_infinities true true s = nan
beside_infinities true false s = inf false
beside_infinities false true s = inf true
beside_infinities false false s = s

-- The sum of floats, whatever they are: that of the finite ones, or an infinity that stands among them, or no number where both stand.
-- What is no number is passed over.
abbrev pub total_of : List Float → Float
total_of vs = beside_infinities (list_any (is_infinity false) vs) (list_any (is_infinity true) vs) (nearest_sum (filter float_is_finite vs))

-- no float is infinite or no number
abbrev pub AreFinite : List Float → Type 0
AreFinite vs = All (λ v. float_is_finite v ≡ true) vs

-- each word is a digit to the base 2 ^ 32
abbrev pub AreDigits : List ℕ → Type 0
AreDigits xs = All (λ x. x < 2 ^ 32) xs

-- The leading digits of n: n is top * 2 ^ (32 * dropped) and a rest r, and `rest` says whether that is more than 0.
-- Digits are dropped only where 64 bits stay.
pub record HasLeading (n top dropped : ℕ) (rest : Bool) (r : ℕ) : Type 0 where
  pub is : n ≡ top * 2 ^ (32 * dropped) + r
  pub below : r < 2 ^ (32 * dropped)
  pub none : rest ≡ false → r ≡ 0
  pub some : rest ≡ true → 0 < r
  pub enough : 0 < dropped → 2 ^ 64 ≤ top
