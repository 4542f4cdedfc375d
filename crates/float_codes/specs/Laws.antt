-- Laws of the float formats.
use Rattle.std.specs.Prelude.{ℕ, ◌≡◌, ◌*◌, ◌^◌, ◌<◌, nat_le, not, T, Some, is_nan}
use lib.Ieee.Exact.{HasValue}
use Rattle.float_codes.specs.declared.float_format.FloatFormat.{FloatFormat}
use Rattle.float_codes.specs.Values.{float_width, float_of_bits, ibm_value, ibm_fraction, ibm_exponent}
use Rattle.float_codes.specs.Nearest.{pattern_of, ibm_pattern, IsNormal}

-- the value of an IBM pattern is the number fraction * 2 ^ (4 * exponent) / 2 ^ 280, with its sign
abbrev pub IbmIsExact : Type 0
IbmIsExact = (b : ℕ) → HasValue (ibm_value b) (nat_le (2 ^ 31) b) (ibm_fraction b * 2 ^ (4 * ibm_exponent b)) (2 ^ 280)

-- the value of an IEEE pattern has that pattern, but for what is no number
abbrev pub IeeeReadsBack : FloatFormat → Type 0
IeeeReadsBack f = (b : ℕ) → b < 2 ^ (8 * float_width f) → T (not (is_nan (float_of_bits f b))) → pattern_of f (float_of_bits f b) ≡ Some b

-- the value of an IBM pattern has a pattern, which is normal, and of the same value
abbrev pub IbmReadsBack : Type 0
IbmReadsBack = (b : ℕ) → (c : ℕ) × (ibm_pattern (ibm_value b) ≡ Some c) × (ibm_value c ≡ ibm_value b) × IsNormal c
