-- Words that write a float.
use Rattle.std.specs.Prelude.{ℕ, ◌*◌, ◌^◌, ◌==◌, ◌&&◌, Bool, if◌then◌else◌, List, length, drop, slice_index, codes, Option, Some, None, bytes_eq}
use Rattle.std.specs.Float.{Float, nan, inf, binary32, binary64, float_is_finite}
use Rattle.fast_float.specs.Text.{minus, Parts, scan, has_digits, digits_of, tens_up, tens_down, nearest}
use Rattle.float_codes.specs.declared.float_format.FloatFormat.{FloatFormat}
use Rattle.float_codes.specs.declared.float_format.FloatFormat.TheVariants.{Ibm32, Ieee32, Ieee64}
use Rattle.float_codes.specs.Values.{ibm_value}
use Rattle.float_codes.specs.Nearest.{ibm_nearest}
use Rattle.float_text.specs.declared.reading.Reading.{Reading}
use Rattle.float_text.specs.declared.reading.Reading.TheVariants.{Value, PastGreatest}

-- a minus stands first
abbrev pub is_negative : List ℕ → Bool
is_negative word = slice_index word 0 == minus

-- the word without it
abbrev pub size_of : List ℕ → List ℕ
size_of word = drop (if is_negative word then 1 else 0) word

-- All of these bytes are a decimal: digits with at most one point, at least one digit, and perhaps `e` or `E`, a sign and digits.
-- `scan` cuts the longest such text at their front into its parts: it may have no digit, and `len` is how long it is.
abbrev pub is_decimal : List ℕ → Bool
is_decimal bs = has_digits (scan bs) && (scan bs).len == length bs

-- a float that a decimal was rounded to
abbrev pub finite_reading : Bool → Float → Reading
finite_reading negative v = if float_is_finite v then Value v else PastGreatest negative

-- a pattern of IBM's that it was rounded to
abbrev pub ibm_reading : Bool → Option ℕ → Reading
ibm_reading negative None = PastGreatest negative
ibm_reading negative (Some b) = Value (ibm_value b)

-- The value of the format that is nearest to a decimal, at a tie the even one. The decimal is the exact fraction that its digits and its
-- exponent write: digits_of p * 10 ^ tens_up p / 10 ^ tens_down p. `nearest f s p` is the float nearest to it, and `ibm_nearest` the IBM
-- pattern: each rounds that fraction once.
abbrev pub nearest_in : FloatFormat → Bool → Parts → Reading
nearest_in Ibm32 negative p = ibm_reading negative (ibm_nearest negative (digits_of p * 10 ^ tens_up p) (10 ^ tens_down p))
nearest_in Ieee32 negative p = finite_reading negative (nearest binary32 negative p)
nearest_in Ieee64 negative p = finite_reading negative (nearest binary64 negative p)

-- what a word writes, if it is one of `nan`, `inf`, `-inf` and the decimals, before which a minus may stand
abbrev pub reading_of : FloatFormat → List ℕ → Option Reading
reading_of f word =
    if bytes_eq word (codes "nan") then Some (Value nan)
    else (if bytes_eq (size_of word) (codes "inf") then Some (Value (inf (is_negative word)))
    else (if is_decimal (size_of word) then Some (nearest_in f (is_negative word) (scan (size_of word)))
    else None))
