-- Numbers that a whole number or a word says.
use Rattle.std.specs.Prelude.{ℕ, suc, ℤ, pos, negsuc, ◌*◌, ◌^◌, Bool, true, false, if◌then◌else◌, List, codes, Option, Some, None, bytes_eq}
use Rattle.fast_float.specs.Text.{Parts, scan, digits_of, tens_up, tens_down}
use Rattle.float_text.specs.Words.{is_negative, size_of, is_decimal}

-- An exact number: the fraction a / c with a sign, or an infinity. The fraction 0 is the same number with either sign.
pub data Number : Type 0 where
  Fraction : Bool → ℕ → ℕ → Number
  Infinity : Bool → Number

-- what a whole number says
abbrev pub whole : ℤ → Number
whole (pos n) = Fraction false n 1
whole (negsuc n) = Fraction true (suc n) 1

-- what a decimal says, with its sign
abbrev pub decimal : Bool → Parts → Number
decimal s p = Fraction s (digits_of p * 10 ^ tens_up p) (10 ^ tens_down p)

-- what a word says, if it is one of `inf`, `-inf` and the decimals, before which a minus may stand
abbrev pub number_of : List ℕ → Option Number
number_of word =
    if bytes_eq (size_of word) (codes "inf") then Some (Infinity (is_negative word))
    else (if is_decimal (size_of word) then Some (decimal (is_negative word) (scan (size_of word)))
    else None)
