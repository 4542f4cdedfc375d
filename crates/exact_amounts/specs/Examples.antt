-- Numbers and where they lie, worked by hand.
use Rattle.std.specs.Prelude.{◌≡◌, ◌-◌, ◌^◌, pos, negsuc, true, false, refl, codes, Option, Some, None, List, ℕ}
use Rattle.std.specs.declared.cmp.Ordering.{Ordering}
use Rattle.std.specs.declared.cmp.Ordering.TheVariants.{Less, Equal, Greater}
use Rattle.std.specs.Option.{option_map}
use Rattle.std.specs.Float.{Float, inf, fin}
use lib.Ieee.{to_bits}
use Rattle.std.proofs.lemmas.Float.Parse.{parse_float_on_literals}
use Rattle.float_codes.specs.Ranks.{no_number}
use Rattle.exact_amounts.specs.Numbers.{whole, number_of}
use Rattle.exact_amounts.specs.Places.{compares, place_of, stands}

-- how the number of a word compares with a float
abbrev said : List ℕ → Float → Option Ordering
said word v = option_map (λ n. compares n v) (number_of word)

-- `fin s m e` is m * 2 ^ e with the sign s, and `negsuc 54` is -55: the binary64 nearest to 0.1, which is above 0.1
pub tenth : said (codes "0.1") (fin false 3602879701896397 (negsuc 54)) ≡ Some Less
unfolding parse_float_on_literals
tenth = refl

pub tenth_place : option_map place_of (number_of (codes "0.1")) ≡ Some (record { rank = pos 0x3FB999999999999A; side = Less })
unfolding parse_float_on_literals to_bits
tenth_place = refl

pub same : said (codes "3.5") (fin false 7 (negsuc 0)) ≡ Some Equal
unfolding parse_float_on_literals
same = refl

-- 0 and -0
pub zero : said (codes "0") (fin true 0 (pos 0)) ≡ Some Equal
unfolding parse_float_on_literals
zero = refl

pub minus_zero : said (codes "-0.0") (fin false 0 (pos 0)) ≡ Some Equal
unfolding parse_float_on_literals
minus_zero = refl

pub zero_place : stands (place_of (whole (pos 0))) (negsuc 0) ≡ Equal
unfolding parse_float_on_literals to_bits
zero_place = refl

-- past the greatest float, and below infinity
pub past : said (codes "1e400") (fin false (2 ^ 53 - 1) (pos 971)) ≡ Some Greater
unfolding parse_float_on_literals
past = refl

pub below_infinity : said (codes "1e400") (inf false) ≡ Some Less
unfolding parse_float_on_literals
below_infinity = refl

pub infinite : said (codes "-inf") (inf true) ≡ Some Equal
unfolding parse_float_on_literals
infinite = refl

-- what is no number stands above infinity
pub above_infinity : option_map (λ n. stands (place_of n) no_number) (number_of (codes "inf")) ≡ Some Less
unfolding parse_float_on_literals to_bits
above_infinity = refl

-- just above 1, to which it is rounded
pub above : said (codes "1.00000000000000000000000000001") (fin false 1 (pos 0)) ≡ Some Greater
unfolding parse_float_on_literals
above = refl

pub above_place : option_map place_of (number_of (codes "1.00000000000000000000000000001")) ≡ Some (record { rank = pos 0x3FF0000000000000; side = Greater })
unfolding parse_float_on_literals to_bits
above_place = refl

-- the same below -1
pub below : said (codes "-1.00000000000000000000000000001") (fin true 1 (pos 0)) ≡ Some Less
unfolding parse_float_on_literals
below = refl

-- 2 ^ 53 + 1, which is no binary64
pub whole_above : compares (whole (pos 9007199254740993)) (fin false 1 (pos 53)) ≡ Greater
whole_above = refl

pub no_word : number_of (codes "nan") ≡ None
unfolding parse_float_on_literals
no_word = refl

pub no_decimal : number_of (codes "1e") ≡ None
unfolding parse_float_on_literals
no_decimal = refl
