-- Sums of floats, worked by hand.
use Rattle.std.specs.Prelude.{◌≡◌, pos, negsuc, [], ◌∷◌, true, false, refl}
use Rattle.std.specs.Float.{nan, inf, fin, float_is_finite}
use lib.Ieee.{round, sum}
use Rattle.float_sum.specs.Sums.{total_of}

-- `fin s m e` is m * 2 ^ e with the sign s, and `negsuc 52` is -53: 1 and twice 2 ^ -53, of which each alone would be rounded away
pub tiny_ones : total_of (fin false 1 (pos 0) ∷ fin false 1 (negsuc 52) ∷ fin false 1 (negsuc 52) ∷ []) ≡ fin false 4503599627370497 (negsuc 51)
unfolding float_is_finite round sum
tiny_ones = refl

-- one alone is a tie, and the even one is 1
pub tie : total_of (fin false 1 (pos 0) ∷ fin false 1 (negsuc 52) ∷ []) ≡ fin false 1 (pos 0)
unfolding float_is_finite round sum
tie = refl

-- past the greatest, and back
pub past : total_of (fin false 1 (pos 1023) ∷ fin false 1 (pos 1023) ∷ []) ≡ inf false
unfolding float_is_finite round sum
past = refl

pub back : total_of (fin false 1 (pos 1023) ∷ fin false 1 (pos 1023) ∷ fin true 1 (pos 1023) ∷ []) ≡ fin false 1 (pos 1023)
unfolding float_is_finite round sum
back = refl

-- zeros alone, also those below 0, and no float
pub zeros : total_of (fin true 0 (pos 0) ∷ fin true 0 (pos 0) ∷ []) ≡ fin false 0 (pos 0)
unfolding float_is_finite round sum
zeros = refl

pub none : total_of [] ≡ fin false 0 (pos 0)
unfolding float_is_finite round sum
none = refl

-- infinities, and what is no number
pub one_infinity : total_of (fin false 1 (pos 0) ∷ inf true ∷ nan ∷ []) ≡ inf true
unfolding float_is_finite round sum
one_infinity = refl

pub both : total_of (inf false ∷ fin false 1 (pos 0) ∷ inf true ∷ []) ≡ nan
unfolding float_is_finite round sum
both = refl

pub passed_over : total_of (nan ∷ fin true 3 (pos 0) ∷ nan ∷ []) ≡ fin true 3 (pos 0)
unfolding float_is_finite round sum
passed_over = refl
