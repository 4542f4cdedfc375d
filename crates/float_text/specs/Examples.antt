-- Words and their values, worked by hand.
use Rattle.std.specs.Prelude.{◌≡◌, pos, negsuc, true, false, refl, codes, Some, None}
use Rattle.std.specs.Float.{nan, inf, fin, float_is_finite}
use Rattle.std.proofs.lemmas.Float.Parse.{parse_float_on_literals}
use Rattle.float_codes.specs.declared.float_format.FloatFormat.TheVariants.{Ibm32, Ieee32, Ieee64}
use Rattle.float_codes.specs.Values.{ibm_value}
use Rattle.float_codes.specs.Nearest.{ibm_nearest}
use Rattle.float_text.specs.declared.reading.Reading.TheVariants.{Value, PastGreatest}
use Rattle.float_text.specs.Words.{reading_of}

-- `fin s m e` is m * 2 ^ e with the sign s, and `negsuc 54` is -55
pub tenth : reading_of Ieee64 (codes "0.1") ≡ Some (Value (fin false 3602879701896397 (negsuc 54)))
unfolding parse_float_on_literals float_is_finite
tenth = refl

pub less : reading_of Ibm32 (codes "-118.625") ≡ Some (Value (fin true 949 (negsuc 2)))
unfolding parse_float_on_literals float_is_finite ibm_nearest ibm_value
less = refl

-- the binary32 123456792, and the shortest decimal that is read as it
pub narrow : reading_of Ieee32 (codes "123456792") ≡ Some (Value (fin false 15432099 (pos 3)))
unfolding parse_float_on_literals float_is_finite
narrow = refl

pub narrow_short : reading_of Ieee32 (codes "123456790") ≡ Some (Value (fin false 15432099 (pos 3)))
unfolding parse_float_on_literals float_is_finite
narrow_short = refl

-- just above the middle of 1 and the next binary32, and nearer to the latter, though its binary64 is that middle
pub once : reading_of Ieee32 (codes "1.00000005960464477539062500000001") ≡ Some (Value (fin false 8388609 (negsuc 22)))
unfolding parse_float_on_literals float_is_finite
once = refl

-- the smallest, and what is smaller is a zero with its sign
pub least : reading_of Ieee64 (codes "5e-324") ≡ Some (Value (fin false 1 (negsuc 1073)))
unfolding parse_float_on_literals float_is_finite
least = refl

pub smaller : reading_of Ieee64 (codes "-1E-400") ≡ Some (Value (fin true 0 (pos 0)))
unfolding parse_float_on_literals float_is_finite
smaller = refl

-- past the greatest of each format
pub past : reading_of Ieee64 (codes "1e400") ≡ Some (PastGreatest false)
unfolding parse_float_on_literals float_is_finite
past = refl

pub past_narrow : reading_of Ieee32 (codes "-1e39") ≡ Some (PastGreatest true)
unfolding parse_float_on_literals float_is_finite
past_narrow = refl

pub past_ibm : reading_of Ibm32 (codes "1e76") ≡ Some (PastGreatest false)
unfolding parse_float_on_literals float_is_finite ibm_nearest ibm_value
past_ibm = refl

-- ---- IBM's values: each decimal is rounded once

pub ibm_tenth : reading_of Ibm32 (codes "0.1") ≡ Some (Value (fin false 838861 (negsuc 22)))
unfolding parse_float_on_literals float_is_finite ibm_nearest ibm_value
ibm_tenth = refl

-- 1 + 2 ^ -21 is the middle of 1 and 1 + 2 ^ -20, of which 1 is even
pub middle_down : reading_of Ibm32 (codes "1.000000476837158203125") ≡ Some (Value (fin false 1 (pos 0)))
unfolding parse_float_on_literals float_is_finite ibm_nearest ibm_value
middle_down = refl

-- just above it, though its binary64 is that middle; and of the other sign
pub above_middle : reading_of Ibm32 (codes "1.0000004768371582031250000000000001") ≡ Some (Value (fin false 1048577 (negsuc 19)))
unfolding parse_float_on_literals float_is_finite ibm_nearest ibm_value
above_middle = refl

pub above_middle_negative : reading_of Ibm32 (codes "-1.0000004768371582031250000000000001") ≡ Some (Value (fin true 1048577 (negsuc 19)))
unfolding parse_float_on_literals float_is_finite ibm_nearest ibm_value
above_middle_negative = refl

-- 1 + 3 * 2 ^ -21 is the middle of 1 + 2 ^ -20 and 1 + 2 ^ -19, of which the latter is even
pub middle_up : reading_of Ibm32 (codes "1.000001430511474609375") ≡ Some (Value (fin false 524289 (negsuc 18)))
unfolding parse_float_on_literals float_is_finite ibm_nearest ibm_value
middle_up = refl

-- just below it, though its binary64 is that middle; and of the other sign
pub below_middle : reading_of Ibm32 (codes "1.0000014305114746093749999999999999") ≡ Some (Value (fin false 1048577 (negsuc 19)))
unfolding parse_float_on_literals float_is_finite ibm_nearest ibm_value
below_middle = refl

pub below_middle_negative : reading_of Ibm32 (codes "-1000001.4305114746093749999999999999E-6") ≡ Some (Value (fin true 1048577 (negsuc 19)))
unfolding parse_float_on_literals float_is_finite ibm_nearest ibm_value
below_middle_negative = refl

-- below 16 ^ -65 the fraction is not normalised: here 194266.9 of the smallest value
pub small : reading_of Ibm32 (codes "1e-79") ≡ Some (Value (fin false 194267 (negsuc 279)))
unfolding parse_float_on_literals float_is_finite ibm_nearest ibm_value
small = refl

pub too_small : reading_of Ibm32 (codes "-1e-90") ≡ Some (Value (fin true 0 (pos 0)))
unfolding parse_float_on_literals float_is_finite ibm_nearest ibm_value
too_small = refl

-- 2 ^ 252 - 2 ^ 227 is half a unit above the greatest; just below it the greatest is the nearest
pub greatest : reading_of Ibm32 (codes "7237005361652688876768068205706873544672328652505379872141519151665688608767") ≡ Some (Value (fin false 16777215 (pos 228)))
unfolding parse_float_on_literals float_is_finite ibm_nearest ibm_value
greatest = refl

pub above_greatest : reading_of Ibm32 (codes "7237005361652688876768068205706873544672328652505379872141519151665688608768") ≡ Some (PastGreatest false)
unfolding parse_float_on_literals float_is_finite ibm_nearest ibm_value
above_greatest = refl

-- which is no infinity
pub infinity : reading_of Ieee32 (codes "-inf") ≡ Some (Value (inf true))
unfolding parse_float_on_literals float_is_finite
infinity = refl

pub no_number : reading_of Ibm32 (codes "nan") ≡ Some (Value nan)
unfolding parse_float_on_literals float_is_finite
no_number = refl

-- a point needs a digit on one side, and an exponent may have a plus
pub no_whole : reading_of Ieee64 (codes ".5") ≡ Some (Value (fin false 1 (negsuc 0)))
unfolding parse_float_on_literals float_is_finite
no_whole = refl

pub no_fraction : reading_of Ieee64 (codes "1.e+2") ≡ Some (Value (fin false 25 (pos 2)))
unfolding parse_float_on_literals float_is_finite
no_fraction = refl

-- no words
pub plus : reading_of Ieee64 (codes "+1") ≡ None
unfolding parse_float_on_literals float_is_finite
plus = refl

pub point : reading_of Ieee64 (codes ".") ≡ None
unfolding parse_float_on_literals float_is_finite
point = refl

pub no_exponent : reading_of Ieee64 (codes "1e") ≡ None
unfolding parse_float_on_literals float_is_finite
no_exponent = refl

pub two_points : reading_of Ieee64 (codes "1.2.3") ≡ None
unfolding parse_float_on_literals float_is_finite
two_points = refl

pub space : reading_of Ieee64 (codes "1 ") ≡ None
unfolding parse_float_on_literals float_is_finite
space = refl

pub signs : reading_of Ieee64 (codes "--1") ≡ None
unfolding parse_float_on_literals float_is_finite
signs = refl

pub negative_nan : reading_of Ieee64 (codes "-nan") ≡ None
unfolding parse_float_on_literals float_is_finite
negative_nan = refl

pub capitals : reading_of Ieee64 (codes "Inf") ≡ None
unfolding parse_float_on_literals float_is_finite
capitals = refl

pub longer : reading_of Ieee64 (codes "infinity") ≡ None
unfolding parse_float_on_literals float_is_finite
longer = refl

pub nothing : reading_of Ieee64 (codes "") ≡ None
unfolding parse_float_on_literals float_is_finite
nothing = refl
