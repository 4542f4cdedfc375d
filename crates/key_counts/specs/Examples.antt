-- Coordinates under their scalars, worked by hand.
use Rattle.std.specs.Prelude.{◌≡◌, pos, negsuc, refl}
use Rattle.key_counts.specs.RatioOrder.{fraction_of}
use Rattle.key_counts.specs.Coordinates.{under_scalar, over, greatest_divisor}

-- 3 under the scalar 100 is 300
pub under_scalar-times : fraction_of (under_scalar (pos 3) (pos 100)) ≡ (pos 300, 1)
unfolding under_scalar
under_scalar-times = refl

-- -250 under the scalar -100 is -5/2
pub under_scalar-over : fraction_of (under_scalar (negsuc 249) (negsuc 99)) ≡ (negsuc 4, 2)
unfolding under_scalar over greatest_divisor
under_scalar-over = refl

-- the least coordinate under the least scalar is -65536
pub under_scalar-least : fraction_of (under_scalar (negsuc 2147483647) (negsuc 32767)) ≡ (negsuc 65535, 1)
unfolding under_scalar over greatest_divisor
under_scalar-least = refl
