-- Differences of positions, worked by hand.
use Rattle.std.specs.Prelude.{◌≡◌, ℤ, pos, negsuc, true, false, Some, None, refl}
use Rattle.key_counts.specs.Coordinates.{whole, under_scalar, over, greatest_divisor}
use Rattle.position_differences.specs.declared.difference.Position.{Position}
use Rattle.position_differences.specs.declared.difference.Difference.{Difference}
use Rattle.position_differences.specs.Differences.{above, difference_of, is_far, is_jump}

-- a position of whole numbers
abbrev at : ℤ → ℤ → Position
at x y = record { x = whole x; y = whole y }

-- a difference of whole numbers
abbrev by : ℤ → ℤ → Difference
by x y = record { x = whole x; y = whole y }

-- the numbers of two positions are subtracted
pub difference-whole : ((difference_of (at (pos 1000) (pos 500)) (at (pos 1025) (pos 488))).x.num ≡ pos 25) × ((difference_of (at (pos 1000) (pos 500)) (at (pos 1025) (pos 488))).y.num ≡ negsuc 11)
unfolding over greatest_divisor
difference-whole = (refl, refl)

-- 12.25 is 1.75 above 10.5, in lowest terms: 7 / 4
pub above-scaled : ((above (under_scalar (pos 105) (negsuc 9)) (under_scalar (pos 1225) (negsuc 99))).num ≡ pos 7) × ((above (under_scalar (pos 105) (negsuc 9)) (under_scalar (pos 1225) (negsuc 99))).den ≡ 4)
unfolding under_scalar over greatest_divisor
above-scaled = (refl, refl)

-- where most step by 25 in x, one that differs by 12 is not far, and one that differs by 13 is, in x or in y
pub far-half : is_far (by (pos 37) (pos 0)) (by (pos 25) (pos 0)) ≡ false
far-half = refl

pub far-more : is_far (by (pos 38) (pos 0)) (by (pos 25) (pos 0)) ≡ true
far-more = refl

pub far-across : is_far (by (pos 25) (negsuc 12)) (by (pos 25) (pos 0)) ≡ true
far-across = refl

-- the greater amount of the other counts, whatever its sign and its coordinate
pub far-greater : is_far (by (pos 20) (negsuc 24)) (by (pos 8) (negsuc 24)) ≡ false
far-greater = refl

-- exactly half is not far: 1.5 beside 1
pub far-exactly : is_far (record { x = under_scalar (pos 15) (negsuc 9); y = whole (pos 0) }) (by (pos 1) (pos 0)) ≡ false
unfolding under_scalar over greatest_divisor
far-exactly = refl

-- one cell that was moved: the pair is far from the usual one and from its neighbour
pub jump-moved : is_jump (by (pos 25) (pos 0)) (Some (by (pos 25) (pos 0))) (by (pos 525) (pos 0)) (Some (by (negsuc 474) (pos 0))) ≡ true
jump-moved = refl

-- behind a bend a line goes on as it does: none
pub jump-bend : is_jump (by (pos 25) (pos 0)) (Some (by (pos 25) (pos 0))) (by (pos 0) (pos 25)) (Some (by (pos 0) (pos 25))) ≡ false
jump-bend = refl

-- at the end of a line the usual one alone counts
pub jump-end : is_jump (by (pos 25) (pos 0)) None (by (pos 525) (pos 0)) None ≡ true
jump-end = refl

-- where most stand where their neighbours stand none is a jump
pub jump-none : is_jump (by (pos 0) (pos 0)) None (by (pos 525) (pos 0)) None ≡ false
jump-none = refl
