-- How positions differ, and differences that are far from one another.
use Rattle.std.specs.Prelude.{pos, ◌*◌, ◌*ℤ◌, ◌-ℤ◌, ◌&&◌, ◌||◌, not, nat_lt, Bool, true, Option, if◌then◌else◌, unsigned_abs}
use Rattle.std.specs.Option.{option_map_or}
use Rattle.std.specs.Ordering.{int_eq, ordering_then}
use Rattle.std.specs.declared.cmp.Ordering.{Ordering}
use native.Mathlib.Nat.{mul-pos}
use Rattle.key_counts.specs.Coordinates.{over}
use Rattle.key_counts.specs.RatioOrder.{ratio_cmp}
use Rattle.key_counts.specs.declared.ratio.Ratio.{Ratio}
use Rattle.position_differences.specs.declared.difference.Position.{Position}
use Rattle.position_differences.specs.declared.difference.Difference.{Difference}
use Rattle.position_differences.specs.declared.far.TheConstants.{FAR_PARTS}

-- how far the second coordinate lies above the first, in lowest terms
abbrev pub above : Ratio → Ratio → Ratio
above a b = over (b.num *ℤ pos a.den -ℤ a.num *ℤ pos b.den) (b.den * a.den) (mul-pos b.positive a.positive)

-- how far the second position lies above the first, in x and in y
abbrev pub difference_of : Position → Position → Difference
difference_of a b = record { x = above a.x b.x; y = above a.y b.y }

-- which of two differences is less: by x, then by y
abbrev pub difference_cmp : Difference → Difference → Ordering
difference_cmp a b = ordering_then (ratio_cmp a.x b.x) (ratio_cmp a.y b.y)

-- of two positions that differ so one stands where the other does
abbrev pub is_zero : Difference → Bool
is_zero d = int_eq d.x.num (pos 0) && int_eq d.y.num (pos 0)

-- of the two coordinates the one with the greater amount, x where they have the same
abbrev pub greater_of : Difference → Ratio
greater_of d = if nat_lt (unsigned_abs d.x.num * d.y.den) (unsigned_abs d.y.num * d.x.den) then d.y else d.x

-- two coordinates differ by more than half of the amount of a third: |a - b| > |m| / 2, said over the three denominators
abbrev pub is_apart : Ratio → Ratio → Ratio → Bool
is_apart a b m =
    nat_lt (unsigned_abs m.num * (a.den * b.den)) (FAR_PARTS * unsigned_abs (a.num *ℤ pos b.den -ℤ b.num *ℤ pos a.den) * m.den)

-- a difference is far from another: one of its coordinates differs by more than half of the greater amount of the other's two
abbrev pub is_far : Difference → Difference → Bool
is_far d o = is_apart d.x o.x (greater_of o) || is_apart d.y o.y (greater_of o)

-- far from the other where there is one
abbrev pub is_far_from_any : Difference → Option Difference → Bool
is_far_from_any d other = option_map_or (is_far d) other true

-- the difference d is a jump where u is the usual one: it is far from u, and from those in front of it and behind it along its line,
-- those that there are; no difference is a jump where u is 0 in x and in y
abbrev pub is_jump : Difference → Option Difference → Difference → Option Difference → Bool
is_jump u before d behind = not (is_zero u) && is_far d u && is_far_from_any d before && is_far_from_any d behind
