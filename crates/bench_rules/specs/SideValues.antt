-- What the sides of a condition say of a trace, and how they compare.
use Rattle.std.specs.Prelude.{ℤ, Bool, false, Option, Some, None}
use Rattle.std.specs.declared.cmp.Ordering.{Ordering}
use Rattle.std.specs.Ordering.{int_cmp, is_eq, is_ne, is_lt, is_le, is_gt, is_ge, ordering_reverse}
use Rattle.std.specs.Option.{option_map_or}
use Rattle.exact_amounts.specs.Numbers.{whole}
use Rattle.exact_amounts.specs.Places.{level, place_of, stands}
use Rattle.bench_rules.specs.declared.comparison.Comparison.{Comparison}
use Rattle.bench_rules.specs.declared.comparison.Comparison.TheVariants.{Equal, Unequal, Less, AtMost, Greater, AtLeast}
use Rattle.bench_rules.specs.declared.side_value.SideValue.{SideValue}
use Rattle.bench_rules.specs.declared.side_value.SideValue.TheVariants.{Whole, Rank, Decimal, Missing}

-- how the value of a rank compares, exactly: with the ranks of floats, of which -0 counts as 0, and with the places of other numbers
abbrev pub order_with_rank : ℤ → SideValue → Option Ordering
order_with_rank r (Whole x) = Some (ordering_reverse (stands (place_of (whole x)) r))
order_with_rank r (Rank q) = Some (int_cmp (level r) (level q))
order_with_rank r (Decimal a) = Some (ordering_reverse (stands a r))
order_with_rank r Missing = None

-- how a whole number compares
abbrev pub order_with_whole : ℤ → SideValue → Option Ordering
order_with_whole x (Whole y) = Some (int_cmp x y)
order_with_whole x (Rank r) = Some (stands (place_of (whole x)) r)
order_with_whole x (Decimal a) = None
order_with_whole x Missing = None

-- how two values compare; nothing where one is missing, and where a decimal is beside anything but a float
abbrev pub order_of : SideValue → SideValue → Option Ordering
order_of (Whole x) other = order_with_whole x other
order_of (Rank r) other = order_with_rank r other
order_of (Decimal a) (Whole y) = None
order_of (Decimal a) (Rank r) = Some (stands a r)
order_of (Decimal a) (Decimal b) = None
order_of (Decimal a) Missing = None
order_of Missing other = None

-- the comparison holds of what stands so
abbrev pub admits : Comparison → Ordering → Bool
admits Equal o = is_eq o
admits Unequal o = is_ne o
admits Less o = is_lt o
admits AtMost o = is_le o
admits Greater o = is_gt o
admits AtLeast o = is_ge o

-- the values compare so; what has no order compares no way
abbrev pub compares : Comparison → SideValue → SideValue → Bool
compares comparison a b = option_map_or (admits comparison) (order_of a b) false
