-- The fraction that a packed one stands for, and the order of packed fractions.
use Rattle.std.specs.Cmp.{IsTotalOrder, on_total}
use Rattle.std.specs.declared.cmp.Ordering.{Ordering}
use Rattle.key_counts.specs.RatioOrder.{ratio_cmp, ratio_total}
use Rattle.key_counts.specs.Parts.{numerator_in, denominator_in, denominator_in-positive}
use Rattle.key_counts.specs.declared.packed_ratio.PackedRatio.{PackedRatio}
use Rattle.key_counts.specs.declared.ratio.Ratio.{Ratio}

-- the fraction in a word
abbrev pub ratio_in : PackedRatio → Ratio
ratio_in p = record {
  num = numerator_in p.bits;
  den = denominator_in p.bits;
  positive = denominator_in-positive p.bits;
  lowest = p.lowest;
}

-- which of two packed fractions is less, by value, whatever their flags are
abbrev pub packed_cmp : PackedRatio → PackedRatio → Ordering
packed_cmp p q = ratio_cmp (ratio_in p) (ratio_in q)

-- it is a total order
pub packed_total : IsTotalOrder packed_cmp
packed_total = on_total ratio_in ratio_total
