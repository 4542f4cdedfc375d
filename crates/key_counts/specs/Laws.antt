-- A law of ratios.
use Rattle.std.specs.Prelude.{◌≡◌}
use Rattle.std.specs.declared.cmp.Ordering.TheVariants.{Equal}
use Rattle.key_counts.specs.declared.ratio.Ratio.{Ratio}
use Rattle.key_counts.specs.RatioOrder.{ratio_cmp}

-- ratios of one value are one ratio
abbrev pub EqualRatiosAreOne : Type 0
EqualRatiosAreOne = (x y : Ratio) → ratio_cmp x y ≡ Equal → x ≡ y
