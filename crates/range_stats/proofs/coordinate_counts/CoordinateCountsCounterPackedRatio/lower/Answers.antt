use Rattle.std.proofs.Common.{◌<◌, ℕ, List, subst, sym}
use Rattle.key_counts.specs.Counts.{count_of, HasOneMore}
use Rattle.key_counts.specs.Packed.{ratio_in}
use Rattle.key_counts.specs.RatioOrder.{ratio_cmp}
use Rattle.key_counts.specs.declared.ratio.Ratio.{Ratio}
use Rattle.range_stats.specs.Unpacked.{with_ratios}
use Rattle.range_stats.proofs.UnpackedLemmas.{count_unpacked, one_more_unpacked}
use Rattle.range_stats.proofs.coordinate_counts.CoordinateCountsCounterPackedRatio.lower.Goals as goal

pub lower-requires : goal.lower-requires
lower-requires c =
    subst (λ (n : ℕ). 0 < n) (sym (count_unpacked c.self.inside.packed c.args.key))
    (subst (λ (es : List (Ratio × ℕ)). 0 < count_of ratio_cmp es (ratio_in c.args.key)) (sym c.self.view_is) c.requires)

pub returns : goal.returns
returns c =
    subst (λ (es : List (Ratio × ℕ)). HasOneMore ratio_cmp (with_ratios c.lower.new.self) es (ratio_in c.args.key)) c.self.view_is
    (one_more_unpacked c.lower.new.self c.self.inside.packed c.args.key c.lower.ensures.each)
