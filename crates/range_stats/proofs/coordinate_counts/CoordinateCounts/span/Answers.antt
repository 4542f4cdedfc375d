use Rattle.std.proofs.Common.{ℕ, List, Option, None, subst, sym}
use Rattle.key_counts.specs.Counts.{count_of}
use Rattle.key_counts.specs.Packed.{ratio_in}
use Rattle.key_counts.specs.RatioOrder.{ratio_cmp}
use Rattle.key_counts.specs.declared.ratio.Ratio.{Ratio}
use Rattle.key_counts.specs.Ends.{IsBetween, IsSpan}
use Rattle.range_stats.proofs.UnpackedLemmas.{none_unpacked, between_unpacked}
use Rattle.range_stats.proofs.coordinate_counts.CoordinateCounts.span.Goals as goal

pub returns-in_err-least : goal.returns-in_err-least
returns-in_err-least c =
    subst (λ (r : Option (Ratio × Ratio)). IsSpan ratio_cmp (count_of ratio_cmp c.args.self.now) r) (sym c.from_residual.ensures)
    (subst (λ (es : List (Ratio × ℕ)). IsSpan ratio_cmp (count_of ratio_cmp es) None) c.self.view_is
    (none_unpacked c.self.inside.packed c.in_err-least.ensures))

pub returns : goal.returns
returns c =
    rw (c.ratio.ensures, c.ratio-2.ensures)
    (subst (λ (es : List (Ratio × ℕ)). IsBetween ratio_cmp (count_of ratio_cmp es) (ratio_in c.in_ok-least.least) (ratio_in c.in_ok-least.greatest)) c.self.view_is
    (between_unpacked c.self.inside.packed _ _ c.in_ok-least.ensures))
