use Rattle.std.proofs.Common.{◌<◌, ◌+◌, ◌^◌, ◌∙◌, ℕ, List, ap, subst, sym}
use Rattle.key_counts.specs.Counts.{count_of, HasOneMore}
use Rattle.key_counts.specs.Packed.{ratio_in}
use Rattle.key_counts.specs.RatioOrder.{ratio_cmp}
use Rattle.key_counts.specs.declared.packed_ratio.PackedRatio.{PackedRatio}
use Rattle.key_counts.specs.declared.ratio.Ratio.{Ratio}
use Rattle.trace_store.proofs.SlotLemmas.{on_err}
use Rattle.range_stats.specs.Unpacked.{with_ratios}
use Rattle.range_stats.proofs.UnpackedLemmas.{count_unpacked, one_more_unpacked}
use Rattle.range_stats.proofs.coordinate_counts.CoordinateCountsCounterPackedRatio.raise.Goals as goal

pub raise-requires : goal.raise-requires
raise-requires c =
    subst (λ (n : ℕ). n + 1 < 2 ^ 64) (sym (count_unpacked c.self.inside.packed c.args.key))
    (subst (λ (es : List (Ratio × ℕ)). count_of ratio_cmp es (ratio_in c.args.key) + 1 < 2 ^ 64) (sym c.self.view_is) c.requires)

pub returns-clause-ok : goal.returns-clause-ok
returns-clause-ok c =
    subst (λ (es : List (Ratio × ℕ)). HasOneMore ratio_cmp es (with_ratios c.raise.new.self) (ratio_in c.args.key)) c.self.view_is
    (one_more_unpacked c.self.inside.packed c.raise.new.self c.args.key c.in_ok-raise.ensures.each)

pub returns-in_err-raise-clause-held : goal.returns-in_err-raise-clause-held
returns-in_err-raise-clause-held c held =
    let bad = c.in_err-raise.ensures.held
    (subst (λ (n : ℕ). 0 < n) (sym (count_unpacked c.self.inside.packed c.args.key))
    (subst (λ (es : List (Ratio × ℕ)). 0 < count_of ratio_cmp es (ratio_in c.args.key)) (sym c.self.view_is) held)) in
    cc

pub returns-in_err-raise-clause-err : goal.returns-in_err-raise-clause-err
returns-in_err-raise-clause-err c =
    on_err c.from_residual.result _ (λ (q : Ratio).
    ap (λ (es : List (PackedRatio × ℕ)). count_of ratio_cmp (with_ratios es) q) c.in_err-raise.ensures.err
    ∙ ap (λ (es : List (Ratio × ℕ)). count_of ratio_cmp es q) c.self.view_is)
