use Rattle.std.proofs.Common.{◌∙◌, ap, ap₂, ◌*ℤ◌, pos, subst, sym, SFits, w64, ℤ, to_z, of_z}
use Rattle.std.proofs.lemmas.Int.{to_z-of_z}
use Rattle.key_counts.specs.Parts.{FitsCoordinate, fits_in_word}
use Rattle.key_counts.specs.declared.ratio.Ratio.{Ratio}
use Rattle.key_counts.proofs.ProductLemmas.{across_is, across_product}
use Rattle.key_counts.proofs.packed_ratio.PackedRatio.across.Goals as goal

pub overflow_mul-result : goal.overflow_mul-result
overflow_mul-result c =
    let own : FitsCoordinate c.ratio.result = fits_in_word c.ratio.result c.args.self.bits (ap (λ (r : Ratio). r.num) c.ratio.ensures) (ap (λ (r : Ratio). r.den) c.ratio.ensures) in
    let its : FitsCoordinate c.ratio-2.result = fits_in_word c.ratio-2.result c.args.other.bits (ap (λ (r : Ratio). r.num) c.ratio-2.ensures) (ap (λ (r : Ratio). r.den) c.ratio-2.ensures) in
    subst (λ (z : ℤ). SFits w64 z) (sym (across_is c.ratio.result c.ratio-2.result _ own its c.from.ensures)) (across_product c.ratio.result c.ratio-2.result own its)

pub returns : goal.returns
returns c =
    let own : FitsCoordinate c.ratio.result = fits_in_word c.ratio.result c.args.self.bits (ap (λ (r : Ratio). r.num) c.ratio.ensures) (ap (λ (r : Ratio). r.den) c.ratio.ensures) in
    let its : FitsCoordinate c.ratio-2.result = fits_in_word c.ratio-2.result c.args.other.bits (ap (λ (r : Ratio). r.num) c.ratio-2.ensures) (ap (λ (r : Ratio). r.den) c.ratio-2.ensures) in
    ap (λ z. to_z w64 (of_z w64 z)) (across_is c.ratio.result c.ratio-2.result _ own its c.from.ensures) ∙ to_z-of_z w64 _ (across_product c.ratio.result c.ratio-2.result own its)
    ∙ ap₂ (λ n d. n *ℤ pos d) (ap (λ (r : Ratio). r.num) c.ratio.ensures) (ap (λ (r : Ratio). r.den) c.ratio-2.ensures)
