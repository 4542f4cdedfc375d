use Rattle.std.proofs.Common.{◌≡◌, ◌∙◌, negsuc, ◌-ℤ◌, SFits, to_z, of_z, rules, ap}
use Rattle.std.specs.Int.{w64}
use Rattle.std.proofs.lemmas.Int.{to_z-of_z}
use Rattle.exact_amounts.proofs.PlaceLemmas.{amount_at, minus_fits, placed_minus}
use Rattle.exact_amounts.proofs.amount.placed.Goals as goal

pub returns-then-negative : goal.returns-then-negative
returns-then-negative c a d p e f =
    let r = c.rank_of-rank.result in
    let fit : SFits w64 r = search rules in
    let less = minus_fits a d p c.args.near e c.args.side f r c.rank_of-rank.ensures in
    let rank : to_z w64 (of_z w64 (negsuc 0 -ℤ to_z w64 (of_z w64 r))) ≡ negsuc 0 -ℤ r =
    ap (λ z. to_z w64 (of_z w64 (negsuc 0 -ℤ z))) (to_z-of_z w64 r fit) ∙ to_z-of_z w64 (negsuc 0 -ℤ r) less in
    c.at.ensures ∙ (λ i. amount_at (rank i) (c.reverse.ensures i)) ∙ placed_minus a d p c.args.near e c.args.side f r c.rank_of-rank.ensures c.args.negative c.if-negative.true
