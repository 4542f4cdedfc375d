use Rattle.std.proofs.Common.{◌≡◌, ◌∙◌, Equal, SFits, rules, sym, ap}
use lib.Ieee.{inf}
use Rattle.std.specs.Int.{w64}
use Rattle.std.proofs.lemmas.Int.{to_z-of_z}
use Rattle.float_codes.specs.Ranks.{rank_of}
use Rattle.exact_amounts.proofs.PlaceLemmas.{amount_at, plus_bits, minus_bits, infinity_place}
use Rattle.exact_amounts.proofs.amount.infinity.Goals.{then-negative, else-negative}
use Rattle.exact_amounts.proofs.amount.infinity.Goals as goal

pub returns : goal.returns
returns c =
    let fit : SFits w64 c.rank_of.result = search rules in
    let is : c.if-negative.value ≡ inf c.args.negative = elim c.if-negative.branch [
      | then-negative w ↦ w.value-is ∙ minus_bits ∙ sym (ap inf w.if-negative.true)
      | else-negative w ↦ w.value-is ∙ plus_bits ∙ sym (ap inf w.if-negative.false)
    ] in
    c.at.ensures ∙ ap (λ r. amount_at r Equal) (to_z-of_z w64 c.rank_of.result fit ∙ c.rank_of.ensures ∙ ap rank_of is) ∙ infinity_place c.args.negative
