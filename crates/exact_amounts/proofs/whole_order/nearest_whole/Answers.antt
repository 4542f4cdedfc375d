use Rattle.std.proofs.Common.{◌≡◌, ◌∙◌, ◌*◌, ◌/◌, ◌%◌, ◌^◌, [], ◌∷◌, ◌++◌, ap, arith, lit≤}
use Rattle.float_sum.specs.Sums.{total_of}
use Rattle.exact_amounts.proofs.SideLemmas.{pieces_sum, whole_of_value, first_unit, second_unit, third_unit}
use Rattle.exact_amounts.proofs.whole_order.nearest_whole.Goals as goal

pub returns : goal.returns
returns c =
    let n = c.args.size in
    let x = c.scaled.result in
    let y = c.scaled-2.result in
    let z = c.scaled-3.result in
    let all : c.add-3.new.self ≡ x ∷ y ∷ z ∷ [] =
    c.add-3.ensures ∙ ap (λ l. l ++ z ∷ []) (c.add-2.ensures ∙ ap (λ l. l ++ y ∷ []) (c.add.ensures ∙ ap (λ l. l ++ x ∷ []) c.new-total.ensures)) in
    c.sum.ensures ∙ ap total_of all
    ∙ pieces_sum x y z (n % 2 ^ 53 * 2 ^ 0) (n / 2 ^ 53 % 2 ^ 53 * 2 ^ 53) (n / 2 ^ 53 / 2 ^ 53 * 2 ^ 106) n
    (whole_of_value x _ (c.scaled.ensures 0 (lit≤ tt) first_unit)) (whole_of_value y _ (c.scaled-2.ensures 53 (lit≤ tt) second_unit)) (whole_of_value z _ (c.scaled-3.ensures 106 (lit≤ tt) third_unit)) (omega arith)
