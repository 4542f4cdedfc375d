use Rattle.std.proofs.Common.{◌∙◌, sym, ap, refl}
use Rattle.num_order.specs.declared.order.Order.{Order}
use Rattle.frame_cut.specs.BinaryHeader.{is_other_order}
use Rattle.frame_cut.proofs.FrontLemmas.{tells_to}
use Rattle.frame_cut.proofs.OrderLemmas.{order_passed, from_third}
use Rattle.frame_cut.proofs.head_checks.head_from.Goals as goal

pub returns-clause-told : goal.returns-clause-told
returns-clause-told c = λ all begun.
    let reading = c.args.reading in
    let bin = c.args.bin.now in
    tells_to c.with_order.result _ _
    (ap (λ (o : Order). from_third reading o bin all) c.order_of.ensures
    ∙ order_passed reading bin all _
    (sym c.is_pair_swapped.ensures ∙ c.if-is_pair_swapped.false)
    (sym (c.is_other_order.ensures ∙ ap (is_other_order reading.order) c.told_order.ensures) ∙ c.if-is_other_order.false)
    refl)
    (c.with_order.ensures.told all begun)
