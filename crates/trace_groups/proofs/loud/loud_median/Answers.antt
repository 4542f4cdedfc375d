use Rattle.std.proofs.Common.{◌∙◌, sym}
use Rattle.trace_groups.proofs.LoudLemmas.{beside, parted}
use Rattle.trace_groups.proofs.loud.loud_median.Goals as goal

pub returns-then-not-has_loud_around : goal.returns-then-not-has_loud_around
returns-then-not-has_loud_around c =
    let all = parted c.args.floats c.in_ok-front.median c.in_ok-front.front.now c.in_ok-front.median c.in_ok-front.back.now c.args.amounts.now c.in_ok-front.ensures.same in
    sym (beside c.args.floats c.in_ok-front.median c.args.amounts.now _ (sym c.in_ok-front.ensures.median) (all ∙ sym c.if-not-has_loud_around.ensures))

pub returns : goal.returns
returns c =
    let all = parted c.args.floats c.in_ok-front.median c.in_ok-front.front.now c.in_ok-front.median c.in_ok-front.back.now c.args.amounts.now c.in_ok-front.ensures.same in
    sym (beside c.args.floats c.in_ok-front.median c.args.amounts.now _ (sym c.in_ok-front.ensures.median) (all ∙ sym c.if-not-has_loud_around.ensures))
