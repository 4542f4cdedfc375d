use Rattle.std.proofs.Common.{◌∙◌, sym, ap, is_some, not}
use Rattle.script_words.specs.Conditions.{comparison_of, side_of}
use Rattle.script_words.proofs.ConditionLemmas.{no_left, no_sign, as_right}
use Rattle.script_words.proofs.conditions.is_condition.Goals as goal

pub returns-then-not-is_side : goal.returns-then-not-is_side
returns-then-not-is_side c =
    sym (no_left (side_of c.args.floats c.args.left.now c.args.right.now) (comparison_of c.args.sign.now) (side_of c.args.floats c.args.right.now c.args.left.now) (sym c.is_side.ensures ∙ c.if-not-is_side.true))

pub returns-then-is_none : goal.returns-then-is_none
returns-then-is_none c =
    sym (no_sign (side_of c.args.floats c.args.left.now c.args.right.now) (comparison_of c.args.sign.now) (side_of c.args.floats c.args.right.now c.args.left.now)
    (ap is_some (sym c.comparison.ensures) ∙ c.is_none.ensures ∙ ap not c.if-is_none.true))

pub returns : goal.returns
returns c =
    c.is_side-2.ensures
    ∙ sym (as_right (side_of c.args.floats c.args.left.now c.args.right.now) (comparison_of c.args.sign.now) (side_of c.args.floats c.args.right.now c.args.left.now) (sym c.is_side.ensures ∙ c.if-not-is_side.false)
    (ap is_some (sym c.comparison.ensures) ∙ c.is_none.ensures ∙ ap not c.if-is_none.false))
