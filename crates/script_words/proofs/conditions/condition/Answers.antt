use Rattle.std.proofs.Common.{◌∙◌, sym}
use Rattle.script_words.specs.Conditions.{comparison_of, side_of}
use Rattle.script_words.proofs.ConditionLemmas.{sign_err, no_right, left_err, right_err, both_read}
use Rattle.script_words.proofs.conditions.condition.Goals as goal

pub returns-in_err-comparison-clause-read : goal.returns-in_err-comparison-clause-read
returns-in_err-comparison-clause-read c =
    sign_err (side_of c.args.floats c.args.left.now c.args.right.now) c.comparison.result (comparison_of c.args.sign.now) (side_of c.args.floats c.args.right.now c.args.left.now) c.in_err-comparison.field-0.0 c.from_residual.result
    c.comparison.ensures c.in_err-comparison.ensures.variant c.in_err-comparison.ensures.value c.from_residual.ensures.1

pub returns-then-not-is_side-clause-read : goal.returns-then-not-is_side-clause-read
returns-then-not-is_side-clause-read c =
    no_right (side_of c.args.floats c.args.left.now c.args.right.now) (comparison_of c.args.sign.now) (side_of c.args.floats c.args.right.now c.args.left.now) (sym c.is_side.ensures ∙ c.if-not-is_side.true)

pub returns-in_err-left_side-clause-read : goal.returns-in_err-left_side-clause-read
returns-in_err-left_side-clause-read c =
    left_err (side_of c.args.floats c.args.left.now c.args.right.now) (comparison_of c.args.sign.now) c.in_ok-comparison.comparison (side_of c.args.floats c.args.right.now c.args.left.now) c.in_err-left_side.field-0.0 c.from_residual-in_err-left_side.result
    (sym c.comparison.ensures ∙ c.in_ok-comparison.ensures.ok_part) (sym c.is_side.ensures ∙ c.if-not-is_side.false) c.in_err-left_side.ensures.read c.from_residual-in_err-left_side.ensures.1

pub returns-in_err-right_side-clause-read : goal.returns-in_err-right_side-clause-read
returns-in_err-right_side-clause-read c =
    right_err (side_of c.args.floats c.args.left.now c.args.right.now) (comparison_of c.args.sign.now) c.in_ok-comparison.comparison (side_of c.args.floats c.args.right.now c.args.left.now) c.in_ok-left_side.left_side c.in_err-right_side.field-0.0 c.from_residual-in_err-right_side.result
    (sym c.comparison.ensures ∙ c.in_ok-comparison.ensures.ok_part) (sym c.is_side.ensures ∙ c.if-not-is_side.false) c.in_ok-left_side.ensures.read c.in_err-right_side.ensures.read c.from_residual-in_err-right_side.ensures.1

pub returns-clause-read : goal.returns-clause-read
returns-clause-read c =
    both_read (side_of c.args.floats c.args.left.now c.args.right.now) (comparison_of c.args.sign.now) c.in_ok-comparison.comparison (side_of c.args.floats c.args.right.now c.args.left.now) c.in_ok-left_side.left_side c.in_ok-right_side.right_side
    (sym c.comparison.ensures ∙ c.in_ok-comparison.ensures.ok_part) c.in_ok-left_side.ensures.read c.in_ok-right_side.ensures.read
