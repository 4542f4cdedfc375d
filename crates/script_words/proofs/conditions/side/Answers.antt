use Rattle.std.proofs.Common.{◌∙◌, sym}
use Rattle.script_words.specs.Conditions.{decimal_of, is_to_be_decimal}
use Rattle.script_words.specs.Readers.{operand_of}
use Rattle.script_words.proofs.ConditionLemmas.{operand_err, operand_read}
use Rattle.script_words.proofs.conditions.side.Goals as goal

pub returns-in_err-operand-clause-read : goal.returns-in_err-operand-clause-read
returns-in_err-operand-clause-read c =
    operand_err (is_to_be_decimal c.args.floats c.args.word.now c.args.other.now) (decimal_of c.args.word.now) (operand_of c.args.word.now) c.in_err-operand.field-0.0 c.from_residual.result
    (sym c.is_decimal_like.ensures ∙ c.if-is_decimal_like.false) c.in_err-operand.ensures.read c.from_residual.ensures.1

pub returns-in_ok-operand-clause-read : goal.returns-in_ok-operand-clause-read
returns-in_ok-operand-clause-read c =
    operand_read (is_to_be_decimal c.args.floats c.args.word.now c.args.other.now) (decimal_of c.args.word.now) (operand_of c.args.word.now) c.in_ok-operand.field-0
    (sym c.is_decimal_like.ensures ∙ c.if-is_decimal_like.false) c.in_ok-operand.ensures.read
