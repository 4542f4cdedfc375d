use Rattle.std.proofs.Common.{◌∙◌, sym}
use Rattle.script_words.specs.Conditions.{decimal_of, is_to_be_decimal}
use Rattle.script_words.specs.Readers.{operand_of}
use Rattle.script_words.proofs.ConditionLemmas.{by_operand}
use Rattle.script_words.proofs.conditions.is_side.Goals as goal

pub returns-else-is_decimal_like : goal.returns-else-is_decimal_like
returns-else-is_decimal_like c =
    c.is_operand.ensures
    ∙ sym (by_operand (is_to_be_decimal c.args.floats c.args.word.now c.args.other.now) (decimal_of c.args.word.now) (operand_of c.args.word.now) (sym c.is_decimal_like.ensures ∙ c.if-is_decimal_like.false))
