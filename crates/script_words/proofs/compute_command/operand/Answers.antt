use Rattle.std.proofs.Common.{◌∙◌, sym, option_map}
use Rattle.bench_rules.specs.declared.operand.Operand.TheVariants.{Number}
use Rattle.script_words.specs.Numbers.{is_to_be_number, number_of}
use Rattle.script_words.specs.Readers.{field_of}
use Rattle.script_words.proofs.ListLemmas.{field_operand_err}
use Rattle.script_words.proofs.compute_command.operand.Goals as goal

pub returns-in_err-field-clause-read : goal.returns-in_err-field-clause-read
returns-in_err-field-clause-read c =
    field_operand_err (is_to_be_number c.args.word.now) (option_map Number (number_of c.args.word.now)) (field_of c.args.word.now) c.in_err-field.field-0.0 c.from_residual.result
    (sym c.is_number_like.ensures ∙ c.if-is_number_like.false) c.in_err-field.ensures.read c.from_residual.ensures.1
