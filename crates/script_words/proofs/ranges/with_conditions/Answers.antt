use Rattle.std.proofs.Common.{◌≡◌, ◌∙◌, sym, true}
use Rattle.script_words.specs.Words.{words_of}
use Rattle.script_words.specs.Conditions.{has_conditions}
use Rattle.script_words.proofs.RangeLemmas.{chosen_ok, chosen_err, chosen_want}
use Rattle.script_words.proofs.ranges.with_conditions.Goals as goal

pub returns-in_err-conditions-in-Ok-clause-read : goal.returns-in_err-conditions-in-Ok-clause-read
returns-in_err-conditions-in-Ok-clause-read c =
    let has : has_conditions (words_of c.args.behind.now) ≡ true = sym c.has_conditions.ensures ∙ c.if-not-has_conditions.false in
    chosen_err c.args.floats c.args.traces c.args.which (words_of c.args.front.now) (words_of c.args.behind.now) has c.in-Ok.command c.in_err-conditions-in-Ok.field-0.0 c.from_residual.result
    (rw c.new.ensures at c.in-Ok.ensures.read) c.in_err-conditions-in-Ok.ensures.read c.from_residual.ensures.1

pub returns-in_ok-conditions-in-Ok-clause-read : goal.returns-in_ok-conditions-in-Ok-clause-read
returns-in_ok-conditions-in-Ok-clause-read c =
    let has : has_conditions (words_of c.args.behind.now) ≡ true = sym c.has_conditions.ensures ∙ c.if-not-has_conditions.false in
    chosen_ok c.args.floats c.args.traces c.args.which (words_of c.args.front.now) (words_of c.args.behind.now) has c.is_of_none.result c.in-Ok.command c.under.result c.in_ok-conditions-in-Ok.conditions
    c.is_of_none.ensures (rw c.new.ensures at c.in-Ok.ensures.read) c.in_ok-conditions-in-Ok.ensures.read c.under.ensures

pub returns-in-Err-OutOfMemory-clause-read : goal.returns-in-Err-OutOfMemory-clause-read
returns-in-Err-OutOfMemory-clause-read c =
    let has : has_conditions (words_of c.args.behind.now) ≡ true = sym c.has_conditions.ensures ∙ c.if-not-has_conditions.false in
    chosen_want c.args.floats c.args.traces c.args.which (words_of c.args.front.now) (words_of c.args.behind.now) has c.fault_without_memory.result
    (rw (c.in-Err-OutOfMemory.field-0-is, c.new.ensures) at c.in-Err-OutOfMemory.ensures.read) c.fault_without_memory.ensures
