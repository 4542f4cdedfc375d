use Rattle.std.proofs.Common.{◌≡◌, ◌∙◌, sym, ap, is_some, ℕ, List, ◌∷◌, [], ◌++◌, Option, Some, option_map, true, arith}
use Rattle.script_words.specs.Words.{words_of}
use Rattle.script_words.specs.Readers.{operand_of, operator_of, steps_of}
use Rattle.script_words.proofs.ListLemmas.{Steps, operand_fault, steps_from, steps_step, want_memory}
use Rattle.script_words.proofs.compute_command.steps.Goals as goal

pub returns-in_err-of-2-clause-read : goal.returns-in_err-of-2-clause-read
returns-in_err-of-2-clause-read c =
    let some : is_some (steps_of (words_of c.args.text.now)) ≡ true = sym c.are_steps.ensures ∙ c.if-not-are_steps.false in
    let second : words_of c.next.new.self ≡ c.in_ok-of.of.now ∷ words_of c.next-in-Some.new.self = rw c.in_ok-of.ensures.ok_part at c.next-in-Some.ensures.some in
    let with : operator_of c.in-Some.word.now ≡ Some c.in_ok-with.with = sym c.operator.ensures ∙ c.in_ok-with.ensures.ok_part in
    let all : steps_of (words_of c.args.text.now) ≡ option_map (λ ys. c.words.steps.items ++ ys) (steps_of (words_of c.words.words)) =
    ap (λ (t : List ℕ). steps_of (words_of t)) (sym c.new-words.ensures) ∙ c.words.invariant.0 in
    operand_fault (operand_of c.in_ok-of.of.now) (λ y. option_map (λ ss. (c.in_ok-with.with, y) ∷ ss) (steps_of (words_of c.next-in-Some.new.self))) c.words.steps.items (steps_of (words_of c.args.text.now))
    c.in_err-of-2.field-0.0 c.from_residual-in_err-of-2.result
    (all ∙ ap (λ (o : Option Steps). option_map (λ ys. c.words.steps.items ++ ys) o) (steps_from _ _ _ c.in-Some.word.now c.in_ok-of.of.now c.in-Some.ensures.some second c.in_ok-with.with with))
    some c.in_err-of-2.ensures.read c.from_residual-in_err-of-2.ensures.1

pub returns-in_default-told_back-clause-read : goal.returns-in_default-told_back-clause-read
returns-in_default-told_back-clause-read c = want_memory (steps_of (words_of c.args.text.now)) (sym c.are_steps.ensures ∙ c.if-not-are_steps.false)

pub words-preserved : goal.words-preserved
words-preserved c =
    let second : words_of c.next.new.self ≡ c.in_ok-of.of.now ∷ words_of c.next-in-Some.new.self = rw c.in_ok-of.ensures.ok_part at c.next-in-Some.ensures.some in
    let with : operator_of c.in-Some.word.now ≡ Some c.in_ok-with.with = sym c.operator.ensures ∙ c.in_ok-with.ensures.ok_part in
    let pushed : c.push.new.self.items ≡ c.words.steps.items ++ (c.in_ok-with.with, c.in_ok-of-2.of) ∷ [] = rw c.in-Ok.ensures.ok at c.push.ensures.items in
    (rw pushed (steps_step _ _ _ c.in-Some.word.now c.in_ok-of.of.now c.in-Some.ensures.some second _ c.in_ok-with.with c.in_ok-of-2.of c.words.steps.items c.words.invariant.0 with c.in_ok-of-2.ensures.read), grind arith)
