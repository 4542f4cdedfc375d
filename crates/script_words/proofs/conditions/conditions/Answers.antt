use Rattle.std.proofs.Common.{◌≡◌, ◌∙◌, sym, ap, is_some, ℕ, List, [], ◌∷◌, ◌++◌, true, rules, arith}
use Rattle.script_words.specs.Words.{words_of}
use Rattle.script_words.specs.Conditions.{conditions_of}
use Rattle.script_words.proofs.ConditionLemmas.{condition_err, last_read, more_read}
use Rattle.script_words.proofs.conditions.conditions.Goals as goal

pub returns-in_err-condition-clause-read : goal.returns-in_err-condition-clause-read
returns-in_err-condition-clause-read c =
    let some : is_some (conditions_of c.args.floats (words_of c.args.text.now)) ≡ true = sym c.are_conditions.ensures ∙ c.if-not-are_conditions.false in
    condition_err c.args.floats _ _ c.in-Some.left.now c.in-Some.sign.now c.in-Some.right.now c.in-Some.ensures.some (conditions_of c.args.floats (words_of c.args.text.now)) c.words.conditions.items
    (ap (λ (t : List ℕ). conditions_of c.args.floats (words_of t)) (sym c.new-words.ensures) ∙ c.words.invariant.0) c.in_err-condition.field-0.0 c.from_residual.result some c.in_err-condition.ensures.read c.from_residual.ensures.1

pub returns-in-None-clause-read : goal.returns-in-None-clause-read
returns-in-None-clause-read c =
    let pushed : c.push.new.self.items ≡ c.words.conditions.items ++ c.in_ok-condition.condition ∷ [] = search rules in
    rw (c.new.ensures, pushed)
    (last_read c.args.floats _ _ c.in-Some.left.now c.in-Some.sign.now c.in-Some.right.now c.in-Some.ensures.some (conditions_of c.args.floats (words_of c.args.text.now)) c.words.conditions.items
    (ap (λ (t : List ℕ). conditions_of c.args.floats (words_of t)) (sym c.new-words.ensures) ∙ c.words.invariant.0) c.in_ok-condition.condition c.in-None.ensures.none c.in_ok-condition.ensures.read)

pub words-preserved : goal.words-preserved
words-preserved c =
    let pushed : c.push.new.self.items ≡ c.words.conditions.items ++ c.in_ok-condition.condition ∷ [] = rw c.in-Ok.ensures.ok at c.push.ensures.items in (
      rw pushed
          (more_read c.args.floats _ _ c.in-Some.left.now c.in-Some.sign.now c.in-Some.right.now c.in-Some.ensures.some _ c.words.conditions.items c.words.invariant.0 c.in_ok-condition.condition _ _ c.in-Some-next.ensures.some c.in_ok-condition.ensures.read),
      grind arith,
    )
