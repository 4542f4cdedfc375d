use Rattle.std.proofs.Common.{◌≡◌, ◌∙◌, sym, ap, is_some, ℕ, List}
use Rattle.script_words.specs.Words.{words_of}
use Rattle.script_words.specs.Conditions.{conditions_of}
use Rattle.script_words.proofs.ConditionLemmas.{is_none_here, is_last, is_one_more}
use Rattle.script_words.proofs.conditions.are_conditions.Goals as goal

pub returns-then-not-is_condition : goal.returns-then-not-is_condition
returns-then-not-is_condition c =
    let all : is_some (conditions_of c.args.floats (words_of c.words.words)) ≡ is_some (conditions_of c.args.floats (words_of c.args.text.now)) =
    c.words.invariant ∙ ap (λ (t : List ℕ). is_some (conditions_of c.args.floats (words_of t))) c.new-words.ensures in
    sym (sym all ∙ is_none_here c.args.floats _ _ c.in-Some.left.now c.in-Some.sign.now c.in-Some.right.now c.in-Some.ensures.some (sym c.is_condition.ensures ∙ c.if-not-is_condition.true))

pub returns-in-None : goal.returns-in-None
returns-in-None c =
    let all : is_some (conditions_of c.args.floats (words_of c.words.words)) ≡ is_some (conditions_of c.args.floats (words_of c.args.text.now)) =
    c.words.invariant ∙ ap (λ (t : List ℕ). is_some (conditions_of c.args.floats (words_of t))) c.new-words.ensures in
    sym (sym all ∙ is_last c.args.floats _ _ c.in-Some.left.now c.in-Some.sign.now c.in-Some.right.now c.in-Some.ensures.some c.in-None.ensures.none (sym c.is_condition.ensures ∙ c.if-not-is_condition.false))

pub words-preserved : goal.words-preserved
words-preserved c =
    sym (is_one_more c.args.floats _ _ c.in-Some.left.now c.in-Some.sign.now c.in-Some.right.now c.in-Some.ensures.some _ _ c.in-Some-next.ensures.some (sym c.is_condition.ensures ∙ c.if-not-is_condition.false)) ∙ c.words.invariant
