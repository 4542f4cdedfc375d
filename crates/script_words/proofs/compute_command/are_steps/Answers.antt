use Rattle.std.proofs.Common.{◌≡◌, ◌∙◌, sym, ap, is_some, not, inl, inr, ℕ, List, Option}
use Rattle.bench_rules.specs.declared.operator.Operator.{Operator}
use Rattle.script_words.specs.Words.{words_of}
use Rattle.script_words.specs.Readers.{operator_of, steps_of}
use Rattle.script_words.proofs.ListLemmas.{are_more, are_none}
use Rattle.script_words.proofs.compute_command.are_steps.Goals as goal
use Rattle.script_words.proofs.compute_command.are_steps.Goals.{then-is_none-via-then-is_none, then-is_none-via-else-is_none+then-not-is_operand}

pub returns-then-is_none : goal.returns-then-is_none
returns-then-is_none c =
    let all : is_some (steps_of (words_of c.words.words)) ≡ is_some (steps_of (words_of c.args.text.now)) =
    c.words.invariant ∙ ap (λ (t : List ℕ). is_some (steps_of (words_of t))) c.new-words.ensures in
    let same : is_some (operator_of c.in-Some.word.now) ≡ is_some c.operator.result = ap (λ (o : Option Operator). is_some o) (sym c.operator.ensures) in
    elim c.then-is_none.branch [
      | then-is_none-via-then-is_none w ↦
          are_none _ _ _ c.in-Some.word.now c.in-Some-next.of.now c.in-Some.ensures.some c.in-Some-next.ensures.some _ (inl (same ∙ c.is_none.ensures ∙ ap not w.if-is_none.true)) all
      | then-is_none-via-else-is_none+then-not-is_operand w ↦
          are_none _ _ _ c.in-Some.word.now c.in-Some-next.of.now c.in-Some.ensures.some c.in-Some-next.ensures.some _ (inr (sym w.is_operand.ensures ∙ w.if-not-is_operand.true)) all
    ]

pub words-preserved : goal.words-preserved
words-preserved c =
    let same : is_some (operator_of c.in-Some.word.now) ≡ is_some c.operator.result = ap (λ (o : Option Operator). is_some o) (sym c.operator.ensures) in
    are_more _ _ _ c.in-Some.word.now c.in-Some-next.of.now c.in-Some.ensures.some c.in-Some-next.ensures.some _ (same ∙ c.is_none.ensures ∙ ap not c.if-is_none.false)
    (sym c.is_operand.ensures ∙ c.if-not-is_operand.false) c.words.invariant
