use Rattle.std.proofs.Common.{◌≡◌, ◌∙◌, ◌<◌, sym, ap, arith, is_some, ℕ, length, List, ◌∷◌, Some, true}
use Rattle.script_words.specs.Words.{words_of}
use Rattle.script_words.specs.Ranges.{spelled}
use Rattle.script_words.specs.Numbers.{trace_of}
use Rattle.script_words.specs.Readers.{field_of, operand_of}
use Rattle.script_words.specs.HeaderCommands.{is_step_count}
use Rattle.script_words.proofs.ListLemmas.{step_count, read_is, no_field, no_source, steps_err, field_err, source_err, compute_ok}
use Rattle.script_words.proofs.compute_command.compute.Goals as goal
use Rattle.script_words.proofs.compute_command.compute.Goals.{then-not-is_field-via-then-not-is_field, then-not-is_field-via-else-not-is_field+then-not-is_operand}

four_words : {ws ys zs us : List (List ℕ)} {t u v w : List ℕ} → ws ≡ t ∷ u ∷ ys → ys ≡ v ∷ zs → zs ≡ w ∷ us → ws ≡ t ∷ u ∷ v ∷ w ∷ us
four_words {t = t} {u = u} {v = v} f g h = f ∙ ap (λ (x : List (List ℕ)). t ∷ u ∷ x) (g ∙ ap (λ (x : List (List ℕ)). v ∷ x) h)

pub returns-then-not-is_field-clause-read : goal.returns-then-not-is_field-clause-read
returns-then-not-is_field-clause-read c =
    let words : spelled (words_of c.args.words) ≡ c.in_ok-a.a.now ∷ c.in_ok-a.b.now ∷ c.in_ok-at.at.now ∷ c.in_ok-source.source.now ∷ words_of c.rest-rest.result.now =
    four_words (rw c.in_ok-a.ensures.ok_part at c.range.ensures.some) (rw c.in_ok-at.ensures.ok_part at c.next.ensures.some)
    (rw c.in_ok-source.ensures.ok_part at c.next-2.ensures.some ∙ ap (λ (t : List ℕ). c.in_ok-source.source.now ∷ words_of t) (sym c.rest-rest.ensures)) in
    let few : c.number_of_words-count.result < 17 = omega (arith, c.number_of_words-count.ensures, c.if-count-eq17.false) in
    let fits : is_step_count (length (words_of c.rest-rest.result.now)) ≡ true = step_count _ _ c.number_of_words-count.ensures few c.if-count-ne0.false in
    let from : trace_of c.args.traces c.in_ok-a.a.now ≡ Some c.in_ok-a-2.a = sym c.trace.ensures ∙ c.in_ok-a-2.ensures.ok_part in
    let to : trace_of c.args.traces c.in_ok-a.b.now ≡ Some c.in_ok-b.b = sym c.trace-2.ensures ∙ c.in_ok-b.ensures.ok_part in
    let is = read_is c.args.traces _ _ _ _ _ _ _ _ words fits from to in
    rw is (elim c.then-not-is_field.branch [
      | then-not-is_field-via-then-not-is_field w ↦ no_field _ _ _ _ _ (sym c.is_field.ensures ∙ w.if-not-is_field.true)
      | then-not-is_field-via-else-not-is_field+then-not-is_operand w ↦ no_source _ _ _ _ _ (sym w.is_operand.ensures ∙ w.if-not-is_operand.true)
    ])

pub returns-in_err-steps-clause-read : goal.returns-in_err-steps-clause-read
returns-in_err-steps-clause-read c =
    let words : spelled (words_of c.args.words) ≡ c.in_ok-a.a.now ∷ c.in_ok-a.b.now ∷ c.in_ok-at.at.now ∷ c.in_ok-source.source.now ∷ words_of c.rest-rest.result.now =
    four_words (rw c.in_ok-a.ensures.ok_part at c.range.ensures.some) (rw c.in_ok-at.ensures.ok_part at c.next.ensures.some)
    (rw c.in_ok-source.ensures.ok_part at c.next-2.ensures.some ∙ ap (λ (t : List ℕ). c.in_ok-source.source.now ∷ words_of t) (sym c.rest-rest.ensures)) in
    let few : c.number_of_words-count.result < 17 = omega (arith, c.number_of_words-count.ensures, c.if-count-eq17.false) in
    let fits : is_step_count (length (words_of c.rest-rest.result.now)) ≡ true = step_count _ _ c.number_of_words-count.ensures few c.if-count-ne0.false in
    let from : trace_of c.args.traces c.in_ok-a.a.now ≡ Some c.in_ok-a-2.a = sym c.trace.ensures ∙ c.in_ok-a-2.ensures.ok_part in
    let to : trace_of c.args.traces c.in_ok-a.b.now ≡ Some c.in_ok-b.b = sym c.trace-2.ensures ∙ c.in_ok-b.ensures.ok_part in
    let is = read_is c.args.traces _ _ _ _ _ _ _ _ words fits from to in
    let at : is_some (field_of c.in_ok-at.at.now) ≡ true = sym c.is_field.ensures ∙ c.if-not-is_field.false in
    let source : is_some (operand_of c.in_ok-source.source.now) ≡ true = sym c.is_operand.ensures ∙ c.if-not-is_operand.false in
    rw is (steps_err _ _ _ _ _ c.in_err-steps.field-0.0 c.from_residual-in_err-steps.result at source c.in_err-steps.ensures.read c.from_residual-in_err-steps.ensures.1)

pub returns-in_err-at-2-clause-read : goal.returns-in_err-at-2-clause-read
returns-in_err-at-2-clause-read c =
    let words : spelled (words_of c.args.words) ≡ c.in_ok-a.a.now ∷ c.in_ok-a.b.now ∷ c.in_ok-at.at.now ∷ c.in_ok-source.source.now ∷ words_of c.rest-rest.result.now =
    four_words (rw c.in_ok-a.ensures.ok_part at c.range.ensures.some) (rw c.in_ok-at.ensures.ok_part at c.next.ensures.some)
    (rw c.in_ok-source.ensures.ok_part at c.next-2.ensures.some ∙ ap (λ (t : List ℕ). c.in_ok-source.source.now ∷ words_of t) (sym c.rest-rest.ensures)) in
    let few : c.number_of_words-count.result < 17 = omega (arith, c.number_of_words-count.ensures, c.if-count-eq17.false) in
    let fits : is_step_count (length (words_of c.rest-rest.result.now)) ≡ true = step_count _ _ c.number_of_words-count.ensures few c.if-count-ne0.false in
    let from : trace_of c.args.traces c.in_ok-a.a.now ≡ Some c.in_ok-a-2.a = sym c.trace.ensures ∙ c.in_ok-a-2.ensures.ok_part in
    let to : trace_of c.args.traces c.in_ok-a.b.now ≡ Some c.in_ok-b.b = sym c.trace-2.ensures ∙ c.in_ok-b.ensures.ok_part in
    let is = read_is c.args.traces _ _ _ _ _ _ _ _ words fits from to in
    let at : is_some (field_of c.in_ok-at.at.now) ≡ true = sym c.is_field.ensures ∙ c.if-not-is_field.false in
    let source : is_some (operand_of c.in_ok-source.source.now) ≡ true = sym c.is_operand.ensures ∙ c.if-not-is_operand.false in
    rw is (field_err _ _ _ _ _ c.in_err-at-2.field-0.0 c.in_ok-steps.steps c.from_residual-in_err-at-2.result at source c.in_ok-steps.ensures.read c.in_err-at-2.ensures.read c.from_residual-in_err-at-2.ensures.1)

pub returns-in_err-source-2-clause-read : goal.returns-in_err-source-2-clause-read
returns-in_err-source-2-clause-read c =
    let words : spelled (words_of c.args.words) ≡ c.in_ok-a.a.now ∷ c.in_ok-a.b.now ∷ c.in_ok-at.at.now ∷ c.in_ok-source.source.now ∷ words_of c.rest-rest.result.now =
    four_words (rw c.in_ok-a.ensures.ok_part at c.range.ensures.some) (rw c.in_ok-at.ensures.ok_part at c.next.ensures.some)
    (rw c.in_ok-source.ensures.ok_part at c.next-2.ensures.some ∙ ap (λ (t : List ℕ). c.in_ok-source.source.now ∷ words_of t) (sym c.rest-rest.ensures)) in
    let few : c.number_of_words-count.result < 17 = omega (arith, c.number_of_words-count.ensures, c.if-count-eq17.false) in
    let fits : is_step_count (length (words_of c.rest-rest.result.now)) ≡ true = step_count _ _ c.number_of_words-count.ensures few c.if-count-ne0.false in
    let from : trace_of c.args.traces c.in_ok-a.a.now ≡ Some c.in_ok-a-2.a = sym c.trace.ensures ∙ c.in_ok-a-2.ensures.ok_part in
    let to : trace_of c.args.traces c.in_ok-a.b.now ≡ Some c.in_ok-b.b = sym c.trace-2.ensures ∙ c.in_ok-b.ensures.ok_part in
    let is = read_is c.args.traces _ _ _ _ _ _ _ _ words fits from to in
    let at : is_some (field_of c.in_ok-at.at.now) ≡ true = sym c.is_field.ensures ∙ c.if-not-is_field.false in
    let source : is_some (operand_of c.in_ok-source.source.now) ≡ true = sym c.is_operand.ensures ∙ c.if-not-is_operand.false in
    rw is (source_err _ _ _ _ _ c.in_err-source-2.field-0.0 c.in_ok-steps.steps c.from_residual-in_err-source-2.result at source c.in_ok-steps.ensures.read c.in_err-source-2.ensures.read c.from_residual-in_err-source-2.ensures.1)

pub returns-clause-read : goal.returns-clause-read
returns-clause-read c =
    let words : spelled (words_of c.args.words) ≡ c.in_ok-a.a.now ∷ c.in_ok-a.b.now ∷ c.in_ok-at.at.now ∷ c.in_ok-source.source.now ∷ words_of c.rest-rest.result.now =
    four_words (rw c.in_ok-a.ensures.ok_part at c.range.ensures.some) (rw c.in_ok-at.ensures.ok_part at c.next.ensures.some)
    (rw c.in_ok-source.ensures.ok_part at c.next-2.ensures.some ∙ ap (λ (t : List ℕ). c.in_ok-source.source.now ∷ words_of t) (sym c.rest-rest.ensures)) in
    let few : c.number_of_words-count.result < 17 = omega (arith, c.number_of_words-count.ensures, c.if-count-eq17.false) in
    let fits : is_step_count (length (words_of c.rest-rest.result.now)) ≡ true = step_count _ _ c.number_of_words-count.ensures few c.if-count-ne0.false in
    let from : trace_of c.args.traces c.in_ok-a.a.now ≡ Some c.in_ok-a-2.a = sym c.trace.ensures ∙ c.in_ok-a-2.ensures.ok_part in
    let to : trace_of c.args.traces c.in_ok-a.b.now ≡ Some c.in_ok-b.b = sym c.trace-2.ensures ∙ c.in_ok-b.ensures.ok_part in
    let is = read_is c.args.traces _ _ _ _ _ _ _ _ words fits from to in
    rw is (compute_ok _ _ _ _ _ c.in_ok-at-2.at c.in_ok-source-2.source c.in_ok-steps.steps c.in_ok-at-2.ensures.read c.in_ok-source-2.ensures.read c.in_ok-steps.ensures.read)
