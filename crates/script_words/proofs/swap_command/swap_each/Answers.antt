use Rattle.std.proofs.Common.{◌≡◌, ◌∙◌, sym, is_some, true, ◌∷◌, [], Some}
use Rattle.script_words.specs.Words.{words_of}
use Rattle.script_words.specs.Ranges.{spelled}
use Rattle.script_words.specs.Numbers.{trace_of}
use Rattle.script_words.specs.Readers.{field_of}
use Rattle.script_words.proofs.SwapLemmas.{first_err, no_first, no_second, second_err, swap_is, swap_ok}
use Rattle.script_words.proofs.swap_command.swap_each.Goals as goal
use Rattle.script_words.proofs.swap_command.swap_each.Goals.{then-not-is_field-via-then-not-is_field, then-not-is_field-via-else-not-is_field+then-not-is_field-2}

pub returns-then-not-is_field-clause-read : goal.returns-then-not-is_field-clause-read
returns-then-not-is_field-clause-read c =
    let words : spelled (words_of c.args.words) ≡ c.in_ok-a.a.now ∷ c.in_ok-a.b.now ∷ c.in_ok-a.first.now ∷ c.in_ok-a.second.now ∷ [] = rw c.in_ok-a.ensures.ok_part at c.range_and_two.ensures.some in
    let from : trace_of c.args.traces c.in_ok-a.a.now ≡ Some c.in_ok-a-2.a = sym c.trace.ensures ∙ c.in_ok-a-2.ensures.ok_part in
    let to : trace_of c.args.traces c.in_ok-a.b.now ≡ Some c.in_ok-b.b = sym c.trace-2.ensures ∙ c.in_ok-b.ensures.ok_part in
    let is = swap_is c.args.traces _ _ _ _ _ _ _ words from to in
    rw is (elim c.then-not-is_field.branch [
      | then-not-is_field-via-then-not-is_field w ↦ no_first _ _ _ _ (sym c.is_field.ensures ∙ w.if-not-is_field.true)
      | then-not-is_field-via-else-not-is_field+then-not-is_field-2 w ↦ no_second _ _ _ _ (sym w.is_field-else-not-is_field.ensures ∙ w.if-not-is_field-2.true)
    ])

pub returns-in_err-first-clause-read : goal.returns-in_err-first-clause-read
returns-in_err-first-clause-read c =
    let words : spelled (words_of c.args.words) ≡ c.in_ok-a.a.now ∷ c.in_ok-a.b.now ∷ c.in_ok-a.first.now ∷ c.in_ok-a.second.now ∷ [] = rw c.in_ok-a.ensures.ok_part at c.range_and_two.ensures.some in
    let from : trace_of c.args.traces c.in_ok-a.a.now ≡ Some c.in_ok-a-2.a = sym c.trace.ensures ∙ c.in_ok-a-2.ensures.ok_part in
    let to : trace_of c.args.traces c.in_ok-a.b.now ≡ Some c.in_ok-b.b = sym c.trace-2.ensures ∙ c.in_ok-b.ensures.ok_part in
    let is = swap_is c.args.traces _ _ _ _ _ _ _ words from to in
    let first : is_some (field_of c.in_ok-a.first.now) ≡ true = sym c.is_field.ensures ∙ c.if-not-is_field.false in
    let second : is_some (field_of c.in_ok-a.second.now) ≡ true = sym c.is_field-else-not-is_field.ensures ∙ c.if-not-is_field-2.false in
    rw is (first_err _ _ _ _ c.in_err-first.field-0.0 c.from_residual-in_err-first.result first second c.in_err-first.ensures.read c.from_residual-in_err-first.ensures.1)

pub returns-in_err-second-clause-read : goal.returns-in_err-second-clause-read
returns-in_err-second-clause-read c =
    let words : spelled (words_of c.args.words) ≡ c.in_ok-a.a.now ∷ c.in_ok-a.b.now ∷ c.in_ok-a.first.now ∷ c.in_ok-a.second.now ∷ [] = rw c.in_ok-a.ensures.ok_part at c.range_and_two.ensures.some in
    let from : trace_of c.args.traces c.in_ok-a.a.now ≡ Some c.in_ok-a-2.a = sym c.trace.ensures ∙ c.in_ok-a-2.ensures.ok_part in
    let to : trace_of c.args.traces c.in_ok-a.b.now ≡ Some c.in_ok-b.b = sym c.trace-2.ensures ∙ c.in_ok-b.ensures.ok_part in
    let is = swap_is c.args.traces _ _ _ _ _ _ _ words from to in
    let first : is_some (field_of c.in_ok-a.first.now) ≡ true = sym c.is_field.ensures ∙ c.if-not-is_field.false in
    let second : is_some (field_of c.in_ok-a.second.now) ≡ true = sym c.is_field-else-not-is_field.ensures ∙ c.if-not-is_field-2.false in
    rw is (second_err _ _ _ _ c.in_err-second.field-0.0 c.from_residual-in_err-second.result first second c.in_err-second.ensures.read c.from_residual-in_err-second.ensures.1)

pub returns-clause-read : goal.returns-clause-read
returns-clause-read c =
    let words : spelled (words_of c.args.words) ≡ c.in_ok-a.a.now ∷ c.in_ok-a.b.now ∷ c.in_ok-a.first.now ∷ c.in_ok-a.second.now ∷ [] = rw c.in_ok-a.ensures.ok_part at c.range_and_two.ensures.some in
    let from : trace_of c.args.traces c.in_ok-a.a.now ≡ Some c.in_ok-a-2.a = sym c.trace.ensures ∙ c.in_ok-a-2.ensures.ok_part in
    let to : trace_of c.args.traces c.in_ok-a.b.now ≡ Some c.in_ok-b.b = sym c.trace-2.ensures ∙ c.in_ok-b.ensures.ok_part in
    let is = swap_is c.args.traces _ _ _ _ _ _ _ words from to in
    rw (is, c.swap.ensures) (swap_ok _ _ _ _ c.in_ok-first.first c.in_ok-second.second c.in_ok-first.ensures.read c.in_ok-second.ensures.read)
