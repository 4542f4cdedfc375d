use Rattle.std.proofs.Common.{◌≡◌, ◌∙◌, sym, true, false}
use Rattle.script_words.specs.Words.{words_of}
use Rattle.script_words.specs.Conditions.{begins_conditions}
use Rattle.script_words.proofs.CutLemmas.{nothing_cut, one_cut_more, no_conditions, front_is, behind_is, cut_boundary, cut_within}
use Rattle.script_words.proofs.conditions.split_where.Goals as goal

pub words-init : goal.words-init
words-init c = nothing_cut c.args.text.now c.new-words.result c.new-words.ensures

pub words-preserved : goal.words-preserved
words-preserved c =
    let none : begins_conditions (words_of c.words.words) ≡ false = rw c.rest.ensures at (sym c.begins_conditions.ensures ∙ c.words-test.true) in
    one_cut_more c.args.text.now c.words.words c.next.new.self c.in_ok-next.field-0.now c.words.invariant c.in_ok-next.ensures.some c.in_ok-next.ensures.rest none

pub returns-in_err-next-clause-none : goal.returns-in_err-next-clause-none
returns-in_err-next-clause-none c =
    rw c.from_residual.ensures (no_conditions c.args.text.now c.words.words c.words.invariant c.in_err-next.ensures.none)

pub overflow_sub-text : goal.overflow_sub-text
overflow_sub-text c = rw c.rest-rest.ensures (cut_within c.args.text.now c.words.words c.words.invariant)

pub split_at-requires : goal.split_at-requires
split_at-requires c = cut_boundary c.args.text.now c.rest-rest.result.now (rw c.rest-rest.ensures c.words.invariant) c.rest-rest.utf8

pub returns-clause-front : goal.returns-clause-front
returns-clause-front c =
    let begin : begins_conditions (words_of c.words.words) ≡ true = rw c.rest.ensures at (sym c.begins_conditions.ensures ∙ c.words-test.false) in
    front_is c.args.text.now c.words.words c.next-2.new.self c.in_ok-next-2.field-0.now c.words.invariant begin c.in_ok-next-2.ensures.some c.split_at.result.0.now
    (rw c.rest-rest.ensures at c.split_at.ensures.front)

pub returns-clause-back : goal.returns-clause-back
returns-clause-back c =
    let begin : begins_conditions (words_of c.words.words) ≡ true = rw c.rest.ensures at (sym c.begins_conditions.ensures ∙ c.words-test.false) in
    rw c.rest-2.ensures (behind_is c.args.text.now c.words.words c.next-2.new.self c.in_ok-next-2.field-0.now c.words.invariant begin c.in_ok-next-2.ensures.some)
