use Rattle.std.proofs.Common.{◌≡◌, ◌∙◌, ◌∷◌, [], ◌++◌, sym, arith}
use Rattle.script_words.proofs.SortLemmas.{sorted_step, sorted_fault}
use Rattle.script_words.proofs.sort_command.sorted_fields.Goals as goal

pub words-preserved : goal.words-preserved
words-preserved c =
    let pushed : c.push.new.self.items ≡ c.words.fields.items ++ c.in_ok-at.at ∷ [] = rw c.in-Ok.ensures.ok at c.push.ensures.items in
    (rw pushed (sorted_step _ _ _ c.in-Some.word.now c.in_ok-at.at c.words.fields.items c.words.invariant.0 c.in-Some.ensures.some (rw c.without_sign.ensures at c.in_ok-at.ensures.read)), grind arith)

pub returns-in_err-at-clause-read : goal.returns-in_err-at-clause-read
returns-in_err-at-clause-read c =
    sorted_fault _ _ _ c.in-Some.word.now c.words.fields.items c.in_err-at.field-0.0 c.from_residual.result (rw c.new-words.ensures at c.words.invariant.0) c.in-Some.ensures.some (sym c.are_sorted_fields.ensures ∙ c.if-not-are_sorted_fields.false) (rw c.without_sign.ensures at c.in_err-at.ensures.read) c.from_residual.ensures.1
