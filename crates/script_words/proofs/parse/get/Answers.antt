use Rattle.std.proofs.Common.{◌≡◌, ◌∙◌, sym, ◌∷◌, [], Some}
use Rattle.script_words.specs.Words.{words_of}
use Rattle.script_words.specs.Numbers.{trace_of}
use Rattle.script_words.proofs.ParseLemmas.{get_ok, get_err}
use Rattle.script_words.proofs.parse.get.Goals as goal

pub returns-in_err-at-clause-read : goal.returns-in_err-at-clause-read
returns-in_err-at-clause-read c =
    let words : words_of c.args.words ≡ c.in_ok-p.p.now ∷ c.in_ok-p.at.now ∷ [] = rw c.in_ok-p.ensures.ok_part at c.two.ensures.some in
    let position : trace_of c.args.traces c.in_ok-p.p.now ≡ Some c.in_ok-p-2.p = sym c.trace.ensures ∙ c.in_ok-p-2.ensures.ok_part in
    get_err c.args.traces _ _ _ _ words position c.in_err-at.field-0.0 c.from_residual-in_err-at.result c.from_residual-in_err-at.ensures.1 c.in_err-at.ensures.read

pub returns-clause-read : goal.returns-clause-read
returns-clause-read c =
    let words : words_of c.args.words ≡ c.in_ok-p.p.now ∷ c.in_ok-p.at.now ∷ [] = rw c.in_ok-p.ensures.ok_part at c.two.ensures.some in
    let position : trace_of c.args.traces c.in_ok-p.p.now ≡ Some c.in_ok-p-2.p = sym c.trace.ensures ∙ c.in_ok-p-2.ensures.ok_part in
    get_ok c.args.traces _ _ _ _ words position c.in_ok-at.at c.in_ok-at.ensures.read
