use Rattle.std.proofs.Common.{◌≡◌, ◌∷◌, []}
use Rattle.script_words.specs.Words.{words_of}
use Rattle.script_words.proofs.ParseLemmas.{getbin_ok, getbin_err}
use Rattle.script_words.proofs.parse.getbin.Goals as goal

pub returns-in_err-at-2-clause-read : goal.returns-in_err-at-2-clause-read
returns-in_err-at-2-clause-read c =
    let words : words_of c.args.words ≡ c.in_ok-at.at.now ∷ [] = rw c.in_ok-at.ensures.ok_part at c.one.ensures.some in
    getbin_err _ _ words c.in_err-at-2.field-0.0 c.from_residual-in_err-at-2.result c.from_residual-in_err-at-2.ensures.1 c.in_err-at-2.ensures.read

pub returns-clause-read : goal.returns-clause-read
returns-clause-read c =
    let words : words_of c.args.words ≡ c.in_ok-at.at.now ∷ [] = rw c.in_ok-at.ensures.ok_part at c.one.ensures.some in
    getbin_ok _ _ words c.in_ok-at-2.at c.in_ok-at-2.ensures.read
