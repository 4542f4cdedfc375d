use Rattle.std.proofs.Common.{◌≡◌, ◌∷◌, []}
use Rattle.script_words.specs.Words.{words_of}
use Rattle.script_words.proofs.ParseLemmas.{map_ok, map_err, map_lost}
use Rattle.script_words.proofs.parse.map_name.Goals as goal

pub returns-in_err-at-clause-read : goal.returns-in_err-at-clause-read
returns-in_err-at-clause-read c =
    let words : words_of c.args.words ≡ c.in_ok-name.name.now ∷ c.in_ok-name.at.now ∷ [] = rw c.in_ok-name.ensures.ok_part at c.two.ensures.some in
    map_err _ _ _ words c.in_err-at.field-0.0 c.from_residual-in_err-at.result c.from_residual-in_err-at.ensures.1 c.in_err-at.ensures.read

pub returns-in_err-name-2-clause-read : goal.returns-in_err-name-2-clause-read
returns-in_err-name-2-clause-read c =
    let words : words_of c.args.words ≡ c.in_ok-name.name.now ∷ c.in_ok-name.at.now ∷ [] = rw c.in_ok-name.ensures.ok_part at c.two.ensures.some in
    map_lost _ _ _ words c.in_ok-at.at c.from_residual-in_err-name-2.result (rw c.in_err-name-2.ensures.err at c.from_residual-in_err-name-2.ensures.1) c.in_ok-at.ensures.read

pub returns-clause-read : goal.returns-clause-read
returns-clause-read c =
    let words : words_of c.args.words ≡ c.in_ok-name.name.now ∷ c.in_ok-name.at.now ∷ [] = rw c.in_ok-name.ensures.ok_part at c.two.ensures.some in
    rw c.in_ok-name-2.ensures.ok (map_ok _ _ _ words c.in_ok-at.at c.in_ok-at.ensures.read)
