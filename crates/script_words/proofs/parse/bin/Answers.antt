use Rattle.std.proofs.Common.{◌≡◌, ◌∙◌, sym, ◌∷◌, [], Some, rules}
use Rattle.std.proofs.lemmas.Int.{to_z-of_z}
use Rattle.std.specs.Int.{w128}
use mir.Val.{SFits}
use Rattle.script_words.specs.Words.{words_of}
use Rattle.script_words.specs.Numbers.{number_of}
use Rattle.script_words.proofs.ParseLemmas.{bin_ok, bin_err}
use Rattle.script_words.proofs.parse.bin.Goals as goal

pub returns-in_err-at-2-clause-read : goal.returns-in_err-at-2-clause-read
returns-in_err-at-2-clause-read c =
    let words : words_of c.args.words ≡ c.in_ok-at.at.now ∷ c.in_ok-at.value.now ∷ [] = rw c.in_ok-at.ensures.ok_part at c.two.ensures.some in
    let number : number_of c.in_ok-at.value.now ≡ Some c.in_ok-value.value = sym c.number.ensures ∙ c.in_ok-value.ensures.ok_part in
    bin_err _ _ _ _ words number c.in_err-at-2.field-0.0 c.from_residual-in_err-at-2.result c.from_residual-in_err-at-2.ensures.1 c.in_err-at-2.ensures.read

pub returns-clause-read : goal.returns-clause-read
returns-clause-read c =
    let words : words_of c.args.words ≡ c.in_ok-at.at.now ∷ c.in_ok-at.value.now ∷ [] = rw c.in_ok-at.ensures.ok_part at c.two.ensures.some in
    let number : number_of c.in_ok-at.value.now ≡ Some c.in_ok-value.value = sym c.number.ensures ∙ c.in_ok-value.ensures.ok_part in
    let fit : SFits w128 c.in_ok-value.value = search rules in
    rw to_z-of_z (bin_ok _ _ _ _ words number c.in_ok-at-2.at c.in_ok-at-2.ensures.read)
