use Rattle.std.proofs.Common.{◌≡◌, ◌∙◌, sym, ◌∷◌, [], Some, None, rules}
use Rattle.std.proofs.lemmas.Int.{to_z-of_z}
use Rattle.std.specs.Int.{w128}
use mir.Val.{SFits}
use Rattle.script_words.specs.Words.{words_of}
use Rattle.script_words.specs.Numbers.{trace_of, number_of}
use Rattle.script_words.proofs.ParseLemmas.{set_ok, set_err, set_no_number}
use Rattle.script_words.proofs.many_commands.set_one.Goals as goal

pub returns-in_err-value-clause-read : goal.returns-in_err-value-clause-read
returns-in_err-value-clause-read c =
    let words : words_of c.args.words ≡ c.in_ok-p.p.now ∷ c.in_ok-p.at.now ∷ c.in_ok-p.value.now ∷ [] = rw c.in_ok-p.ensures.ok_part at c.three.ensures.some in
    let position : trace_of c.args.traces c.in_ok-p.p.now ≡ Some c.in_ok-p-2.p = sym c.trace.ensures ∙ c.in_ok-p-2.ensures.ok_part in
    let none : number_of c.in_ok-p.value.now ≡ None = search rules in
    set_no_number c.args.traces _ _ _ _ _ words position none c.from_residual-in_err-value.result (search rules)

pub returns-in_err-at-clause-read : goal.returns-in_err-at-clause-read
returns-in_err-at-clause-read c =
    let words : words_of c.args.words ≡ c.in_ok-p.p.now ∷ c.in_ok-p.at.now ∷ c.in_ok-p.value.now ∷ [] = rw c.in_ok-p.ensures.ok_part at c.three.ensures.some in
    let position : trace_of c.args.traces c.in_ok-p.p.now ≡ Some c.in_ok-p-2.p = sym c.trace.ensures ∙ c.in_ok-p-2.ensures.ok_part in
    let number : number_of c.in_ok-p.value.now ≡ Some c.in_ok-value.value = sym c.number.ensures ∙ c.in_ok-value.ensures.ok_part in
    set_err c.args.traces _ _ _ _ _ _ words position number c.in_err-at.field-0.0 c.from_residual-in_err-at.result c.from_residual-in_err-at.ensures.1 c.in_err-at.ensures.read

pub returns-clause-read : goal.returns-clause-read
returns-clause-read c =
    let words : words_of c.args.words ≡ c.in_ok-p.p.now ∷ c.in_ok-p.at.now ∷ c.in_ok-p.value.now ∷ [] = rw c.in_ok-p.ensures.ok_part at c.three.ensures.some in
    let position : trace_of c.args.traces c.in_ok-p.p.now ≡ Some c.in_ok-p-2.p = sym c.trace.ensures ∙ c.in_ok-p-2.ensures.ok_part in
    let number : number_of c.in_ok-p.value.now ≡ Some c.in_ok-value.value = sym c.number.ensures ∙ c.in_ok-value.ensures.ok_part in
    let fit : SFits w128 c.in_ok-value.value = search rules in
    rw to_z-of_z (set_ok c.args.traces _ _ _ _ _ _ words position number c.in_ok-at.at c.in_ok-at.ensures.read)
