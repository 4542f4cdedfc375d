use Rattle.std.proofs.Common.{◌≡◌, ◌∙◌, sym, ◌∷◌, [], Some, rules}
use Rattle.std.proofs.lemmas.Int.{to_z-of_z}
use Rattle.std.specs.Int.{w128}
use mir.Val.{SFits}
use Rattle.bench_rules.specs.declared.edit.Edit.TheVariants as edits
use Rattle.script_words.specs.declared.command.Command.TheVariants.{Apply}
use Rattle.script_words.specs.Words.{words_of}
use Rattle.script_words.specs.Ranges.{spelled}
use Rattle.script_words.specs.Numbers.{trace_of, number_of}
use Rattle.script_words.proofs.ParseLemmas.{five_ok, five_err}
use Rattle.script_words.proofs.many_commands.renumber.Goals as goal

pub returns-in_err-at-clause-read : goal.returns-in_err-at-clause-read
returns-in_err-at-clause-read c =
    let words : spelled (words_of c.args.words) ≡ c.in_ok-a.a.now ∷ c.in_ok-a.b.now ∷ c.in_ok-a.at.now ∷ c.in_ok-a.first.now ∷ c.in_ok-a.step.now ∷ [] = rw c.in_ok-a.ensures.ok_part at c.range_and_three.ensures.some in
    let from : trace_of c.args.traces c.in_ok-a.a.now ≡ Some c.in_ok-a-2.a = sym c.trace.ensures ∙ c.in_ok-a-2.ensures.ok_part in
    let to : trace_of c.args.traces c.in_ok-a.b.now ≡ Some c.in_ok-b.b = sym c.trace-2.ensures ∙ c.in_ok-b.ensures.ok_part in
    let first : number_of c.in_ok-a.first.now ≡ Some c.in_ok-first.first = sym c.number.ensures ∙ c.in_ok-first.ensures.ok_part in
    let step : number_of c.in_ok-a.step.now ≡ Some c.in_ok-step.step = sym c.number-2.ensures ∙ c.in_ok-step.ensures.ok_part in
    five_err (λ a b f x y. Apply (edits.Renumber a b f x y)) c.args.traces _ _ _ _ _ _ _ _ _ _ words from to first step (λ f n. n) c.in_err-at.field-0.0 c.from_residual-in_err-at.result c.from_residual-in_err-at.ensures.1 c.in_err-at.ensures.read

pub returns-clause-read : goal.returns-clause-read
returns-clause-read c =
    let words : spelled (words_of c.args.words) ≡ c.in_ok-a.a.now ∷ c.in_ok-a.b.now ∷ c.in_ok-a.at.now ∷ c.in_ok-a.first.now ∷ c.in_ok-a.step.now ∷ [] = rw c.in_ok-a.ensures.ok_part at c.range_and_three.ensures.some in
    let from : trace_of c.args.traces c.in_ok-a.a.now ≡ Some c.in_ok-a-2.a = sym c.trace.ensures ∙ c.in_ok-a-2.ensures.ok_part in
    let to : trace_of c.args.traces c.in_ok-a.b.now ≡ Some c.in_ok-b.b = sym c.trace-2.ensures ∙ c.in_ok-b.ensures.ok_part in
    let first : number_of c.in_ok-a.first.now ≡ Some c.in_ok-first.first = sym c.number.ensures ∙ c.in_ok-first.ensures.ok_part in
    let step : number_of c.in_ok-a.step.now ≡ Some c.in_ok-step.step = sym c.number-2.ensures ∙ c.in_ok-step.ensures.ok_part in
    let fit : SFits w128 c.in_ok-first.first = search rules in
    let fits : SFits w128 c.in_ok-step.step = search rules in
    rw (to_z-of_z w128 c.in_ok-first.first fit, to_z-of_z w128 c.in_ok-step.step fits) (five_ok (λ a b f x y. Apply (edits.Renumber a b f x y)) c.args.traces _ _ _ _ _ _ _ _ _ _ words from to first step c.in_ok-at.at c.in_ok-at.ensures.read)
