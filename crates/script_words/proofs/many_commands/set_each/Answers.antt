use Rattle.std.proofs.Common.{◌≡◌, ◌∙◌, sym, ◌∷◌, [], Some, pos, rules}
use Rattle.std.proofs.lemmas.Int.{to_z-of_z}
use Rattle.std.specs.Int.{w128}
use mir.Val.{SFits}
use Rattle.bench_rules.specs.declared.edit.Edit.TheVariants as edits
use Rattle.script_words.specs.declared.command.Command.TheVariants.{Apply}
use Rattle.script_words.specs.Words.{words_of}
use Rattle.script_words.specs.Ranges.{spelled}
use Rattle.script_words.specs.Numbers.{trace_of, number_of}
use Rattle.script_words.proofs.ParseLemmas.{four_ok, four_err}
use Rattle.script_words.proofs.many_commands.set_each.Goals as goal

pub returns-in_err-at-clause-read : goal.returns-in_err-at-clause-read
returns-in_err-at-clause-read c =
    let words : spelled (words_of c.args.words) ≡ c.in_ok-a.a.now ∷ c.in_ok-a.b.now ∷ c.in_ok-a.at.now ∷ c.in_ok-a.value.now ∷ [] = rw c.in_ok-a.ensures.ok_part at c.range_and_two.ensures.some in
    let from : trace_of c.args.traces c.in_ok-a.a.now ≡ Some c.in_ok-a-2.a = sym c.trace.ensures ∙ c.in_ok-a-2.ensures.ok_part in
    let to : trace_of c.args.traces c.in_ok-a.b.now ≡ Some c.in_ok-b.b = sym c.trace-2.ensures ∙ c.in_ok-b.ensures.ok_part in
    let value : number_of c.in_ok-a.value.now ≡ Some c.in_ok-value.value = sym c.number.ensures ∙ c.in_ok-value.ensures.ok_part in
    four_err (λ a b f x. Apply (edits.Renumber a b f x (pos 0))) c.args.traces _ _ _ _ _ _ _ _ words from to value (λ f n. n) c.in_err-at.field-0.0 c.from_residual-in_err-at.result c.from_residual-in_err-at.ensures.1 c.in_err-at.ensures.read

pub returns-clause-read : goal.returns-clause-read
returns-clause-read c =
    let words : spelled (words_of c.args.words) ≡ c.in_ok-a.a.now ∷ c.in_ok-a.b.now ∷ c.in_ok-a.at.now ∷ c.in_ok-a.value.now ∷ [] = rw c.in_ok-a.ensures.ok_part at c.range_and_two.ensures.some in
    let from : trace_of c.args.traces c.in_ok-a.a.now ≡ Some c.in_ok-a-2.a = sym c.trace.ensures ∙ c.in_ok-a-2.ensures.ok_part in
    let to : trace_of c.args.traces c.in_ok-a.b.now ≡ Some c.in_ok-b.b = sym c.trace-2.ensures ∙ c.in_ok-b.ensures.ok_part in
    let value : number_of c.in_ok-a.value.now ≡ Some c.in_ok-value.value = sym c.number.ensures ∙ c.in_ok-value.ensures.ok_part in
    let fit : SFits w128 c.in_ok-value.value = search rules in
    rw (to_z-of_z w128 c.in_ok-value.value fit) (four_ok (λ a b f x. Apply (edits.Renumber a b f x (pos 0))) c.args.traces _ _ _ _ _ _ _ _ words from to value c.in_ok-at.at c.in_ok-at.ensures.read)
