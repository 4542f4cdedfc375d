use Rattle.std.proofs.Common.{List, ℕ, ◌∙◌, sym, rules}
use Rattle.std.proofs.lemmas.Int.{to_z-of_z}
use Rattle.std.specs.Int.{w128}
use mir.Val.{SFits}
use Rattle.trace_view.specs.Shown.{bytes_of, head_of}
use Rattle.bench_rules.proofs.ComputedLemmas.{by_steps}
use Rattle.bench_rules.proofs.SetLemmas.{has_value}
use Rattle.bench_rules.proofs.computation.computed_in.Goals as goal

pub returns-in-Some : goal.returns-in-Some
returns-in-Some c =
    let h = head_of c.args.trace.now in
    let t : List ℕ = bytes_of c.args.trace.now in
    let first : SFits w128 c.in-Some.first = search rules in
    by_steps h t c.args.p c.args.place c.args.source c.args.steps.now c.in-Some.first c.chained.result
    (has_value h t c.args.place c.value.result c.value.ensures c.if-is_none.ensures) (sym c.in-Some.is ∙ c.term_in.ensures)
    (rw (to_z-of_z w128 c.in-Some.first first) at c.chained.ensures)
