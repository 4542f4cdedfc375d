use Rattle.std.proofs.Common.{List, ℕ, sym, rules}
use Rattle.std.proofs.lemmas.Int.{to_z-of_z}
use Rattle.std.specs.Int.{w128}
use mir.Val.{SFits}
use Rattle.trace_view.specs.Shown.{bytes_of, head_of}
use Rattle.bench_rules.specs.TraceEdits.{counted}
use Rattle.bench_rules.proofs.RenumberLemmas.{refused_wide}
use Rattle.bench_rules.proofs.SetLemmas.{has_value}
use Rattle.bench_rules.proofs.renumber.renumber_refusal.Goals as goal

pub returns-in-None-2 : goal.returns-in-None-2
returns-in-None-2 c =
    let h = head_of c.args.trace.now in
    let t : List ℕ = bytes_of c.args.trace.now in
    let first : SFits w128 c.args.first = search rules in
    let step : SFits w128 c.args.step = search rules in
    sym (refused_wide h t c.args.place (counted c.args.first c.args.step c.args.k)
    (has_value h t c.args.place c.value.result c.value.ensures c.if-is_none.ensures)
    (λ fits. c.in-None.ensures (rw (to_z-of_z w128 c.args.first first, to_z-of_z w128 c.args.step step) fits)))
