use Rattle.std.proofs.Common.{ℤ, None, Some, Result, subst, sym}
use Rattle.std.specs.Prelude.{IfErr}
use Rattle.trace_view.specs.Shown.{bytes_of, head_of}
use Rattle.many_traces.proofs.NumbersLemmas.{named_refusal}
use Rattle.bench_rules.specs.declared.refusal.Refusal.{Refusal}
use Rattle.bench_rules.specs.ReadFaults.{IsRefusalOfNoRead}
use Rattle.many_traces.proofs.NoReadLemmas.{admitted_free, named_free}
use Rattle.many_traces.proofs.computed.refusal_by_names.Goals as goal

pub returns-in-Ok-clause-refusal : goal.returns-in-Ok-clause-refusal
returns-in-Ok-clause-refusal c = λ sure.
    let view = c.in-Some.trace in
    let seen = rw (c.in_ok-trace.was, c.in-Some.is) at c.look.follows.holds-at-none in
    let shown = seen.trace sure in
    named_refusal c.args.overlay.now.volume c.args.map.now.pairs (head_of view) (bytes_of view) c.args.p c.args.place c.args.source c.args.steps.now c.computed_by_names-number.result None
    shown.0 shown.1 c.computed_by_names-number.ensures c.in-Ok.ensures.ok.1

pub returns-in-Err-clause-refusal : goal.returns-in-Err-clause-refusal
returns-in-Err-clause-refusal c = λ sure.
    let view = c.in-Some.trace in
    let seen = rw (c.in_ok-trace.was, c.in-Some.is) at c.look.follows.holds-at-none in
    let shown = seen.trace sure in
    named_refusal c.args.overlay.now.volume c.args.map.now.pairs (head_of view) (bytes_of view) c.args.p c.args.place c.args.source c.args.steps.now c.computed_by_names-number.result (Some c.in-Err.refusal)
    shown.0 shown.1 c.computed_by_names-number.ensures c.in-Err.ensures.err

pub returns-in-Err-clause-rule : goal.returns-in-Err-clause-rule
returns-in-Err-clause-rule c =
    let h = head_of c.in-Some.trace in
    let t = bytes_of c.in-Some.trace in
    let free : IfErr c.computed_by_names-number.result IsRefusalOfNoRead =
    subst (λ (n : Result ℤ Refusal). IfErr n IsRefusalOfNoRead) (sym c.computed_by_names-number.ensures) (named_free h c.args.map.now.pairs c.args.place c.args.source c.args.steps.now c.args.p t) in
    admitted_free h t c.args.place c.computed_by_names-number.result c.in-Err.refusal free c.in-Err.ensures.err
