use Rattle.std.proofs.Common.{rules, arith, List, ℕ}
use Rattle.std.proofs.lemmas.Int.{to_z-of_z}
use Rattle.std.specs.Int.{w128}
use mir.Val.{SFits}
use Rattle.trace_view.specs.Shown.{bytes_of, head_of}
use Rattle.bench_rules.proofs.ComputedLemmas.{step_goes_on, step_is_missing, steps_end}
use Rattle.bench_rules.proofs.computation.chained.Goals as goal

pub returns-in-None : goal.returns-in-None
returns-in-None c =
    let first : SFits w128 c.args.first = search rules in
    let h = head_of c.args.trace.now in
    let t : List ℕ = bytes_of c.args.trace.now in
    step_is_missing h t c.args.p c.loop-step.number _ c.args.steps.now c.loop-step.step-index _ c.after_step.result c.loop-step-test.true c.after_step.ensures c.in-None.is (rw (to_z-of_z w128 c.args.first first) at c.loop-step.invariant)

pub loop-step-preserved : goal.loop-step-preserved
loop-step-preserved c =
    let first : SFits w128 c.args.first = search rules in
    let h = head_of c.args.trace.now in
    let t : List ℕ = bytes_of c.args.trace.now in
    step_goes_on h t c.args.p c.loop-step.number c.in-Some.next _ c.args.steps.now c.loop-step.step-index _ c.after_step.result c.loop-step-test.true c.after_step.ensures c.in-Some.is c.loop-step.invariant

pub returns : goal.returns
returns c =
    let first : SFits w128 c.args.first = search rules in
    let h = head_of c.args.trace.now in
    let t : List ℕ = bytes_of c.args.trace.now in
    steps_end h t c.args.p c.loop-step.number _ c.args.steps.now c.loop-step.step-index (omega (arith, c.loop-step-test.false)) (rw (to_z-of_z w128 c.args.first first) at c.loop-step.invariant)
