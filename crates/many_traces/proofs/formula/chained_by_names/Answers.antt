use Rattle.std.proofs.Common.{List, ℕ, sym, rules, arith}
use Rattle.std.proofs.lemmas.Int.{to_z-of_z}
use Rattle.std.specs.Int.{w128}
use mir.Val.{SFits}
use Rattle.trace_view.specs.Shown.{bytes_of, head_of}
use Rattle.many_traces.proofs.FormulaLemmas.{name_goes_on, name_is_missing, name_is_unknown, names_end}
use Rattle.many_traces.proofs.formula.chained_by_names.Goals as goal

pub returns-in_default : goal.returns-in_default
returns-in_default c =
    let first : SFits w128 c.args.first = search rules in
    let h = head_of c.args.trace.now in
    let t : List ℕ = bytes_of c.args.trace.now in
    name_is_unknown h t c.args.map.now.pairs c.args.p c.loop-step.number _ c.args.steps.now c.loop-step.step-index c.step-item.result c.term_of.result c.loop-step-test.true (sym c.step-item.is) c.term_of.ensures c.in_default.is
    (rw (to_z-of_z w128 c.args.first first) at c.loop-step.invariant)

pub returns-in-None : goal.returns-in-None
returns-in-None c =
    let first : SFits w128 c.args.first = search rules in
    let h = head_of c.args.trace.now in
    let t : List ℕ = bytes_of c.args.trace.now in
    name_is_missing h t c.args.map.now.pairs c.args.p c.loop-step.number _ c.args.steps.now c.loop-step.step-index c.step-item.result c.term_of.result c.in-Some.term c.after_step.result c.loop-step-test.true (sym c.step-item.is) c.term_of.ensures c.in-Some.is c.after_step.ensures c.in-None.is
    (rw (to_z-of_z w128 c.args.first first) at c.loop-step.invariant)

pub loop-step-preserved : goal.loop-step-preserved
loop-step-preserved c =
    let h = head_of c.args.trace.now in
    let t : List ℕ = bytes_of c.args.trace.now in
    name_goes_on h t c.args.map.now.pairs c.args.p c.loop-step.number c.in-Some-after_step.next _ c.args.steps.now c.loop-step.step-index c.step-item.result c.term_of.result c.in-Some.term c.after_step.result c.loop-step-test.true (sym c.step-item.is) c.term_of.ensures c.in-Some.is c.after_step.ensures c.in-Some-after_step.is
    c.loop-step.invariant

pub returns : goal.returns
returns c =
    let first : SFits w128 c.args.first = search rules in
    let h = head_of c.args.trace.now in
    let t : List ℕ = bytes_of c.args.trace.now in
    names_end h t c.args.map.now.pairs c.args.p c.loop-step.number _ c.args.steps.now c.loop-step.step-index (omega (arith, c.loop-step-test.false)) (rw (to_z-of_z w128 c.args.first first) at c.loop-step.invariant)
