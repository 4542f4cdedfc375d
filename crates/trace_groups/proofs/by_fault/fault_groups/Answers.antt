use Rattle.std.proofs.Common.{arith, sym, subst, take}
use Rattle.std.proofs.lemmas.List.{take_all, take_more}
use Rattle.std.proofs.lemmas.Result.{IfOk-weaker}
use Rattle.trace_groups.specs.OfFaultTallies.{AreTalliesOf}
use Rattle.trace_groups.proofs.by_fault.fault_groups.Goals as goal

pub loop-fault-preserved : goal.loop-fault-preserved
loop-fault-preserved c =
    let h = c.loop-fault.invariant in
    let i = c.loop-fault.fault-index in
    let grown = c.in_ok-add.ensures.tallies (take i c.args.faults.now) h.1 in (
      c.in_ok-add.ensures.within i h.0,
      subst (λ l. AreTalliesOf l c.add.new.self) (sym (take_more c.args.faults.now i _ c.loop-fault-test.true)) grown,
      grind arith,
    )

pub returns-clause-groups : goal.returns-clause-groups
returns-clause-groups c =
    let all = take_all c.loop-fault.fault-index c.args.faults.now c.loop-fault-test.false in
    let told = subst (λ l. AreTalliesOf l c.loop-fault.tallies) all c.loop-fault.invariant.1 in
    IfOk-weaker c.finish.result _ _ (λ groups each. each c.args.faults.now told) c.finish.ensures.groups
