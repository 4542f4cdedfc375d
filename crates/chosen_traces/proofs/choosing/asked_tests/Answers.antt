use Rattle.std.proofs.Common.{◌≡◌, [], inl, inr, rules}
use Rattle.bench_rules.specs.Conditions.{lacks_values}
use Rattle.chosen_traces.proofs.ChoosingFaultLemmas.{field_lacks, values_lack}
use Rattle.chosen_traces.proofs.ChoosingLemmas.{asked_there}
use Rattle.chosen_traces.proofs.choosing.asked_tests.Goals as goal

pub returns-in-Err-clause-err : goal.returns-in-Err-clause-err
returns-in-Err-clause-err c =
    elim c.in-Err.ensures.err [
      | inl is ↦ inl is
      | inr lacks ↦ inr (λ range. field_lacks c.args.overlay.now.volume range c.args.map.now.pairs c.args.conditions.now [] c.in-Err.fault lacks)
    ]

pub returns-then-lacks_values-clause-err : goal.returns-then-lacks_values-clause-err
returns-then-lacks_values-clause-err c =
    let v = c.args.overlay.now.volume in
    let lacks : c.lacks_values.result ≡ lacks_values v.head.format c.in-Ok.tests.items = search rules in
    inr (λ range. values_lack v range c.args.map.now.pairs c.args.conditions.now c.in-Ok.tests.items c.lacks_values.result lacks c.if-lacks_values.true c.in-Ok.ensures.ok)

pub returns-clause-ok : goal.returns-clause-ok
returns-clause-ok c =
    let v = c.args.overlay.now.volume in
    let lacks : c.lacks_values.result ≡ lacks_values v.head.format c.in-Ok.tests.items = search rules in
    asked_there v c.args.map.now.pairs c.args.conditions.now c.in-Ok.tests.items c.lacks_values.result lacks c.if-lacks_values.false c.in-Ok.ensures.ok
