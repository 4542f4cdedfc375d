use Rattle.std.proofs.Common.{List, sym, subst}
use Rattle.chosen_traces.specs.declared.record_tests.RecordTest.{RecordTest}
use Rattle.chosen_traces.specs.RecordTests.{AreTestsOf}
use Rattle.chosen_traces.proofs.RecordLemmas.{if_some}
use Rattle.chosen_traces.proofs.choosing.chosen_of.Goals as goal

pub returns-in_ok-chosen_by_records-in-Some-clause-ok : goal.returns-in_ok-chosen_by_records-in-Some-clause-ok
returns-in_ok-chosen_by_records-in-Some-clause-ok c = λ sure beside.
    let pairs = c.args.map.now.pairs in
    let tests = c.args.tests.now in
    let told : AreTestsOf pairs tests c.in-Some.told.items = if_some (λ made. AreTestsOf pairs tests made.items) c.in_ok-told.field-0 c.in-Some.told c.in-Some.is c.in_ok-told.ensures.tests in
    c.in_ok-chosen_by_records-in-Some.ensures.ok pairs tests (subst (λ (ts : List RecordTest). AreTestsOf pairs tests ts) (sym c.as_slice.ensures.value) told) beside
