use Rattle.std.proofs.Common.{◌≡◌, ◌++◌, ◌∷◌, [], arith, rules, sym}
use Rattle.trace_view.specs.Values.{has_floats}
use Rattle.trace_record.specs.OfTrace.{record_of}
use Rattle.bench_rules.specs.Conditions.{meets, test_in}
use Rattle.bench_rules.specs.RecordNumbers.{tells_test}
use Rattle.bench_rules.proofs.TestLemmas.{ends}
use Rattle.chosen_traces.specs.RecordTests.{hold}
use Rattle.chosen_traces.proofs.RecordLemmas.{tests_more, told_more}
use Rattle.chosen_traces.proofs.record_tests.record_tests.Goals as goal

pub loop-test-preserved : goal.loop-test-preserved
loop-test-preserved c =
    let pushed : c.push.new.self.items ≡ c.loop-test.told.items ++ c.in-Some.one ∷ [] = search rules in
    record {
      exact = told_more (tells_test c.args.map.now.pairs) c.args.tests.now c.loop-test.test-index _ c.loop-test-test.true (sym c.in-Some.ensures.exact) c.loop-test.invariant.exact;
      tests = tests_more c.args.map.now.pairs c.args.tests.now c.loop-test.told.items c.push.new.self.items c.loop-test.test-index _ c.in-Some.one c.loop-test-test.true c.in-Some.ensures.test pushed c.loop-test.invariant.tests;
      memory = grind arith;
    }

pub returns-clause-tests : goal.returns-clause-tests
returns-clause-tests c = λ h t.
    sym (ends (test_in h t) c.args.tests.now c.loop-test.test-index (hold (has_floats h) (record_of h c.args.map.now.pairs t) c.loop-test.told.items) (meets h t c.args.tests.now) (omega (arith, c.loop-test-test.false))
    (c.loop-test.invariant.tests h t))
