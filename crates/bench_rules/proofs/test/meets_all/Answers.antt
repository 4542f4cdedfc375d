use Rattle.std.proofs.Common.{◌∙◌, sym, arith}
use Rattle.trace_view.specs.Shown.{bytes_of, head_of}
use Rattle.bench_rules.specs.Conditions.{test_by}
use Rattle.bench_rules.proofs.TestLemmas.{ends, goes_on, is_missing}
use Rattle.bench_rules.proofs.test.meets_all.Goals as goal

pub returns-in_default : goal.returns-in_default
returns-in_default c =
    is_missing (test_by (head_of c.args.trace.now) (bytes_of c.args.trace.now) c.args.amplitudes) c.args.tests.now c.loop-test.test-index _ c.loop-test.all _ c.loop-test-test.true (sym c.in_default.is ∙ c.meets_one.ensures) c.loop-test.invariant

pub loop-test-preserved : goal.loop-test-preserved
loop-test-preserved c =
    goes_on (test_by (head_of c.args.trace.now) (bytes_of c.args.trace.now) c.args.amplitudes) c.args.tests.now c.loop-test.test-index _ c.loop-test.all c.in-Some.here _ c.loop-test-test.true (sym c.in-Some.is ∙ c.meets_one.ensures) c.loop-test.invariant

pub returns : goal.returns
returns c = ends (test_by (head_of c.args.trace.now) (bytes_of c.args.trace.now) c.args.amplitudes) c.args.tests.now c.loop-test.test-index c.loop-test.all _ (omega (arith, c.loop-test-test.false)) c.loop-test.invariant
