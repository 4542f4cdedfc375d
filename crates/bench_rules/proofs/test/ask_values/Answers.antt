use Rattle.std.proofs.Common.{◌∙◌, sym, arith}
use Rattle.bench_rules.specs.Conditions.{asks_values}
use Rattle.bench_rules.proofs.TestLemmas.{has_none, has_none_yet, has_one}
use Rattle.bench_rules.proofs.test.ask_values.Goals as goal

pub returns-then-asks_values : goal.returns-then-asks_values
returns-then-asks_values c = sym (has_one asks_values c.args.tests.now c.loop-test.test-index _ c.loop-test-test.true (sym c.asks_values.ensures ∙ c.if-asks_values.true) c.loop-test.invariant)

pub loop-test-preserved : goal.loop-test-preserved
loop-test-preserved c = has_none_yet asks_values c.args.tests.now c.loop-test.test-index _ c.loop-test-test.true (sym c.asks_values.ensures ∙ c.if-asks_values.false) c.loop-test.invariant

pub returns : goal.returns
returns c = sym (has_none asks_values c.args.tests.now c.loop-test.test-index (omega (arith, c.loop-test-test.false)) c.loop-test.invariant)
