use Rattle.std.proofs.Common.{get_or, pos, rules}
use Rattle.std.proofs.lemmas.Int.{to_z-of_z}
use Rattle.std.specs.Int.{w128}
use mir.Val.{SFits}
use Rattle.bench_rules.proofs.ValueLemmas.{one_more_fits, one_does_not_fit}
use Rattle.bench_rules.proofs.trace_bytes.all_fit.Goals as goal

pub returns-then-not-fits : goal.returns-then-not-fits
returns-then-not-fits c =
    let fit : SFits w128 (get_or c.args.values.now c.loop-value.value-index (pos 0)) = search rules in
    one_does_not_fit c.args.format c.args.values.now c.loop-value.value-index _ c.loop-value-test.true (to_z-of_z w128 _ fit) c.if-not-fits.ensures

pub loop-value-preserved : goal.loop-value-preserved
loop-value-preserved c =
    let fit : SFits w128 (get_or c.args.values.now c.loop-value.value-index (pos 0)) = search rules in
    one_more_fits c.args.format c.args.values.now c.loop-value.value-index _ c.loop-value-test.true (to_z-of_z w128 _ fit) c.loop-value.invariant c.if-not-fits.ensures
