use Rattle.std.proofs.Common.{◌∙◌, ap, arith, get_or, pos, rules}
use Rattle.std.proofs.lemmas.Int.{to_z-of_z}
use Rattle.std.specs.Int.{w128}
use mir.Val.{SFits}
use Rattle.sample_codes.specs.Formats.{sample_fits}
use Rattle.bench_rules.proofs.ValueLemmas.{each_fits, one_more_value}
use Rattle.bench_rules.proofs.trace_bytes.samples_bytes.Goals as goal

pub encode-requires-clause-fits : goal.encode-requires-clause-fits
encode-requires-clause-fits c =
    let fit : SFits w128 (get_or c.args.values.now c.loop-value.value-index (pos 0)) = search rules in
    ap (sample_fits c.args.format) (to_z-of_z w128 _ fit) ∙ each_fits (sample_fits c.args.format) c.args.values.now c.loop-value.value-index c.loop-value-test.true c.requires.fit

pub loop-value-preserved : goal.loop-value-preserved
loop-value-preserved c =
    let fit : SFits w128 (get_or c.args.values.now c.loop-value.value-index (pos 0)) = search rules in (
      one_more_value c.args.order c.args.format c.args.values.now c.loop-value.value-index _ c.loop-value.bytes.items c.encode.new.bytes _ c.loop-value-test.true
          (to_z-of_z w128 _ fit) c.loop-value.invariant.0 c.encode.ensures (rw c.in_ok-told.ensures.ok at c.extend_from_slice.ensures.items),
      grind arith,
    )
