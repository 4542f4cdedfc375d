use Rattle.std.proofs.Common.{◌≡◌, false, ◌<◌, ◌+◌, ap, sym, ◌∙◌, rules, arith, SFits}
use Rattle.std.specs.Prelude.{Some}
use Rattle.std.specs.Int.{w32}
use Rattle.std.proofs.lemmas.Int.{ints, to_z-of_z}
use Rattle.sample_codes.specs.declared.value_format.ValueFormat.TheVariants.{Integer}
use Rattle.sample_codes.specs.Formats.{value_width}
use Rattle.trace_view.specs.Values.{samples_in}
use Rattle.trace_record.specs.Narrow.{statistics_of_narrow}
use Rattle.trace_record.specs.Statistics.{statistics_of, one_sample, with_sample}
use Rattle.trace_record.proofs.SampleLemmas.{samples_begun, sample_counted, samples_ended, sample_inside, sum_bounds}
use Rattle.trace_record.proofs.narrow.narrow_statistics.Goals as goal

pub loop-i-init : goal.loop-i-init
loop-i-init g c =
    let fits : SFits w32 c.at.result = search rules in
    let some : 0 < c.args.number = omega arith in
    let begun : statistics_of_narrow c.of-narrow.result 1 ≡ one_sample false c.at.result = c.of-narrow.ensures ∙ ap (one_sample false) (to_z-of_z w32 _ fits) in
    let sum = ap (λ r. r.sum) begun in
    record {
      rises = omega arith;
      low = omega (arith, ints);
      high = omega (arith, ints);
      rest = samples_begun false g.O.Ordered.order (Integer g.S.ReadsSample.format) c.args.number c.args.bytes.now _ c.at.result some c.at.ensures begun;
    }

pub loop-i-preserved : goal.loop-i-preserved
loop-i-preserved g c =
    let x = c.at-in-loop-i.result in
    let i = c.loop-i.i in
    let all = statistics_of false (samples_in g.O.Ordered.order (Integer g.S.ReadsSample.format) c.args.number c.args.bytes.now) in
    let fits : SFits w32 x = search rules in
    let added : statistics_of_narrow c.add.new.self (i + 1) ≡ with_sample false (statistics_of_narrow c.loop-i.narrow i) x = c.add.ensures i ∙ ap (with_sample false (statistics_of_narrow c.loop-i.narrow i)) (to_z-of_z w32 _ fits) in
    let bounds = sum_bounds i c.loop-i.narrow.sum c.add.new.self.sum x (omega (arith, ints)) (omega (arith, ints)) (ap (λ r. r.sum) added) c.loop-i.invariant.low c.loop-i.invariant.high in
    record {
      rises = omega arith;
      low = bounds.0;
      high = bounds.1;
      rest = sample_counted false g.O.Ordered.order (Integer g.S.ReadsSample.format) c.args.number i c.args.bytes.now (statistics_of_narrow c.loop-i.narrow i) (statistics_of_narrow c.add.new.self (i + 1)) x all c.loop-i-test.true c.at-in-loop-i.ensures added c.loop-i.invariant.rest;
    }

pub at-requires : goal.at-requires
at-requires g c = let some : 0 < c.args.number = omega arith in sample_inside (value_width (Integer g.S.ReadsSample.format)) c.args.number 0 _ some c.requires

pub at-requires-in-loop-i : goal.at-requires-in-loop-i
at-requires-in-loop-i g c = sample_inside (value_width (Integer g.S.ReadsSample.format)) c.args.number c.loop-i.i _ c.loop-i-test.true c.requires

pub returns : goal.returns
returns g c =
    let all : c.loop-i.i ≡ c.args.number = omega arith in
    let ended = samples_ended false g.O.Ordered.order (Integer g.S.ReadsSample.format) c.args.number c.loop-i.i c.args.bytes.now (statistics_of_narrow c.loop-i.narrow c.loop-i.i) _ c.loop-i-test.false c.loop-i.invariant.rest in
    let sum = ap (λ r. r.sum) c.statistics.ensures.value in
    let number = ap (λ r. r.number) c.statistics.ensures.value in
    record {
      value = ap Some (c.statistics.ensures.value ∙ sym (ap (statistics_of_narrow c.loop-i.narrow) all)) ∙ ended;
      range = record {
        least = c.statistics.ensures.least;
        greatest = c.statistics.ensures.greatest;
        low = omega (arith, ints);
        high = omega (arith, ints);
      };
    }
