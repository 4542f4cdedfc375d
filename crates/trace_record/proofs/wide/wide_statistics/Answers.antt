use Rattle.std.proofs.Common.{◌≡◌, false, ◌<◌, ap, sym, subst, ◌∙◌, rules, arith, SFits}
use Rattle.std.specs.Int.{w128}
use Rattle.std.proofs.lemmas.Int.{ints, to_z-of_z}
use Rattle.sample_codes.specs.declared.value_format.ValueFormat.TheVariants.{Integer}
use Rattle.sample_codes.specs.Formats.{value_width}
use Rattle.trace_view.specs.Values.{samples_in}
use Rattle.trace_record.specs.Statistics.{statistics_of, one_sample, with_sample}
use Rattle.trace_record.specs.Parts.{FitsSample}
use Rattle.trace_record.proofs.PartLemmas.{fits_min, fits_max}
use Rattle.trace_record.proofs.SampleLemmas.{samples_begun, sample_counted, samples_ended, sample_inside}
use Rattle.trace_record.proofs.wide.wide_statistics.Goals as goal

pub loop-i-init : goal.loop-i-init
loop-i-init g c =
    let fits : SFits w128 c.at.result = search rules in
    let some : 0 < c.args.number = omega arith in
    let begun : c.of-statistics.result ≡ one_sample false c.at.result = c.of-statistics.ensures ∙ ap (one_sample false) (to_z-of_z w128 _ fits) in
    let sum = ap (λ r. r.sum) begun in
    let number = ap (λ r. r.number) begun in
    record {
      rises = omega arith;
      number = number;
      range = record {
        least = subst FitsSample (sym (ap (λ r. r.least) begun)) (c.at.ensures.low, c.at.ensures.high);
        greatest = subst FitsSample (sym (ap (λ r. r.greatest) begun)) (c.at.ensures.low, c.at.ensures.high);
        low = omega (arith, ints, c.at.ensures.low);
        high = omega (arith, ints, c.at.ensures.high);
      };
      rest = samples_begun false g.O.Ordered.order (Integer g.S.ReadsWide.format) c.args.number c.args.bytes.now _ c.at.result some c.at.ensures.value begun;
    }

pub loop-i-preserved : goal.loop-i-preserved
loop-i-preserved g c =
    let x = c.at-in-loop-i.result in
    let i = c.loop-i.i in
    let all = statistics_of false (samples_in g.O.Ordered.order (Integer g.S.ReadsWide.format) c.args.number c.args.bytes.now) in
    let fits : SFits w128 x = search rules in
    let added : c.add.new.self ≡ with_sample false c.loop-i.statistics x = c.add.ensures ∙ ap (with_sample false c.loop-i.statistics) (to_z-of_z w128 _ fits) in
    let sum = ap (λ r. r.sum) added in
    let number = ap (λ r. r.number) added in
    record {
      rises = omega arith;
      number = omega arith;
      range = record {
        least = subst FitsSample (sym (ap (λ r. r.least) added)) (fits_min _ x c.loop-i.invariant.range.least (c.at-in-loop-i.ensures.low, c.at-in-loop-i.ensures.high));
        greatest = subst FitsSample (sym (ap (λ r. r.greatest) added)) (fits_max _ x c.loop-i.invariant.range.greatest (c.at-in-loop-i.ensures.low, c.at-in-loop-i.ensures.high));
        low = omega (arith, ints, c.at-in-loop-i.ensures.low);
        high = omega (arith, ints, c.at-in-loop-i.ensures.high);
      };
      rest = sample_counted false g.O.Ordered.order (Integer g.S.ReadsWide.format) c.args.number i c.args.bytes.now c.loop-i.statistics c.add.new.self x all c.loop-i-test.true c.at-in-loop-i.ensures.value added c.loop-i.invariant.rest;
    }

pub at-requires : goal.at-requires
at-requires g c = let some : 0 < c.args.number = omega arith in sample_inside (value_width (Integer g.S.ReadsWide.format)) c.args.number 0 _ some c.requires

pub at-requires-in-loop-i : goal.at-requires-in-loop-i
at-requires-in-loop-i g c = sample_inside (value_width (Integer g.S.ReadsWide.format)) c.args.number c.loop-i.i _ c.loop-i-test.true c.requires

pub returns : goal.returns
returns g c =
    record {
      value = samples_ended false g.O.Ordered.order (Integer g.S.ReadsWide.format) c.args.number c.loop-i.i c.args.bytes.now c.loop-i.statistics _ c.loop-i-test.false c.loop-i.invariant.rest;
      range = c.loop-i.invariant.range;
    }
