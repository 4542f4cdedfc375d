use Rattle.std.proofs.Common.{◌≡◌, true, ◌<◌, ◌+◌, ap, sym, ◌∙◌, rules, arith, SFits}
use Rattle.std.specs.Prelude.{Some}
use Rattle.std.specs.Int.{w64}
use Rattle.std.proofs.lemmas.Int.{ints, to_z-of_z}
use Rattle.sample_codes.specs.declared.value_format.ValueFormat.TheVariants.{Float}
use Rattle.float_codes.specs.Values.{float_width}
use Rattle.trace_view.specs.Values.{samples_in}
use Rattle.trace_record.specs.Floats.{statistics_of_ranks}
use Rattle.trace_record.specs.Statistics.{statistics_of, one_sample, with_sample}
use Rattle.trace_record.proofs.SampleLemmas.{samples_begun, sample_counted, samples_ended, sample_inside}
use Rattle.trace_record.proofs.floats.float_statistics.Goals as goal

pub loop-i-init : goal.loop-i-init
loop-i-init g c =
    let fits : SFits w64 c.at.result = search rules in
    let some : 0 < c.args.number = omega arith in
    let begun : statistics_of_ranks c.of-ranks.result 1 ≡ one_sample true c.at.result = c.of-ranks.ensures.value ∙ ap (one_sample true) (to_z-of_z w64 _ fits) in
    record {
      rises = omega arith;
      few = c.of-ranks.ensures.few;
      rest = samples_begun true g.O.Ordered.order (Float g.S.ReadsFloat.format) c.args.number c.args.bytes.now _ c.at.result some c.at.ensures begun;
    }

pub loop-i-preserved : goal.loop-i-preserved
loop-i-preserved g c =
    let x = c.at-in-loop-i.result in
    let i = c.loop-i.i in
    let all = statistics_of true (samples_in g.O.Ordered.order (Float g.S.ReadsFloat.format) c.args.number c.args.bytes.now) in
    let fits : SFits w64 x = search rules in
    let added : statistics_of_ranks c.add.new.self (i + 1) ≡ with_sample true (statistics_of_ranks c.loop-i.ranks i) x = c.add.ensures.value i ∙ ap (with_sample true (statistics_of_ranks c.loop-i.ranks i)) (to_z-of_z w64 _ fits) in
    record {
      rises = omega arith;
      few = let f = c.add.ensures.few in let o = c.loop-i.invariant.few in omega arith;
      rest = sample_counted true g.O.Ordered.order (Float g.S.ReadsFloat.format) c.args.number i c.args.bytes.now (statistics_of_ranks c.loop-i.ranks i) (statistics_of_ranks c.add.new.self (i + 1)) x all c.loop-i-test.true c.at-in-loop-i.ensures added c.loop-i.invariant.rest;
    }

pub at-requires : goal.at-requires
at-requires g c = let some : 0 < c.args.number = omega arith in sample_inside (float_width g.S.ReadsFloat.format) c.args.number 0 _ some c.requires

pub at-requires-in-loop-i : goal.at-requires-in-loop-i
at-requires-in-loop-i g c = sample_inside (float_width g.S.ReadsFloat.format) c.args.number c.loop-i.i _ c.loop-i-test.true c.requires

pub returns : goal.returns
returns g c =
    let all : c.loop-i.i ≡ c.args.number = omega arith in
    let ended = samples_ended true g.O.Ordered.order (Float g.S.ReadsFloat.format) c.args.number c.loop-i.i c.args.bytes.now (statistics_of_ranks c.loop-i.ranks c.loop-i.i) _ c.loop-i-test.false c.loop-i.invariant.rest in
    let sum = ap (λ r. r.sum) c.statistics.ensures.value in
    let number = ap (λ r. r.number) c.statistics.ensures.value in
    record {
      value = ap Some (c.statistics.ensures.value ∙ sym (ap (statistics_of_ranks c.loop-i.ranks) all)) ∙ ended;
      range = record {
        least = c.statistics.ensures.least;
        greatest = c.statistics.ensures.greatest;
        low = omega (arith, ints);
        high = omega (arith, ints);
      };
    }
