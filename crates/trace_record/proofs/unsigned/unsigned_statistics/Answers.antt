use Rattle.std.proofs.Common.{◌≡◌, false, ◌<◌, ◌+◌, ap, sym, ◌∙◌, arith, pos}
use Rattle.std.specs.Prelude.{Some}
use Rattle.std.proofs.lemmas.Int.{ints}
use Rattle.sample_codes.specs.declared.value_format.ValueFormat.TheVariants.{Integer}
use Rattle.sample_codes.specs.declared.integer_format.IntegerFormat.TheVariants.{Unsigned32}
use Rattle.trace_view.specs.Values.{samples_in}
use Rattle.trace_record.specs.Unsigned.{statistics_of_unsigned}
use Rattle.trace_record.specs.Statistics.{statistics_of}
use Rattle.trace_record.proofs.SampleLemmas.{samples_begun, sample_counted, samples_ended}
use Rattle.trace_record.proofs.unsigned.unsigned_statistics.Goals as goal

pub loop-i-init : goal.loop-i-init
loop-i-init g c =
    let some : 0 < c.args.number = omega arith in
    let sum = ap (λ r. r.sum) c.of-unsigned.ensures in
    record {
      rises = omega arith;
      small = omega (arith, ints);
      rest = samples_begun false g.O.Ordered.order (Integer Unsigned32) c.args.number c.args.bytes.now _ (pos c.four_bytes.result) some (ap pos c.four_bytes.ensures) c.of-unsigned.ensures;
    }

pub loop-i-preserved : goal.loop-i-preserved
loop-i-preserved g c =
    let x = pos c.four_bytes-in-loop-i.result in
    let i = c.loop-i.i in
    let all = statistics_of false (samples_in g.O.Ordered.order (Integer Unsigned32) c.args.number c.args.bytes.now) in
    let sum = ap (λ r. r.sum) (c.add.ensures i) in
    record {
      rises = omega arith;
      small = omega (arith, ints);
      rest = sample_counted false g.O.Ordered.order (Integer Unsigned32) c.args.number i c.args.bytes.now (statistics_of_unsigned c.loop-i.unsigned i) (statistics_of_unsigned c.add.new.self (i + 1)) x all c.loop-i-test.true (ap pos c.four_bytes-in-loop-i.ensures) (c.add.ensures i) c.loop-i.invariant.rest;
    }

pub returns : goal.returns
returns g c =
    let all : c.loop-i.i ≡ c.args.number = omega arith in
    let ended = samples_ended false g.O.Ordered.order (Integer Unsigned32) c.args.number c.loop-i.i c.args.bytes.now (statistics_of_unsigned c.loop-i.unsigned c.loop-i.i) _ c.loop-i-test.false c.loop-i.invariant.rest in
    let sum = ap (λ r. r.sum) c.statistics.ensures.value in
    let number = ap (λ r. r.number) c.statistics.ensures.value in
    record {
      value = ap Some (c.statistics.ensures.value ∙ sym (ap (statistics_of_unsigned c.loop-i.unsigned) all)) ∙ ended;
      range = record {
        least = c.statistics.ensures.least;
        greatest = c.statistics.ensures.greatest;
        low = omega (arith, ints);
        high = omega (arith, ints);
      };
    }
