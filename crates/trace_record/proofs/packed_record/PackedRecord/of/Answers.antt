use Rattle.std.proofs.Common.{◌<◌, ◌^◌, Option, rules, refl, sym, subst, SFits}
use Rattle.std.specs.Int.{w16, w32, w128}
use Rattle.std.proofs.lemmas.Int.{to_z-of_z}
use Rattle.key_counts.specs.Parts.{FitsCoordinate}
use Rattle.trace_record.specs.Parts.{FitsWord, FitsSum}
use Rattle.trace_record.specs.Packable.{HaveRange, each_fits}
use Rattle.trace_record.specs.declared.amplitudes.Amplitudes.{Amplitudes}
use Rattle.trace_record.specs.declared.record.Record.{Record}
use Rattle.trace_record.proofs.PackedLemmas.{same_record, kept_fits, parts_kept}
use Rattle.trace_record.proofs.packed_record.PackedRecord.of.Goals as goal

fits_of : (r : Record) → HaveRange r.amplitudes r.number × FitsCoordinate r.x × FitsCoordinate r.y
fits_of r = each_fits _ _ _ _ r.small

pub bits_of_sum-sum-requires : goal.bits_of_sum-sum-requires
bits_of_sum-sum-requires c =
    let r = c.args.trace in
    let a = c.unwrap_or-amplitudes.result in
    let few : r.number < 2 ^ 32 = search rules in
    let fits : SFits w128 a.sum = search rules in
    subst FitsSum (sym (to_z-of_z w128 _ fits)) (kept_fits r.amplitudes r.number a few (fits_of r).0 c.unwrap_or-amplitudes.ensures).2

pub bits_of_sample-requires : goal.bits_of_sample-requires
bits_of_sample-requires c =
    let r = c.args.trace in
    let a = c.unwrap_or-amplitudes.result in
    let few : r.number < 2 ^ 32 = search rules in
    let fits : SFits w128 a.least = search rules in
    subst FitsWord (sym (to_z-of_z w128 _ fits)) (kept_fits r.amplitudes r.number a few (fits_of r).0 c.unwrap_or-amplitudes.ensures).0

pub bits_of_sample-requires-2 : goal.bits_of_sample-requires-2
bits_of_sample-requires-2 c =
    let r = c.args.trace in
    let a = c.unwrap_or-amplitudes.result in
    let few : r.number < 2 ^ 32 = search rules in
    let fits : SFits w128 a.greatest = search rules in
    subst FitsWord (sym (to_z-of_z w128 _ fits)) (kept_fits r.amplitudes r.number a few (fits_of r).0 c.unwrap_or-amplitudes.ensures).1

pub of-requires : goal.of-requires
of-requires c = (fits_of c.args.trace).1

pub of-requires-2 : goal.of-requires-2
of-requires-2 c = (fits_of c.args.trace).2

pub invariant_of-result : goal.invariant_of-result
invariant_of-result c =
    let r = c.args.trace in
    let a = c.unwrap_or-amplitudes.result in
    let least : SFits w128 a.least = search rules in
    let greatest : SFits w128 a.greatest = search rules in
    let sum : SFits w128 a.sum = search rules in
    let kept = parts_kept r.amplitudes r.number a c.of.result.bits c.of-2.result.bits c.bits_of_sample.result c.bits_of_sample-2.result c.bits_of_sum-sum.result _ _ _ (fits_of r).0 c.unwrap_or-amplitudes.ensures
    least greatest sum c.of.ensures.first c.of.ensures.second c.of-2.ensures.first c.bits_of_sample.ensures c.bits_of_sample-2.ensures c.bits_of_sum-sum.ensures.value in
    record { range = subst (λ (o : Option Amplitudes). HaveRange o r.number) (sym kept) (fits_of r).0 }

pub returns : goal.returns
returns c =
    let r = c.args.trace in
    let a = c.unwrap_or-amplitudes.result in
    let least : SFits w128 a.least = search rules in
    let greatest : SFits w128 a.greatest = search rules in
    let sum : SFits w128 a.sum = search rules in
    let inline : SFits w32 r.inline = search rules in
    let crossline : SFits w32 r.crossline = search rules in
    let offset : SFits w32 r.offset = search rules in
    let sequence : SFits w32 r.sequence = search rules in
    let scalar : SFits w16 r.scalar = search rules in
    let units : SFits w16 r.units = search rules in
    same_record _ r (record {
      amplitudes = parts_kept r.amplitudes r.number a c.of.result.bits c.of-2.result.bits c.bits_of_sample.result c.bits_of_sample-2.result c.bits_of_sum-sum.result _ _ _ (fits_of r).0 c.unwrap_or-amplitudes.ensures
          least greatest sum c.of.ensures.first c.of.ensures.second c.of-2.ensures.first c.bits_of_sample.ensures c.bits_of_sample-2.ensures c.bits_of_sum-sum.ensures.value;
      x = c.of.ensures.ratio;
      y = c.of-2.ensures.ratio;
      inline = to_z-of_z w32 _ inline;
      crossline = to_z-of_z w32 _ crossline;
      offset = to_z-of_z w32 _ offset;
      sequence = to_z-of_z w32 _ sequence;
      number = refl;
      scalar = to_z-of_z w16 _ scalar;
      units = to_z-of_z w16 _ units;
      interval = refl;
      samples_field = refl;
      has_known_name = c.of-2.ensures.second;
    })
