use Rattle.std.proofs.Common.{Option, rules, refl, sym, subst, SFits}
use Rattle.std.specs.Int.{w16, w32}
use Rattle.std.proofs.lemmas.Int.{to_z-of_z}
use Rattle.key_counts.specs.Packed.{ratio_in}
use Rattle.key_counts.specs.Parts.{FitsCoordinate, fits_in_word}
use Rattle.trace_record.specs.Packable.{HaveRange, small_parts}
use Rattle.trace_record.specs.Packed.{record_in}
use Rattle.trace_record.specs.declared.amplitudes.Amplitudes.{Amplitudes}
use Rattle.trace_record.proofs.PackedLemmas.{same_record}
use Rattle.trace_record.proofs.packed_record.PackedRecord.record.Goals as goal

pub invariant_of-result : goal.invariant_of-result
invariant_of-result c =
    let p = c.args.self in
    record {
      small = small_parts _ _ _ _
          (subst (λ (o : Option Amplitudes). HaveRange o p.number) (sym c.amplitudes.ensures) p.range)
          (subst FitsCoordinate (sym c.ratio.ensures) (fits_in_word (ratio_in p.x) p.x.bits refl refl))
          (subst FitsCoordinate (sym c.ratio-2.ensures) (fits_in_word (ratio_in p.y) p.y.bits refl refl));
    }

pub returns : goal.returns
returns c =
    let p = c.args.self in
    let inline : SFits w32 p.inline = search rules in
    let crossline : SFits w32 p.crossline = search rules in
    let offset : SFits w32 p.offset = search rules in
    let sequence : SFits w32 p.sequence = search rules in
    let scalar : SFits w16 p.scalar = search rules in
    let units : SFits w16 p.units = search rules in
    same_record _ (record_in p) (record {
      amplitudes = c.amplitudes.ensures;
      x = c.ratio.ensures;
      y = c.ratio-2.ensures;
      inline = to_z-of_z w32 _ inline;
      crossline = to_z-of_z w32 _ crossline;
      offset = to_z-of_z w32 _ offset;
      sequence = to_z-of_z w32 _ sequence;
      number = refl;
      scalar = to_z-of_z w16 _ scalar;
      units = to_z-of_z w16 _ units;
      interval = refl;
      samples_field = refl;
      has_known_name = c.second.ensures;
    })
