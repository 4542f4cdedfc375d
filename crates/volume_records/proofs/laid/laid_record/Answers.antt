use Rattle.std.proofs.Common.{◌≡◌, ◌∙◌, ℕ, List, length, refl, sym, ap, ap₂, w32, rules}
use Rattle.std.specs.Int.{w16}
use Rattle.std.specs.Prelude.{codes, bytes_eq}
use Rattle.std.specs.List.{list_any}
use mir.Val.{SFits}
use Rattle.num_order.specs.Number.{unsigned}
use Rattle.field_map.specs.Pairs.{signed_at}
use Rattle.frame_cut.specs.Splice.{splice}
use Rattle.key_counts.specs.Coordinates.{under_scalar}
use Rattle.trace_record.specs.Facts.{Facts}
use Rattle.trace_record.specs.OfTrace.{bound_value, known_names}
use Rattle.trace_record.specs.Packable.{each_fits, small_parts}
use Rattle.trace_record.proofs.FactsLemmas.{facts_with, kept}
use Rattle.trace_record.proofs.HeaderLemmas.{geometry-number}
use Rattle.volume_records.proofs.LaidLemmas.{bytes_apart, each_left, named, number_apart}
use Rattle.volume_records.proofs.laid.laid_record.Goals as goal

pub leave_rest-requires : goal.leave_rest-requires
leave_rest-requires c = geometry-number c.args.fields.now.extensions (codes "scalar") c.geometry-places.result.scalar refl c.geometry-places.ensures.scalar.1

pub coordinate_after-requires : goal.coordinate_after-requires
coordinate_after-requires c = geometry-number c.args.fields.now.extensions (codes "x") c.geometry-places.result.x refl c.geometry-places.ensures.x.1

pub coordinate_after-requires-2 : goal.coordinate_after-requires-2
coordinate_after-requires-2 c = geometry-number c.args.fields.now.extensions (codes "y") c.geometry-places.result.y refl c.geometry-places.ensures.y.1

pub number_after-requires : goal.number_after-requires
number_after-requires c = geometry-number c.args.fields.now.extensions (codes "inline") c.geometry-places.result.inline refl c.geometry-places.ensures.inline.1

pub number_after-requires-2 : goal.number_after-requires-2
number_after-requires-2 c = geometry-number c.args.fields.now.extensions (codes "crossline") c.geometry-places.result.crossline refl c.geometry-places.ensures.crossline.1

pub number_after-requires-3 : goal.number_after-requires-3
number_after-requires-3 c = geometry-number c.args.fields.now.extensions (codes "offset") c.geometry-places.result.offset refl c.geometry-places.ensures.offset.1

pub invariant_of-result : goal.invariant_of-result
invariant_of-result c =
    let old = each_fits _ _ _ _ c.args.known.now.small in
    record { small = small_parts _ _ _ _ old.0 (c.in_ok-x.ensures.size old.1) (c.in_ok-y.ensures.size old.2) }

pub returns-clause-record : goal.returns-clause-record
returns-clause-record c = λ h t same inside is.
    let fields = c.args.fields.now.pairs in
    let at : ℕ = c.args.at in
    let bytes : List ℕ = c.args.bytes.now in
    let u : List ℕ = splice t at (length bytes) bytes in
    let places = c.geometry-places.result in
    let stand = c.geometry-places.ensures in
    let rest = each_left at (length bytes) places.scalar (sym c.leave_rest.ensures ∙ c.if-not-leave_rest.false) in
    let had = c.args.known.now in
    let had_inline : SFits w32 had.inline = search rules in
    let had_crossline : SFits w32 had.crossline = search rules in
    let had_offset : SFits w32 had.offset = search rules in
    let had_sequence : SFits w32 had.sequence = search rules in
    let had_scalar : SFits w16 had.scalar = search rules in
    let had_units : SFits w16 had.units = search rules in
    let inline : SFits w32 c.in_ok-inline.inline = search rules in
    let crossline : SFits w32 c.in_ok-crossline.crossline = search rules in
    let offset : SFits w32 c.in_ok-offset.offset = search rules in
    let sequence : SFits w32 c.in_ok-sequence.sequence = search rules in
    let scalar : had.scalar ≡ bound_value h fields u (codes "scalar") =
    ap (λ (f : Facts). f.scalar) is ∙ named h fields t (codes "scalar") places.scalar stand.scalar.0
    ∙ sym (number_apart h t bytes at places.scalar inside rest.scalar) ∙ sym (named h fields u (codes "scalar") places.scalar stand.scalar.0) in
    let before = sym (kept w16 had.scalar _ had_scalar (ap (λ (f : Facts). f.scalar) is)) in
    let after = kept w16 had.scalar _ had_scalar scalar in
    facts_with _ h fields u had.amplitudes had.number (record {
      inline = kept w32 _ _ inline (c.in_ok-inline.ensures.number h t same inside (kept w32 had.inline _ had_inline (ap (λ (f : Facts). f.inline) is ∙ named h fields t (codes "inline") places.inline stand.inline.0))
          ∙ sym (named h fields u (codes "inline") places.inline stand.inline.0));
      crossline = kept w32 _ _ crossline (c.in_ok-crossline.ensures.number h t same inside (kept w32 had.crossline _ had_crossline (ap (λ (f : Facts). f.crossline) is ∙ named h fields t (codes "crossline") places.crossline stand.crossline.0))
          ∙ sym (named h fields u (codes "crossline") places.crossline stand.crossline.0));
      offset = kept w32 _ _ offset (c.in_ok-offset.ensures.number h t same inside (kept w32 had.offset _ had_offset (ap (λ (f : Facts). f.offset) is ∙ named h fields t (codes "offset") places.offset stand.offset.0))
          ∙ sym (named h fields u (codes "offset") places.offset stand.offset.0));
      x = c.in_ok-x.ensures.value h t same inside (ap (λ (f : Facts). f.x) is ∙ ap₂ under_scalar (named h fields t (codes "x") places.x stand.x.0) before)
          ∙ ap₂ under_scalar (sym (named h fields u (codes "x") places.x stand.x.0)) after;
      y = c.in_ok-y.ensures.value h t same inside (ap (λ (f : Facts). f.y) is ∙ ap₂ under_scalar (named h fields t (codes "y") places.y stand.y.0) before)
          ∙ ap₂ under_scalar (sym (named h fields u (codes "y") places.y stand.y.0)) after;
      scalar = after;
      sequence = kept w32 _ _ sequence (c.in_ok-sequence.ensures.number h t same inside (kept w32 had.sequence _ had_sequence (ap (λ (f : Facts). f.sequence) is)));
      units = kept w16 _ _ had_units (ap (λ (f : Facts). f.units) is ∙ sym (number_apart h t bytes at (signed_at 89 2) inside rest.units));
      interval = ap (λ (f : Facts). f.interval) is ∙ ap (unsigned h.order) (sym (bytes_apart t bytes at 116 2 inside rest.interval));
      samples_field = ap (λ (f : Facts). f.samples_field) is ∙ ap (unsigned h.order) (sym (bytes_apart t bytes at 114 2 inside rest.samples));
      has_known_name = ap (λ (f : Facts). f.has_known_name) is ∙ ap (λ (bs : List ℕ). list_any (bytes_eq bs) known_names) (sym (bytes_apart t bytes at 232 8 inside rest.name));
      amplitudes = refl;
      number = refl;
    })
