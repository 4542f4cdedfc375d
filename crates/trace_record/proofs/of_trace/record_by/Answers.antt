use Rattle.std.proofs.Common.{rules, ℕ, List, true, SFits, refl, ap, ap₂, ◌∙◌, arith}
use Rattle.std.specs.Prelude.{codes, length, bytes_eq}
use Rattle.std.specs.List.{list_any}
use Rattle.std.specs.Int.{w16, w32}
use Rattle.num_order.specs.Number.{num, unsigned}
use Rattle.trace_view.specs.Shown.{bytes_of, head_of}
use Rattle.key_counts.specs.Coordinates.{under_scalar}
use Rattle.trace_record.specs.OfTrace.{known_names}
use Rattle.trace_record.specs.Packable.{small_parts}
use Rattle.trace_record.proofs.FactsLemmas.{kept, facts_with}
use Rattle.trace_record.proofs.GeometryLemmas.{names, named_value}
use Rattle.trace_record.proofs.HeaderLemmas.{geometry-number, scalar-short, length-main, main_bytes}
use Rattle.trace_record.proofs.of_trace.record_by.Goals as goal

pub scalar_at-scalar-requires-clause-place : goal.scalar_at-scalar-requires-clause-place
scalar_at-scalar-requires-clause-place c = scalar-short c.args.fields.now.extensions c.geometry-places.result.scalar c.geometry-places.ensures.scalar.1

pub value_at-x-requires-clause-place : goal.value_at-x-requires-clause-place
value_at-x-requires-clause-place c = geometry-number c.args.fields.now.extensions (codes "x") c.geometry-places.result.x refl c.geometry-places.ensures.x.1

pub value_at-y-requires-clause-place : goal.value_at-y-requires-clause-place
value_at-y-requires-clause-place c = geometry-number c.args.fields.now.extensions (codes "y") c.geometry-places.result.y refl c.geometry-places.ensures.y.1

pub value_at-requires-clause-place : goal.value_at-requires-clause-place
value_at-requires-clause-place c = geometry-number c.args.fields.now.extensions (codes "inline") c.geometry-places.result.inline refl c.geometry-places.ensures.inline.1

pub value_at-requires-2-clause-place : goal.value_at-requires-2-clause-place
value_at-requires-2-clause-place c = geometry-number c.args.fields.now.extensions (codes "crossline") c.geometry-places.result.crossline refl c.geometry-places.ensures.crossline.1

pub value_at-requires-3-clause-place : goal.value_at-requires-3-clause-place
value_at-requires-3-clause-place c = geometry-number c.args.fields.now.extensions (codes "offset") c.geometry-places.result.offset refl c.geometry-places.ensures.offset.1

pub i32_at-requires : goal.i32_at-requires
i32_at-requires c =
    let v = c.args.view.now in
    let long = ap length c.requires.main ∙ length-main (head_of v) (bytes_of v) v.whole in
    omega (arith, long)

pub i16_at-requires : goal.i16_at-requires
i16_at-requires c =
    let v = c.args.view.now in
    let long = ap length c.requires.main ∙ length-main (head_of v) (bytes_of v) v.whole in
    omega (arith, long)

pub u16_at-requires : goal.u16_at-requires
u16_at-requires c =
    let v = c.args.view.now in
    let long = ap length c.requires.main ∙ length-main (head_of v) (bytes_of v) v.whole in
    omega (arith, long)

pub u16_at-requires-2 : goal.u16_at-requires-2
u16_at-requires-2 c =
    let v = c.args.view.now in
    let long = ap length c.requires.main ∙ length-main (head_of v) (bytes_of v) v.whole in
    omega (arith, long)

pub has_known_name-requires : goal.has_known_name-requires
has_known_name-requires c =
    let v = c.args.view.now in
    ap length c.requires.main ∙ length-main (head_of v) (bytes_of v) v.whole

pub invariant_of-result : goal.invariant_of-result
invariant_of-result c = record { small = small_parts _ _ _ _ c.requires.range c.scaled.ensures.size c.scaled-2.ensures.size }

pub returns : goal.returns
returns c has =
    let v = c.args.view.now in
    let inline : SFits w32 c.value_at.result = search rules in
    let crossline : SFits w32 c.value_at-2.result = search rules in
    let offset : SFits w32 c.value_at-3.result = search rules in
    let x : SFits w32 c.value_at-x.result = search rules in
    let y : SFits w32 c.value_at-y.result = search rules in
    let sequence : SFits w32 c.i32_at.result = search rules in
    let scalar : SFits w16 c.scalar_at-scalar.result = search rules in
    let units : SFits w16 c.i16_at.result = search rules in
    let h = head_of v in
    let t = bytes_of v in
    let fields = c.args.fields.now.pairs in
    let main = c.args.main.now in
    let is = c.requires.main in
    let named = names h fields t has in
    let places = c.geometry-places.result in
    let stand = c.geometry-places.ensures in
    let the_scalar = kept w16 _ _ scalar (named_value h fields t (codes "scalar") places.scalar _ stand.scalar.0 named.scalar c.scalar_at-scalar.ensures) in
    facts_with _ h fields t c.args.amplitudes c.args.number (record {
      inline = kept w32 _ _ inline (named_value h fields t (codes "inline") places.inline _ stand.inline.0 named.inline c.value_at.ensures);
      crossline = kept w32 _ _ crossline (named_value h fields t (codes "crossline") places.crossline _ stand.crossline.0 named.crossline c.value_at-2.ensures);
      offset = kept w32 _ _ offset (named_value h fields t (codes "offset") places.offset _ stand.offset.0 named.offset c.value_at-3.ensures);
      x = c.scaled.ensures.exact ∙ ap₂ under_scalar (kept w32 _ _ x (named_value h fields t (codes "x") places.x _ stand.x.0 named.x c.value_at-x.ensures)) the_scalar;
      y = c.scaled-2.ensures.exact ∙ ap₂ under_scalar (kept w32 _ _ y (named_value h fields t (codes "y") places.y _ stand.y.0 named.y c.value_at-y.ensures)) the_scalar;
      scalar = the_scalar;
      sequence = kept w32 _ _ sequence (c.i32_at.ensures ∙ (λ i. num (c.head.ensures i).order (record { size = 4; signed = true }) (main_bytes t main 4 4 is (omega arith) i)));
      units = kept w16 _ _ units (c.i16_at.ensures ∙ (λ i. num (c.head.ensures i).order (record { size = 2; signed = true }) (main_bytes t main 2 88 is (omega arith) i)));
      interval = c.u16_at.ensures ∙ (λ i. unsigned (c.head.ensures i).order (main_bytes t main 2 116 is (omega arith) i));
      samples_field = c.u16_at-2.ensures ∙ (λ i. unsigned (c.head.ensures i).order (main_bytes t main 2 114 is (omega arith) i));
      has_known_name = c.has_known_name.ensures ∙ ap (λ (bytes : List ℕ). list_any (bytes_eq bytes) known_names) (main_bytes t main 8 232 is (omega arith));
      amplitudes = refl;
      number = refl;
    })
