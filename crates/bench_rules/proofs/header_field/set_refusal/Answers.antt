use Rattle.std.proofs.Common.{◌≡◌, ◌∙◌, length, sym, ap, true, false, ℕ, List, Some, rules, arith}
use Rattle.std.proofs.lemmas.Int.{to_z-of_z}
use Rattle.std.specs.Int.{w128}
use mir.Val.{SFits, to_z, of_z}
use Rattle.num_order.specs.Number.{bytes}
use Rattle.num_order.proofs.InRangeLemmas.{in_range, length-number}
use Rattle.trace_view.specs.Shown.{bytes_of, head_of}
use Rattle.bench_rules.specs.Refused.{set_refusal}
use Rattle.bench_rules.proofs.PlaceLemmas.{place_inside}
use Rattle.bench_rules.proofs.SetLemmas.{by_changed, has_value}
use Rattle.bench_rules.proofs.header_field.set_refusal.Goals as goal

pub write-requires-clause-fits : goal.write-requires-clause-fits
write-requires-clause-fits c = in_range c.args.place.kind _ (sym c.if-not-fits.ensures)

pub changed_length-requires : goal.changed_length-requires
changed_length-requires c =
    let h = head_of c.args.trace.now in
    let t : List ℕ = bytes_of c.args.trace.now in
    let size : length c.write.new.bytes ≡ c.args.place.kind.size = ap (λ (s : List ℕ). length s) c.write.ensures ∙ length-number c.args.order c.args.place.kind _ in
    let inside = place_inside h t c.args.place c.args.trace.now.whole (has_value h t c.args.place c.value.result c.value.ensures c.if-is_none.ensures) in
    omega (arith, size, c.from-2.ensures, c.offset.ensures, inside)

pub returns-then-ne : goal.returns-then-ne
returns-then-ne c =
    let fit : SFits w128 c.args.value = search rules in
    let h = head_of c.args.trace.now in
    let t : List ℕ = bytes_of c.args.trace.now in
    let new : c.write.new.bytes ≡ bytes h.order c.args.place.kind (to_z w128 (of_z w128 c.args.value)) = rw (← c.requires) c.write.ensures in
    by_changed h t c.args.place (to_z w128 (of_z w128 c.args.value)) c.from-2.result c.write.new.bytes true c.changed_length.result c.length.result
    (has_value h t c.args.place c.value.result c.value.ensures c.if-is_none.ensures) (sym c.if-not-fits.ensures) (c.from-2.ensures ∙ c.offset.ensures) new c.changed_length.ensures c.length.ensures c.if-ne.ensures
    ∙ ap (set_refusal h t (Some c.args.place)) (to_z-of_z w128 c.args.value fit)

pub returns : goal.returns
returns c =
    let fit : SFits w128 c.args.value = search rules in
    let h = head_of c.args.trace.now in
    let t : List ℕ = bytes_of c.args.trace.now in
    let new : c.write.new.bytes ≡ bytes h.order c.args.place.kind (to_z w128 (of_z w128 c.args.value)) = rw (← c.requires) c.write.ensures in
    by_changed h t c.args.place (to_z w128 (of_z w128 c.args.value)) c.from-2.result c.write.new.bytes false c.changed_length.result c.length.result
    (has_value h t c.args.place c.value.result c.value.ensures c.if-is_none.ensures) (sym c.if-not-fits.ensures) (c.from-2.ensures ∙ c.offset.ensures) new c.changed_length.ensures c.length.ensures c.if-ne.ensures
    ∙ ap (set_refusal h t (Some c.args.place)) (to_z-of_z w128 c.args.value fit)
