use Rattle.std.proofs.Common.{◌≡◌, ◌∙◌, ◌+◌, ◌≤◌, ap, sym, subst, rules, refl, length, List, ℕ, arith}
use Rattle.std.proofs.lemmas.Int.{to_z-of_z}
use Rattle.std.specs.Int.{w128}
use Rattle.edit_overlay.specs.Reads.{Follow, HaveAgreed}
use mir.Val.{SFits}
use Rattle.num_order.proofs.InRangeLemmas.{in_range, length-number}
use Rattle.num_order.specs.Number.{bytes}
use Rattle.frame_cut.specs.Splice.{splice}
use Rattle.frame_cut.specs.Traces.{trace_at, with_trace}
use Rattle.frame_cut.specs.Volume.{Volume}
use Rattle.trace_view.specs.Values.{samples_at}
use Rattle.trace_record.specs.Facts.{facts_of, with_samples_of}
use Rattle.trace_record.specs.OfTrace.{record_of}
use Rattle.volume_records.proofs.HeaderLemmas.{record-header}
use Rattle.bench_rules.specs.declared.edit.Edit.TheVariants.{Set}
use Rattle.bench_rules.specs.declared.field.Field.TheVariants as field
use Rattle.bench_rules.specs.State.{State}
use Rattle.bench_rules.specs.Steps.{IsAfter}
use Rattle.live_volume.specs.Held.{state_of}
use Rattle.live_volume.proofs.HeldLemmas.{on_ok, read_as_either, size_small}
use Rattle.bench_rules.proofs.PlaceLemmas.{stands}
use Rattle.bench_rules.proofs.SetLemmas.{accepted, put_whole, after_put, cut_again, whole_trace}
use Rattle.live_volume.proofs.live_volume.LiveVolume.put_value.Goals as goal

pub write-requires-clause-fits : goal.write-requires-clause-fits
write-requires-clause-fits c =
    let fit : SFits w128 c.args.value = search rules in
    rw to_z-of_z (in_range c.args.place.kind c.args.value c.requires.room.fits)

pub put-requires-clause-inside : goal.put-requires-clause-inside
put-requires-clause-inside c =
    let fit : SFits w128 c.args.value = search rules in
    let new : c.write.new.bytes ≡ bytes c.self.inside.overlay.volume.head.order c.args.place.kind c.args.value = rw (c.head.ensures, to_z-of_z) at c.write.ensures in
    let at = c.from-2.ensures ∙ c.offset.ensures in
    let size : length c.write.new.bytes ≡ c.args.place.kind.size = ap (λ (u : List ℕ). length u) new ∙ length-number c.self.inside.overlay.volume.head.order c.args.place.kind c.args.value in
    omega (arith, at, size, c.requires.room.inside)

pub put-requires-clause-whole : goal.put-requires-clause-whole
put-requires-clause-whole c =
    let fit : SFits w128 c.args.value = search rules in
    let new : c.write.new.bytes ≡ bytes c.self.inside.overlay.volume.head.order c.args.place.kind c.args.value = rw (c.head.ensures, to_z-of_z) at c.write.ensures in
    let s = state_of c.self.inside in
    let none = rw (← c.self.view_is) at c.requires.none in
    let at = c.from-2.ensures ∙ c.offset.ensures in
    rw (← c.self.view_is) (λ sure. put_whole s c.args.p c.args.place c.args.value c.from-2.result c.write.new.bytes (c.self.invariant.cut sure) (none sure) at new)

pub put-requires-clause-cut : goal.put-requires-clause-cut
put-requires-clause-cut c =
    let fit : SFits w128 c.args.value = search rules in
    let new : c.write.new.bytes ≡ bytes c.self.inside.overlay.volume.head.order c.args.place.kind c.args.value = rw (c.head.ensures, to_z-of_z) at c.write.ensures in
    let s = state_of c.self.inside in
    let none = rw (← c.self.view_is) at c.requires.none in
    let at = c.from-2.ensures ∙ c.offset.ensures in
    let w : Volume = with_trace s.volume c.args.p (splice (trace_at s.volume c.args.p) c.from-2.result (length c.write.new.bytes) c.write.new.bytes) in
    rw (← c.self.view_is)
    (λ sure. cut_again s c.args.p c.args.place c.args.value w (after_put s c.args.p c.args.place c.args.value w c.from-2.result c.write.new.bytes (c.self.invariant.cut sure) (none sure) at new refl))

pub put-requires-clause-known : goal.put-requires-clause-known
put-requires-clause-known c = c.held-known.ensures.facts

pub put-requires-clause-samples : goal.put-requires-clause-samples
put-requires-clause-samples c =
    let fit : SFits w128 c.args.value = search rules in
    let new : c.write.new.bytes ≡ bytes c.self.inside.overlay.volume.head.order c.args.place.kind c.args.value = rw (c.head.ensures, to_z-of_z) at c.write.ensures in
    let s = state_of c.self.inside in
    let none = rw (← c.self.view_is) at c.requires.none in
    let at = c.from-2.ensures ∙ c.offset.ensures in
    let t : List ℕ = trace_at s.volume c.args.p in
    let size : length c.write.new.bytes ≡ c.args.place.kind.size = ap (λ (u : List ℕ). length u) new ∙ length-number s.volume.head.order c.args.place.kind c.args.value in
    let held : HaveAgreed c.self.inside.overlay.reads → facts_of c.held-known.result ≡ record_of s.volume.head s.fields t = rw (← c.self.view_is) at c.held-known.ensures.facts in
    rw (← c.self.view_is) (λ sure.
    let a = accepted s c.args.p c.args.place c.args.value (none sure) in
    let k = stands s.volume.head t c.args.place a.has in
    let few : length c.write.new.bytes ≤ 8 = omega (arith, size, size_small c.args.place.kind.size k.size) in
    let front : c.from-2.result + length c.write.new.bytes ≤ samples_at s.volume.head t = omega (arith, at, size, k.first, k.last, k.header) in
    ap (with_samples_of (record_of s.volume.head s.fields _)) (held sure)
    ∙ record-header s.volume.head s.fields t _ c.write.new.bytes c.from-2.result (whole_trace s c.args.p (c.self.invariant.cut sure) a.first a.last)
    (put_whole s c.args.p c.args.place c.args.value c.from-2.result c.write.new.bytes (c.self.invariant.cut sure) (none sure) at new) refl few front)

pub returns-clause-ok : goal.returns-clause-ok
returns-clause-ok c =
    let fit : SFits w128 c.args.value = search rules in
    let new : c.write.new.bytes ≡ bytes c.self.inside.overlay.volume.head.order c.args.place.kind c.args.value = rw (c.head.ensures, to_z-of_z) at c.write.ensures in
    let s = state_of c.self.inside in
    let none = rw (← c.self.view_is) at c.requires.none in
    let at = c.from-2.ensures ∙ c.offset.ensures in
    let w : Volume = with_trace s.volume c.args.p (splice (trace_at s.volume c.args.p) c.from-2.result (length c.write.new.bytes) c.write.new.bytes) in
    let held : Follow c.self.inside.overlay.reads c.put.new.self.reads = rw (← c.self.view_is) at c.put.ensures.reads in
    on_ok c.put.result (λ e sure. subst (λ (u : State). IsAfter c.args.self.now.state (Set c.args.p (field.Place c.args.place) c.args.value) u) (sym e)
    (rw (← c.self.view_is) (after_put s c.args.p c.args.place c.args.value w c.from-2.result c.write.new.bytes (c.self.invariant.cut (held.agreed sure)) (none (held.agreed sure)) at new refl))) c.put.ensures.ok

pub returns-clause-same : goal.returns-clause-same
returns-clause-same c = read_as_either _ c.put.result _ _ _ c.put.ensures.ok c.put.ensures.err

pub returns-clause-told : goal.returns-clause-told
returns-clause-told c =
    let fit : SFits w128 c.args.value = search rules in
    let new : c.write.new.bytes ≡ bytes c.self.inside.overlay.volume.head.order c.args.place.kind c.args.value = rw (c.head.ensures, to_z-of_z) at c.write.ensures in
    let at = c.from-2.ensures ∙ c.offset.ensures in
    let size : length c.write.new.bytes ≡ c.args.place.kind.size = ap (λ (u : List ℕ). length u) new ∙ length-number c.self.inside.overlay.volume.head.order c.args.place.kind c.args.value in
    λ tells. c.put.ensures.told refl (rw (at, size) tells)
