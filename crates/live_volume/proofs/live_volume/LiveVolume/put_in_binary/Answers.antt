use Rattle.std.proofs.Common.{◌≡◌, ◌∙◌, refl, ap, sym, rules, map, subst}
use Rattle.std.proofs.lemmas.Int.{to_z-of_z}
use Rattle.std.specs.Int.{w128}
use mir.Val.{SFits}
use Rattle.num_order.proofs.InRangeLemmas.{in_range}
use Rattle.num_order.specs.Number.{bytes}
use Rattle.frame_cut.specs.Parts.{with_header_bytes}
use Rattle.frame_cut.specs.Volume.{Volume}
use Rattle.bench_rules.specs.declared.field.Field.TheVariants as field
use Rattle.bench_rules.specs.declared.edit.Edit.TheVariants.{SetBin}
use Rattle.edit_overlay.specs.CountedVolume.{CountedVolume}
use Rattle.edit_overlay.specs.Reads.{HaveAgreed}
use Rattle.trace_record.specs.declared.packed_record.PackedRecord.{PackedRecord}
use Rattle.trace_record.specs.Packed.{record_in}
use Rattle.live_volume.specs.Held.{state_of, records_in}
use Rattle.bench_rules.proofs.HeaderEditLemmas.{bin_accepted, bin_done, bin_room, after_cut}
use Rattle.live_volume.proofs.EditLemmas.{held_edited, state_with}
use Rattle.live_volume.proofs.HeldLemmas.{read_as}
use Rattle.live_volume.proofs.MeasuredLemmas.{frame_header}
use Rattle.live_volume.proofs.live_volume.LiveVolume.put_in_binary.Goals as goal

pub write-requires-clause-fits : goal.write-requires-clause-fits
write-requires-clause-fits c =
    let fit : SFits w128 c.args.value = search rules in
    let a = bin_accepted c.args.self.now.state (field.Place c.args.place) c.args.place c.args.value refl c.requires in
    rw to_z-of_z (in_range c.args.place.kind c.args.value a.fits)

pub put_head-requires : goal.put_head-requires
put_head-requires c =
    let fit : SFits w128 c.args.value = search rules in
    let new : c.write.new.bytes ≡ bytes c.self.inside.overlay.volume.head.order c.args.place.kind c.args.value = rw (c.head.ensures, to_z-of_z) at c.write.ensures in
    bin_room (state_of c.self.inside) c.args.place c.args.value c.from-2.result c.write.new.bytes c.requires (c.from-2.ensures ∙ c.binary_offset.ensures) new

pub invariant_of-self : goal.invariant_of-self
invariant_of-self c =
    let fit : SFits w128 c.args.value = search rules in
    let b = c.self.inside in
    let v : Volume = b.overlay.volume in
    let new : c.write.new.bytes ≡ bytes v.head.order c.args.place.kind c.args.value = rw (c.head.ensures, to_z-of_z) at c.write.ensures in
    let at = c.from-2.ensures ∙ c.binary_offset.ensures in
    let w : Volume = with_header_bytes v c.from-2.result c.write.new.bytes in
    let e : CountedVolume PackedRecord = c.put_head.new.self in
    let is : e.volume ≡ w = ap (λ (o : CountedVolume PackedRecord). o.volume) c.put_head.ensures in
    let stays : e.reads ≡ b.overlay.reads = ap (λ (o : CountedVolume PackedRecord). o.reads) c.put_head.ensures in
    held_edited b e b.reports w (records_in b) c.self.invariant is (ap (λ (o : CountedVolume PackedRecord). o.prepared) c.put_head.ensures ∙ sym is)
    (ap (λ (o : CountedVolume PackedRecord). map record_in o.payloads) c.put_head.ensures) refl
    (frame_header b.limits v c.from-2.result c.write.new.bytes c.self.invariant.frame (bin_room (state_of b) c.args.place c.args.value c.from-2.result c.write.new.bytes c.requires at new)) c.self.invariant.measured
    (λ sure. after_cut (state_of b) (SetBin (field.Place c.args.place) c.args.value) w
    (bin_done (state_of b) c.args.place c.args.value w c.from-2.result c.write.new.bytes (c.self.invariant.cut (subst HaveAgreed stays sure)) c.requires at new refl))
    (λ sure. c.self.invariant.records (subst HaveAgreed stays sure)) c.self.invariant.reports

pub returns-clause-after : goal.returns-clause-after
returns-clause-after c =
    let fit : SFits w128 c.args.value = search rules in
    let b = c.self.inside in
    let new : c.write.new.bytes ≡ bytes b.overlay.volume.head.order c.args.place.kind c.args.value = rw (c.head.ensures, to_z-of_z) at c.write.ensures in
    let w : Volume = with_header_bytes b.overlay.volume c.from-2.result c.write.new.bytes in
    let stays : c.put_head.new.self.reads ≡ b.overlay.reads = ap (λ (o : CountedVolume PackedRecord). o.reads) c.put_head.ensures in
    let state = state_with b c.put_head.new.self w (ap (λ (o : CountedVolume PackedRecord). o.volume) c.put_head.ensures) (ap (λ (o : CountedVolume PackedRecord). o.loaded) c.put_head.ensures) in
    rw (← c.self.view_is) (λ sure. rw state
    (bin_done (state_of b) c.args.place c.args.value w c.from-2.result c.write.new.bytes (c.self.invariant.cut (subst HaveAgreed stays sure)) c.requires (c.from-2.ensures ∙ c.binary_offset.ensures) new refl))

pub returns-clause-same : goal.returns-clause-same
returns-clause-same c =
    let b = c.self.inside in
    let w : Volume = with_header_bytes b.overlay.volume c.from-2.result c.write.new.bytes in
    rw (← c.self.view_is) (read_as _ _ w (state_with b c.put_head.new.self w (ap (λ (o : CountedVolume PackedRecord). o.volume) c.put_head.ensures) (ap (λ (o : CountedVolume PackedRecord). o.loaded) c.put_head.ensures)))
