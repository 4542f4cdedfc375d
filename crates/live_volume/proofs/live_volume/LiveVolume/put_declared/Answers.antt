use Rattle.std.proofs.Common.{◌≡◌, ◌∙◌, ◌+◌, ◌≤◌, ap, refl, List, map, length, subst, rules, sym}
use Rattle.frame_cut.specs.Parts.{with_header_bytes}
use Rattle.frame_cut.specs.Volume.{Volume}
use Rattle.declared_frame.specs.Written.{declared}
use Rattle.bench_rules.specs.declared.edit.Edit.TheVariants.{Declare}
use Rattle.edit_overlay.specs.CountedVolume.{CountedVolume}
use Rattle.edit_overlay.specs.Reads.{HaveAgreed}
use Rattle.trace_record.specs.declared.packed_record.PackedRecord.{PackedRecord}
use Rattle.trace_record.specs.Packed.{record_in}
use Rattle.live_volume.specs.Held.{state_of, records_in}
use Rattle.bench_rules.proofs.DeclareLemmas.{declare_done}
use Rattle.bench_rules.proofs.HeaderEditLemmas.{after_cut}
use Rattle.live_volume.proofs.EditLemmas.{held_edited, state_with}
use Rattle.live_volume.proofs.HeldLemmas.{read_as}
use Rattle.live_volume.proofs.MeasuredLemmas.{frame_header}
use Rattle.live_volume.proofs.live_volume.LiveVolume.put_declared.Goals as goal

pub invariant_of-self : goal.invariant_of-self
invariant_of-self c =
    let b = c.self.inside in
    let v : Volume = b.overlay.volume in
    let new : c.declared-new.result ≡ declared b.reading v.head v.bin = rw (c.head.ensures, c.bin.ensures) at c.declared-new.ensures in
    let w : Volume = with_header_bytes v 0 c.declared-new.result in
    let e : CountedVolume PackedRecord = c.put_head.new.self in
    let is : e.volume ≡ w = ap (λ (o : CountedVolume PackedRecord). o.volume) c.put_head.ensures in
    let stays : e.reads ≡ b.overlay.reads = ap (λ (o : CountedVolume PackedRecord). o.reads) c.put_head.ensures in
    let size : 0 + length c.declared-new.result ≤ 400 = search rules in
    held_edited b e b.reports w (records_in b) c.self.invariant is (ap (λ (o : CountedVolume PackedRecord). o.prepared) c.put_head.ensures ∙ sym is)
    (ap (λ (o : CountedVolume PackedRecord). map record_in o.payloads) c.put_head.ensures) refl
    (frame_header b.limits v 0 c.declared-new.result c.self.invariant.frame size) c.self.invariant.measured
    (λ sure. after_cut (state_of b) Declare w (declare_done (state_of b) w c.declared-new.result (c.self.invariant.cut (subst HaveAgreed stays sure)) new refl))
    (λ sure. c.self.invariant.records (subst HaveAgreed stays sure)) c.self.invariant.reports

pub returns-clause-after : goal.returns-clause-after
returns-clause-after c =
    let b = c.self.inside in
    let v : Volume = b.overlay.volume in
    let new : c.declared-new.result ≡ declared b.reading v.head v.bin = rw (c.head.ensures, c.bin.ensures) at c.declared-new.ensures in
    let w : Volume = with_header_bytes v 0 c.declared-new.result in
    let stays : c.put_head.new.self.reads ≡ b.overlay.reads = ap (λ (o : CountedVolume PackedRecord). o.reads) c.put_head.ensures in
    let state = state_with b c.put_head.new.self w (ap (λ (o : CountedVolume PackedRecord). o.volume) c.put_head.ensures) (ap (λ (o : CountedVolume PackedRecord). o.loaded) c.put_head.ensures) in
    rw (← c.self.view_is) (λ sure. rw state (declare_done (state_of b) w c.declared-new.result (c.self.invariant.cut (subst HaveAgreed stays sure)) new refl))

pub returns-clause-same : goal.returns-clause-same
returns-clause-same c =
    let b = c.self.inside in
    let w : Volume = with_header_bytes b.overlay.volume 0 c.declared-new.result in
    rw (← c.self.view_is) (read_as _ _ w (state_with b c.put_head.new.self w (ap (λ (o : CountedVolume PackedRecord). o.volume) c.put_head.ensures) (ap (λ (o : CountedVolume PackedRecord). o.loaded) c.put_head.ensures)))
