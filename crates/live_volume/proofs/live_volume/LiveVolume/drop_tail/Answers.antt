use Rattle.std.proofs.Common.{◌≡◌, ◌∙◌, ap, refl, map, subst, sym}
use Rattle.frame_cut.specs.Parts.{untailed}
use Rattle.frame_cut.specs.Volume.{Volume}
use Rattle.bench_rules.specs.declared.edit.Edit.TheVariants.{DropTail}
use Rattle.edit_overlay.specs.CountedVolume.{CountedVolume}
use Rattle.edit_overlay.specs.Reads.{HaveAgreed}
use Rattle.trace_record.specs.declared.packed_record.PackedRecord.{PackedRecord}
use Rattle.trace_record.specs.Packed.{record_in}
use Rattle.live_volume.specs.Held.{state_of, records_in}
use Rattle.bench_rules.proofs.DeclareLemmas.{drop_tail_is_after}
use Rattle.bench_rules.proofs.HeaderEditLemmas.{after_cut}
use Rattle.live_volume.proofs.EditLemmas.{held_edited, state_with}
use Rattle.live_volume.proofs.HeldLemmas.{read_as}
use Rattle.live_volume.proofs.MeasuredLemmas.{frame_untailed}
use Rattle.live_volume.proofs.live_volume.LiveVolume.drop_tail.Goals as goal

pub invariant_of-self : goal.invariant_of-self
invariant_of-self c =
    let b = c.self.inside in
    let w : Volume = untailed b.overlay.volume in
    let e : CountedVolume PackedRecord = c.drop_tail.new.self in
    let is : e.volume ≡ w = ap (λ (o : CountedVolume PackedRecord). o.volume) c.drop_tail.ensures in
    let stays : e.reads ≡ b.overlay.reads = ap (λ (o : CountedVolume PackedRecord). o.reads) c.drop_tail.ensures in
    held_edited b e b.reports w (records_in b) c.self.invariant is (ap (λ (o : CountedVolume PackedRecord). o.prepared) c.drop_tail.ensures ∙ sym is)
    (ap (λ (o : CountedVolume PackedRecord). map record_in o.payloads) c.drop_tail.ensures) refl
    (frame_untailed b.limits b.overlay.volume c.self.invariant.frame) c.self.invariant.measured
    (λ sure. after_cut (state_of b) DropTail w (drop_tail_is_after (state_of b) (c.self.invariant.cut (subst HaveAgreed stays sure))))
    (λ sure. c.self.invariant.records (subst HaveAgreed stays sure)) c.self.invariant.reports

pub returns-clause-after : goal.returns-clause-after
returns-clause-after c =
    let b = c.self.inside in
    let w : Volume = untailed b.overlay.volume in
    let stays : c.drop_tail.new.self.reads ≡ b.overlay.reads = ap (λ (o : CountedVolume PackedRecord). o.reads) c.drop_tail.ensures in
    let state = state_with b c.drop_tail.new.self w (ap (λ (o : CountedVolume PackedRecord). o.volume) c.drop_tail.ensures) (ap (λ (o : CountedVolume PackedRecord). o.loaded) c.drop_tail.ensures) in
    rw (← c.self.view_is) (λ sure. rw state (drop_tail_is_after (state_of b) (c.self.invariant.cut (subst HaveAgreed stays sure))))

pub returns-clause-same : goal.returns-clause-same
returns-clause-same c =
    let b = c.self.inside in
    let w : Volume = untailed b.overlay.volume in
    rw (← c.self.view_is) (read_as _ _ w (state_with b c.drop_tail.new.self w (ap (λ (o : CountedVolume PackedRecord). o.volume) c.drop_tail.ensures) (ap (λ (o : CountedVolume PackedRecord). o.loaded) c.drop_tail.ensures)))
