use Rattle.std.proofs.Common.{◌≡◌, ◌∙◌, ◌-◌, List, map, ap, sym, subst, arith, refl}
use Rattle.frame_cut.specs.Parts.{with_moved}
use Rattle.frame_cut.specs.Volume.{Volume}
use Rattle.bench_rules.specs.declared.edit.Edit.TheVariants.{Move}
use Rattle.edit_overlay.specs.CountedVolume.{CountedVolume}
use Rattle.edit_overlay.specs.Reads.{HaveAgreed}
use Rattle.trace_record.specs.Packed.{record_in}
use Rattle.trace_record.specs.declared.packed_record.PackedRecord.{PackedRecord}
use Rattle.trace_record.specs.declared.record.Record.{Record}
use Rattle.trace_store.specs.Moved.{with_moved as records_moved}
use Rattle.record_table.proofs.ListLemmas.{map-with_moved}
use Rattle.live_reports.proofs.EditLemmas.{move_counts}
use Rattle.volume_records.proofs.EditLemmas.{records-with_moved}
use Rattle.live_volume.specs.Held.{state_of, records_in}
use Rattle.live_volume.proofs.EditLemmas.{held_edited, state_with}
use Rattle.live_volume.proofs.HeldLemmas.{read_as}
use Rattle.live_volume.proofs.MeasuredLemmas.{as_many, frame_moved, measured_moved}
use Rattle.bench_rules.proofs.AcceptedLemmas.{move_accepted}
use Rattle.bench_rules.proofs.HeaderEditLemmas.{after_cut}
use Rattle.bench_rules.proofs.TraceStepLemmas.{move_done}
use Rattle.live_volume.proofs.live_volume.LiveVolume.put_elsewhere.Goals as goal

pub invariant_of-self-2 : goal.invariant_of-self-2
invariant_of-self-2 c =
    let b = c.self.inside in
    let v : Volume = b.overlay.volume in
    let rs : List Record = records_in b in
    let w : Volume = with_moved v c.args.a c.args.b in
    let none = rw (← c.self.view_is) at c.requires in
    let m = move_accepted (state_of b) c.args.a c.args.b none in
    let many = as_many rs v.traces c.self.invariant.measured in
    let e : CountedVolume PackedRecord = c.move_to.new.self in
    let ok = c.in_ok-move_to.ensures.ok in
    let is : e.volume ≡ w = ap (λ (o : CountedVolume PackedRecord). o.volume) ok in
    let moved : map record_in e.payloads ≡ records_moved rs (c.args.a - 1) (c.args.b - 1) =
    ap (λ (o : CountedVolume PackedRecord). map record_in o.payloads) ok ∙ map-with_moved record_in b.overlay.payloads (c.args.a - 1) (c.args.b - 1) in
    let stays : e.reads ≡ b.overlay.reads = ap (λ (o : CountedVolume PackedRecord). o.reads) ok in
    held_edited b e b.reports w (records_moved rs (c.args.a - 1) (c.args.b - 1)) c.self.invariant is (ap (λ (o : CountedVolume PackedRecord). o.prepared) ok ∙ sym is) moved refl
    (frame_moved b.limits v c.args.a c.args.b c.self.invariant.frame m.source.first m.source.last)
    (measured_moved rs v.traces (c.args.a - 1) (c.args.b - 1) (omega (arith, m.source.first, m.source.last)) c.self.invariant.measured)
    (λ sure. after_cut (state_of b) (Move c.args.a c.args.b) w (move_done (state_of b) c.args.a c.args.b w (c.self.invariant.cut (subst HaveAgreed stays sure)) none refl))
    (λ sure. records-with_moved v b.fields.pairs rs c.args.a c.args.b m.source.first m.source.last (c.self.invariant.records (subst HaveAgreed stays sure)))
    (move_counts rs (c.args.a - 1) (c.args.b - 1) (omega (arith, many, m.source.first, m.source.last)) (omega (arith, many, m.target.first, m.target.last)) b.reports.values c.self.invariant.reports)

pub returns-clause-ok : goal.returns-clause-ok
returns-clause-ok c =
    let b = c.self.inside in
    let ok = c.in_ok-move_to.ensures.ok in
    let stays : c.move_to.new.self.reads ≡ b.overlay.reads = ap (λ (o : CountedVolume PackedRecord). o.reads) ok in
    let w : Volume = with_moved b.overlay.volume c.args.a c.args.b in
    let there = state_with b c.move_to.new.self w (ap (λ (o : CountedVolume PackedRecord). o.volume) ok) (ap (λ (o : CountedVolume PackedRecord). o.loaded) ok) in
    rw (← c.self.view_is) (λ sure. rw there (move_done (state_of b) c.args.a c.args.b w (c.self.invariant.cut (subst HaveAgreed stays sure)) (rw (← c.self.view_is) at c.requires) refl))

pub returns-clause-same : goal.returns-clause-same
returns-clause-same c =
    let b = c.self.inside in
    let ok = c.in_ok-move_to.ensures.ok in
    let w : Volume = with_moved b.overlay.volume c.args.a c.args.b in
    rw (← c.self.view_is) (read_as _ _ w (state_with b c.move_to.new.self w (ap (λ (o : CountedVolume PackedRecord). o.volume) ok) (ap (λ (o : CountedVolume PackedRecord). o.loaded) ok)))
