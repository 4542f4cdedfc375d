use Rattle.std.proofs.Common.{◌≡◌, ◌∙◌, ◌-◌, List, map, ap, sym, subst, arith, refl}
use Rattle.std.specs.List.{remove}
use Rattle.frame_cut.specs.Parts.{without}
use Rattle.frame_cut.specs.Volume.{Volume}
use Rattle.bench_rules.specs.declared.edit.Edit.TheVariants.{Delete}
use Rattle.edit_overlay.specs.CountedVolume.{CountedVolume}
use Rattle.edit_overlay.specs.Reads.{HaveAgreed}
use Rattle.trace_record.specs.Packed.{record_in}
use Rattle.trace_record.specs.declared.packed_record.PackedRecord.{PackedRecord}
use Rattle.trace_record.specs.declared.record.Record.{Record}
use Rattle.record_table.proofs.ListLemmas.{map-remove}
use Rattle.live_reports.specs.OfRecords.{AreReportsOf}
use Rattle.volume_records.proofs.EditLemmas.{records-without}
use Rattle.live_volume.specs.Held.{state_of, records_in}
use Rattle.live_volume.proofs.EditLemmas.{held_edited, state_with}
use Rattle.live_volume.proofs.HeldLemmas.{read_as}
use Rattle.live_volume.proofs.MeasuredLemmas.{as_many, frame_without, measured_remove}
use Rattle.bench_rules.proofs.AcceptedLemmas.{there_is}
use Rattle.bench_rules.proofs.HeaderEditLemmas.{after_cut}
use Rattle.bench_rules.proofs.TraceStepLemmas.{delete_done}
use Rattle.live_volume.proofs.live_volume.LiveVolume.take_out.Goals as goal

pub remove-requires-clause-counted : goal.remove-requires-clause-counted
remove-requires-clause-counted c =
    let same : c.new.result ≡ records_in c.self.inside = c.new.ensures ∙ ap (λ (ps : List PackedRecord). map record_in ps) c.payloads.ensures in
    subst (λ (l : List Record). AreReportsOf c.self.inside.reports l) (sym same) c.self.invariant.reports

pub remove-requires-clause-place : goal.remove-requires-clause-place
remove-requires-clause-place c =
    let same : c.new.result ≡ records_in c.self.inside = c.new.ensures ∙ ap (λ (ps : List PackedRecord). map record_in ps) c.payloads.ensures in
    let there = there_is c.self.inside.overlay.volume c.args.p (rw (← c.self.view_is) at c.requires) in
    rw same (omega (arith, as_many (records_in c.self.inside) c.self.inside.overlay.volume.traces c.self.invariant.measured, there.first, there.last))

pub invariant_of-self : goal.invariant_of-self
invariant_of-self c =
    let b = c.self.inside in
    let v : Volume = b.overlay.volume in
    let rs : List Record = records_in b in
    let none = rw (← c.self.view_is) at c.requires in
    let there = there_is v c.args.p none in
    let e : CountedVolume PackedRecord = c.delete.new.self in
    let after = c.delete.ensures.after in
    let same : c.new.result ≡ rs = c.new.ensures ∙ ap (λ (ps : List PackedRecord). map record_in ps) c.payloads.ensures in
    let is : e.volume ≡ without v c.args.p = ap (λ (o : CountedVolume PackedRecord). o.volume) after in
    let gone : map record_in e.payloads ≡ remove rs (c.args.p - 1) = ap (λ (o : CountedVolume PackedRecord). map record_in o.payloads) after ∙ map-remove record_in b.overlay.payloads (c.args.p - 1) in
    let stays : e.reads ≡ b.overlay.reads = ap (λ (o : CountedVolume PackedRecord). o.reads) after in
    held_edited b e c.remove.new.self (without v c.args.p) (remove rs (c.args.p - 1)) c.self.invariant is (ap (λ (o : CountedVolume PackedRecord). o.prepared) after ∙ sym is) gone refl
    (frame_without b.limits v c.args.p c.self.invariant.frame there.first there.last) (measured_remove rs v.traces (c.args.p - 1) c.self.invariant.measured)
    (λ sure. after_cut (state_of b) (Delete c.args.p) (without v c.args.p) (delete_done (state_of b) c.args.p (without v c.args.p) (c.self.invariant.cut (subst HaveAgreed stays sure)) none refl))
    (λ sure. records-without v b.fields.pairs rs c.args.p (c.self.invariant.records (subst HaveAgreed stays sure)))
    (subst (λ (l : List Record). AreReportsOf c.remove.new.self (remove l (c.args.p - 1))) same c.remove.ensures)

pub returns-clause-after : goal.returns-clause-after
returns-clause-after c =
    let b = c.self.inside in
    let after = c.delete.ensures.after in
    let stays : c.delete.new.self.reads ≡ b.overlay.reads = ap (λ (o : CountedVolume PackedRecord). o.reads) after in
    let there = state_with b c.delete.new.self (without b.overlay.volume c.args.p) (ap (λ (o : CountedVolume PackedRecord). o.volume) after) (ap (λ (o : CountedVolume PackedRecord). o.loaded) after) in
    rw (← c.self.view_is) (λ sure. rw there (delete_done (state_of b) c.args.p (without b.overlay.volume c.args.p) (c.self.invariant.cut (subst HaveAgreed stays sure)) (rw (← c.self.view_is) at c.requires) refl))

pub returns-clause-same : goal.returns-clause-same
returns-clause-same c =
    let b = c.self.inside in
    let after = c.delete.ensures.after in
    rw (← c.self.view_is) (read_as _ _ (without b.overlay.volume c.args.p)
    (state_with b c.delete.new.self (without b.overlay.volume c.args.p) (ap (λ (o : CountedVolume PackedRecord). o.volume) after) (ap (λ (o : CountedVolume PackedRecord). o.loaded) after)))
