use Rattle.std.proofs.Common.{◌≡◌, ◌∙◌, ◌+◌, ◌-◌, ◌<◌, ◌≤◌, ◌^◌, IsTrue, List, length, map, ap, sym, arith, subst, rules, refl}
use Rattle.frame_cut.specs.Cuts.{IsCut, IsTrace}
use Rattle.frame_cut.specs.Traces.{count_of}
use Rattle.frame_cut.specs.Volume.{Volume, bytes_of}
use Rattle.edit_overlay.specs.CountedVolume.{CountedVolume}
use Rattle.edit_overlay.specs.Reads.{Reads, Follow, HaveAgreed}
use Rattle.trace_record.specs.declared.packed_record.PackedRecord.{PackedRecord}
use Rattle.frame_cut.specs.Parts.{with_inserted}
use Rattle.trace_record.specs.Packed.{record_in}
use Rattle.trace_record.specs.declared.record.Record.{Record}
use Rattle.record_table.proofs.ListLemmas.{map-insert}
use Rattle.live_reports.specs.OfRecords.{AreReportsOf}
use Rattle.live_reports.specs.Reports.{AreFew}
use Rattle.std.specs.List.{insert}
use Rattle.volume_records.proofs.EditLemmas.{records-with_inserted}
use Rattle.live_volume.proofs.EditLemmas.{held_edited, held_unedited}
use Rattle.live_volume.proofs.MeasuredLemmas.{as_many, few_measured, frame_inserted, header_of_trace, measured_insert}
use Rattle.live_volume.specs.Held.{records_in}
use Rattle.live_volume.proofs.live_volume.LiveVolume.insert.Goals as goal

pub insert-requires-clause-counted : goal.insert-requires-clause-counted
insert-requires-clause-counted c =
    let same : c.new.result ≡ records_in c.self.inside = c.new.ensures ∙ ap (λ (ps : List PackedRecord). map record_in ps) c.payloads.ensures in
    subst (λ (l : List Record). AreReportsOf c.self.inside.reports l) (sym same) c.self.invariant.reports

pub insert-requires-clause-place : goal.insert-requires-clause-place
insert-requires-clause-place c =
    let same : c.new.result ≡ records_in c.self.inside = c.new.ensures ∙ ap (λ (ps : List PackedRecord). map record_in ps) c.payloads.ensures in
    let many = as_many (records_in c.self.inside) c.self.inside.overlay.volume.traces c.self.invariant.measured in
    let last : c.args.p ≤ count_of c.self.inside.overlay.volume + 1 = rw (← c.self.view_is) at c.requires.last in
    rw same (omega (arith, many, last))

pub insert-requires-clause-few : goal.insert-requires-clause-few
insert-requires-clause-few c =
    let b = c.self.inside in
    let v : Volume = b.overlay.volume in
    let t = c.args.bytes.items in
    let same : c.new.result ≡ records_in b = c.new.ensures ∙ ap (λ (ps : List PackedRecord). map record_in ps) c.payloads.ensures in
    let few : count_of v + 1 ≤ b.limits.traces = rw (← c.self.view_is) at c.requires.few in
    let small : length (bytes_of v) + length t ≤ b.limits.bytes = rw (← c.self.view_is) at c.requires.small in
    let whole : IsTrace v.head t = rw (← c.self.view_is) at c.requires.whole in
    let measured = measured_insert (records_in b) v.traces (c.args.p - 1) c.args.trace.now t c.requires.number (header_of_trace v.head t whole) c.self.invariant.measured in
    subst (λ (l : List Record). AreFew (insert l (c.args.p - 1) c.args.trace.now)) (sym same)
    (few_measured b.limits (with_inserted v c.args.p t) (insert (records_in b) (c.args.p - 1) c.args.trace.now) (frame_inserted b.limits v c.args.p t c.self.invariant.frame few small) (search rules) measured)

pub insert-requires-2-clause-few : goal.insert-requires-2-clause-few
insert-requires-2-clause-few c =
    let b = c.self.inside in
    let few : count_of b.overlay.volume + 1 ≤ b.limits.traces = rw (← c.self.view_is) at c.requires.few in
    let counted : b.limits.traces < 2 ^ 32 = search rules in
    omega (arith, few, counted)

pub insert-requires-2-clause-small : goal.insert-requires-2-clause-small
insert-requires-2-clause-small c =
    let b = c.self.inside in
    let small : length (bytes_of b.overlay.volume) + length c.args.bytes.items ≤ b.limits.bytes = rw (← c.self.view_is) at c.requires.small in
    omega (arith, small, b.limits.small)

pub invariant_of-self-in-Ok-insert : goal.invariant_of-self-in-Ok-insert
invariant_of-self-in-Ok-insert c =
    let b = c.self.inside in
    let v : Volume = b.overlay.volume in
    let t = c.args.bytes.items in
    let rs : List Record = records_in b in
    let i = c.args.p - 1 in
    let same : c.new.result ≡ rs = c.new.ensures ∙ ap (λ (ps : List PackedRecord). map record_in ps) c.payloads.ensures in
    let few : count_of v + 1 ≤ b.limits.traces = rw (← c.self.view_is) at c.requires.few in
    let small : length (bytes_of v) + length t ≤ b.limits.bytes = rw (← c.self.view_is) at c.requires.small in
    let whole : IsTrace v.head t = rw (← c.self.view_is) at c.requires.whole in
    let w : Volume = with_inserted v c.args.p t in
    let e : CountedVolume PackedRecord = c.insert-2.new.self in
    let ok = c.in-Ok-insert.ensures.ok in
    let is : e.volume ≡ w = ap (λ (o : CountedVolume PackedRecord). o.volume) ok in
    let put : map record_in e.payloads ≡ insert rs i c.args.trace.now =
    ap (λ (o : CountedVolume PackedRecord). map record_in o.payloads) ok ∙ (map-insert record_in b.overlay.payloads i c.of.result ∙ ap (λ (r : Record). insert rs i r) c.of.ensures) in
    let stays : e.reads ≡ b.overlay.reads = ap (λ (o : CountedVolume PackedRecord). o.reads) ok in
    let cut : HaveAgreed b.overlay.reads → IsCut (bytes_of w) b.reading b.limits w = rw (← c.self.view_is) at c.requires.cut in
    let own = rw (← c.self.view_is) at c.requires.record in
    held_edited b e c.insert.new.self w (insert rs i c.args.trace.now) c.self.invariant is (ap (λ (o : CountedVolume PackedRecord). o.prepared) ok ∙ sym is) put refl
    (frame_inserted b.limits v c.args.p t c.self.invariant.frame few small)
    (measured_insert rs v.traces i c.args.trace.now t c.requires.number (header_of_trace v.head t whole) c.self.invariant.measured)
    (λ sure. cut (subst HaveAgreed stays sure))
    (λ sure. records-with_inserted v b.fields.pairs rs c.args.p t c.args.trace.now (c.self.invariant.records (subst HaveAgreed stays sure)) (own (subst HaveAgreed stays sure)))
    (subst (λ (l : List Record). AreReportsOf c.insert.new.self (insert l i c.args.trace.now)) same c.in-Ok.ensures.ok)

pub take_back-requires-clause-counted : goal.take_back-requires-clause-counted
take_back-requires-clause-counted c =
    let i = c.args.p - 1 in
    let same : c.new.result ≡ records_in c.self.inside = c.new.ensures ∙ ap (λ (ps : List PackedRecord). map record_in ps) c.payloads.ensures in
    let back : c.new-in-Err.result ≡ records_in c.self.inside =
    c.new-in-Err.ensures
    ∙ ap (λ (ps : List PackedRecord). map record_in ps) c.payloads-in-Err.ensures
    ∙ ap (λ (o : CountedVolume PackedRecord). map record_in o.payloads) c.in-Err.ensures.err in
    subst (λ (l : List Record). AreReportsOf c.insert.new.self (insert l i c.args.trace.now)) (same ∙ sym back) c.in-Ok.ensures.ok

pub take_back-requires-clause-place : goal.take_back-requires-clause-place
take_back-requires-clause-place c =
    let back : c.new-in-Err.result ≡ records_in c.self.inside =
    c.new-in-Err.ensures
    ∙ ap (λ (ps : List PackedRecord). map record_in ps) c.payloads-in-Err.ensures
    ∙ ap (λ (o : CountedVolume PackedRecord). map record_in o.payloads) c.in-Err.ensures.err in
    let many = as_many (records_in c.self.inside) c.self.inside.overlay.volume.traces c.self.invariant.measured in
    let last : c.args.p ≤ count_of c.self.inside.overlay.volume + 1 = rw (← c.self.view_is) at c.requires.last in
    rw back (omega (arith, many, last))

pub take_back-requires-clause-few : goal.take_back-requires-clause-few
take_back-requires-clause-few c =
    let back : c.new-in-Err.result ≡ records_in c.self.inside =
    c.new-in-Err.ensures
    ∙ ap (λ (ps : List PackedRecord). map record_in ps) c.payloads-in-Err.ensures
    ∙ ap (λ (o : CountedVolume PackedRecord). map record_in o.payloads) c.in-Err.ensures.err in
    subst (λ (l : List Record). AreFew l) (sym back) c.self.invariant.reports.few

pub invariant_of-self-in-Err : goal.invariant_of-self-in-Err
invariant_of-self-in-Err c =
    let b = c.self.inside in
    let e : CountedVolume PackedRecord = c.insert-2.new.self in
    let err = c.in-Err.ensures.err in
    let is : e.volume ≡ b.overlay.volume = ap (λ (o : CountedVolume PackedRecord). o.volume) err in
    let stay : e.payloads ≡ b.overlay.payloads = ap (λ (o : CountedVolume PackedRecord). o.payloads) err in
    let again : c.new-in-Err.result ≡ records_in b =
    c.new-in-Err.ensures ∙ ap (λ (ps : List PackedRecord). map record_in ps) (c.payloads-in-Err.ensures ∙ stay) in
    held_unedited b e c.take_back.new.self c.self.invariant is (ap (λ (o : CountedVolume PackedRecord). o.prepared) err ∙ c.self.invariant.prepared ∙ sym is) stay
    (subst (λ (r : Reads). Follow b.overlay.reads r) (sym (ap (λ (o : CountedVolume PackedRecord). o.reads) err)) (record { agreed = λ sure. sure; failures = omega arith }))
    (subst (λ (l : List Record). AreReportsOf c.take_back.new.self l) again c.take_back.ensures)
