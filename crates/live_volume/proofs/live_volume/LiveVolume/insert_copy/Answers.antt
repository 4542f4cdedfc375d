use Rattle.std.proofs.Common.{◌≡◌, ◌∙◌, ◌-◌, ◌≤◌, ◌+◌, ap, sym, subst, refl, length, arith}
use Rattle.edit_overlay.specs.Reads.{Follow, HaveAgreed}
use Rattle.frame_cut.specs.Cuts.{IsTrace}
use Rattle.frame_cut.specs.Parts.{with_inserted}
use Rattle.frame_cut.specs.Traces.{count_of, trace_at}
use Rattle.frame_cut.specs.Volume.{Volume, bytes_of}
use Rattle.trace_record.specs.Facts.{facts_of}
use Rattle.trace_record.specs.OfTrace.{record_of}
use Rattle.bench_rules.specs.declared.edit.Edit.TheVariants.{Copy}
use Rattle.bench_rules.specs.State.{State, Session}
use Rattle.bench_rules.specs.Steps.{IsAfter}
use Rattle.bench_rules.proofs.AcceptedLemmas.{copy_accepted}
use Rattle.bench_rules.proofs.HeaderEditLemmas.{after_cut}
use Rattle.bench_rules.proofs.TraceStepLemmas.{copy_done}
use Rattle.volume_records.proofs.RecordLemmas.{record_at, record_beside}
use Rattle.live_volume.specs.Held.{state_of, with_volume, IsCutAs, records_in}
use Rattle.live_volume.proofs.HeldLemmas.{on_ok, read_as_either, read_as_through}
use Rattle.live_volume.proofs.MeasuredLemmas.{measured_at}
use Rattle.live_volume.proofs.live_volume.LiveVolume.insert_copy.Goals as goal

pub insert-requires-clause-whole : goal.insert-requires-clause-whole
insert-requires-clause-whole c =
    let s = state_of c.self.inside in
    let st : c.trace_bytes.new.self.state ≡ s = c.trace_bytes.ensures.seen.state ∙ sym (ap (λ (x : Session). x.state) c.self.view_is) in
    let whole : IsTrace s.volume.head c.in_ok-bytes.bytes.items = rw (← c.self.view_is) at c.in_ok-bytes.ensures.whole in
    subst (λ (u : State). IsTrace u.volume.head c.in_ok-bytes.bytes.items) (sym st) whole

pub insert-requires-clause-last : goal.insert-requires-clause-last
insert-requires-clause-last c =
    let s = state_of c.self.inside in
    let st : c.trace_bytes.new.self.state ≡ s = c.trace_bytes.ensures.seen.state ∙ sym (ap (λ (x : Session). x.state) c.self.view_is) in
    let a = copy_accepted s c.args.q c.args.p (rw (← c.self.view_is) at c.requires) in
    subst (λ (u : State). c.args.p ≤ count_of u.volume + 1) (sym st) a.room.place.last

pub insert-requires-clause-few : goal.insert-requires-clause-few
insert-requires-clause-few c =
    let s = state_of c.self.inside in
    let st : c.trace_bytes.new.self.state ≡ s = c.trace_bytes.ensures.seen.state ∙ sym (ap (λ (x : Session). x.state) c.self.view_is) in
    let a = copy_accepted s c.args.q c.args.p (rw (← c.self.view_is) at c.requires) in
    subst (λ (u : State). count_of u.volume + 1 ≤ u.limits.traces) (sym st) a.room.few

pub insert-requires-clause-small : goal.insert-requires-clause-small
insert-requires-clause-small c =
    let s = state_of c.self.inside in
    let st : c.trace_bytes.new.self.state ≡ s = c.trace_bytes.ensures.seen.state ∙ sym (ap (λ (x : Session). x.state) c.self.view_is) in
    let a = copy_accepted s c.args.q c.args.p (rw (← c.self.view_is) at c.requires) in
    let long : length c.in_ok-bytes.bytes.items ≡ length (trace_at s.volume c.args.q) = rw (← c.self.view_is) at c.in_ok-bytes.ensures.long in
    subst (λ (u : State). length (bytes_of u.volume) + length c.in_ok-bytes.bytes.items ≤ u.limits.bytes) (sym st) (rw long a.room.small)

pub insert-requires-clause-number : goal.insert-requires-clause-number
insert-requires-clause-number c =
    let s = state_of c.self.inside in
    let ps = c.self.inside.overlay.payloads in
    let a = copy_accepted s c.args.q c.args.p (rw (← c.self.view_is) at c.requires) in
    let long : length c.in_ok-bytes.bytes.items ≡ length (trace_at s.volume c.args.q) = rw (← c.self.view_is) at c.in_ok-bytes.ensures.long in
    let held =
    measured_at (records_in c.self.inside) s.volume.traces (c.args.q - 1) c.record-trace.result c.self.invariant.measured (omega (arith, a.source.first, a.source.last))
    (record_beside ps ps (c.args.q - 1) (c.args.q - 1) c.payload.result c.record-trace.result refl refl c.payload.ensures c.record-trace.ensures) in
    omega (arith, long, held.0)

pub insert-requires-clause-cut : goal.insert-requires-clause-cut
insert-requires-clause-cut c =
    let s = state_of c.self.inside in
    let none = rw (← c.self.view_is) at c.requires in
    let st : c.trace_bytes.new.self.state ≡ s = c.trace_bytes.ensures.seen.state ∙ sym (ap (λ (x : Session). x.state) c.self.view_is) in
    let copied : HaveAgreed c.trace_bytes.new.self.reads → c.in_ok-bytes.bytes.items ≡ trace_at s.volume c.args.q = rw (← c.self.view_is) at c.in_ok-bytes.ensures.ok in
    let before : Follow c.self.inside.overlay.reads c.trace_bytes.new.self.reads = rw (← c.self.view_is) at c.trace_bytes.ensures.seen.reads in
    let w : Volume = with_inserted s.volume c.args.p c.in_ok-bytes.bytes.items in
    λ sure. subst (λ (u : State). IsCutAs u (with_inserted u.volume c.args.p c.in_ok-bytes.bytes.items)) (sym st)
    (after_cut s (Copy c.args.q c.args.p) w (copy_done s c.args.q c.args.p w c.in_ok-bytes.bytes.items (c.self.invariant.cut (before.agreed sure)) none (copied sure) refl))

pub insert-requires-clause-record : goal.insert-requires-clause-record
insert-requires-clause-record c =
    let s = state_of c.self.inside in
    let ps = c.self.inside.overlay.payloads in
    let none = rw (← c.self.view_is) at c.requires in
    let a = copy_accepted s c.args.q c.args.p none in
    let st : c.trace_bytes.new.self.state ≡ s = c.trace_bytes.ensures.seen.state ∙ sym (ap (λ (x : Session). x.state) c.self.view_is) in
    let copied : HaveAgreed c.trace_bytes.new.self.reads → c.in_ok-bytes.bytes.items ≡ trace_at s.volume c.args.q = rw (← c.self.view_is) at c.in_ok-bytes.ensures.ok in
    let before : Follow c.self.inside.overlay.reads c.trace_bytes.new.self.reads = rw (← c.self.view_is) at c.trace_bytes.ensures.seen.reads in
    λ sure. subst (λ (u : State). facts_of c.record-trace.result ≡ record_of u.volume.head u.fields c.in_ok-bytes.bytes.items) (sym st)
    (record_at s.volume s.fields (records_in c.self.inside) c.args.q c.record-trace.result a.source.first a.source.last (c.self.invariant.records (before.agreed sure))
    (record_beside ps ps (c.args.q - 1) (c.args.q - 1) c.payload.result c.record-trace.result refl refl c.payload.ensures c.record-trace.ensures)
    ∙ ap (record_of s.volume.head s.fields) (sym (copied sure)))

pub returns-clause-ok : goal.returns-clause-ok
returns-clause-ok c =
    let s = state_of c.self.inside in
    let none = rw (← c.self.view_is) at c.requires in
    let st : c.trace_bytes.new.self.state ≡ s = c.trace_bytes.ensures.seen.state ∙ sym (ap (λ (x : Session). x.state) c.self.view_is) in
    let copied : HaveAgreed c.trace_bytes.new.self.reads → c.in_ok-bytes.bytes.items ≡ trace_at s.volume c.args.q = rw (← c.self.view_is) at c.in_ok-bytes.ensures.ok in
    let before : Follow c.self.inside.overlay.reads c.trace_bytes.new.self.reads = rw (← c.self.view_is) at c.trace_bytes.ensures.seen.reads in
    let w : Volume = with_inserted s.volume c.args.p c.in_ok-bytes.bytes.items in
    on_ok c.insert.result (λ e sure.
    let mid = c.insert.ensures.reads.agreed sure in
    subst (λ (u : State). IsAfter c.args.self.now.state (Copy c.args.q c.args.p) u) (sym e)
    (subst (λ (u : State). IsAfter c.args.self.now.state (Copy c.args.q c.args.p) (with_volume u (with_inserted u.volume c.args.p c.in_ok-bytes.bytes.items))) (sym st)
    (rw (← c.self.view_is) (copy_done s c.args.q c.args.p w c.in_ok-bytes.bytes.items (c.self.invariant.cut (before.agreed mid)) none (copied mid) refl)))) c.insert.ensures.ok

pub returns-clause-same : goal.returns-clause-same
returns-clause-same c = read_as_through _ _ _ c.trace_bytes.ensures.seen.state (read_as_either _ c.insert.result _ _ _ c.insert.ensures.ok c.insert.ensures.err)
