use Rattle.std.proofs.Common.{◌≡◌, ◌-◌, ◌∙◌, true, refl, sym, ap}
use Rattle.std.specs.Prelude.{Option, Some}
use Rattle.edit_overlay.specs.Reads.{HaveAgreed}
use Rattle.field_map.specs.Pairs.{Pairs}
use Rattle.frame_cut.specs.Traces.{is_trace, trace_at}
use Rattle.frame_cut.specs.Volume.{Volume}
use Rattle.trace_record.specs.Facts.{Facts, facts_of}
use Rattle.trace_record.specs.OfTrace.{record_of}
use Rattle.bench_rules.proofs.AcceptedLemmas.{there_is}
use Rattle.volume_records.proofs.RecordLemmas.{record_at, record_beside}
use Rattle.live_volume.specs.Held.{records_in}
use Rattle.live_volume.proofs.live_volume.LiveVolume.record.Goals as goal

pub returns : goal.returns
returns c =
    let v : Volume = c.self.inside.overlay.volume in
    let fields : Pairs = c.self.inside.fields.pairs in
    let is : is_trace v c.args.p ≡ true = rw (← c.self.view_is) at (sym c.has_trace.ensures ∙ c.if-not-has_trace.false) in
    let there = there_is v c.args.p (rw is refl) in
    let facts : HaveAgreed c.self.inside.overlay.reads → facts_of c.record.result ≡ record_of v.head fields (trace_at v c.args.p) =
    λ sure. record_at v fields (records_in c.self.inside) c.args.p c.record.result there.first there.last (c.self.invariant.records sure)
    (record_beside c.self.inside.overlay.payloads c.self.inside.overlay.payloads (c.args.p - 1) (c.args.p - 1) c.payload.result c.record.result refl refl c.payload.ensures c.record.ensures) in
    rw (← c.self.view_is) (λ sure. rw is (ap (λ (f : Facts). let o : Option Facts = Some f in o) (facts sure)))
