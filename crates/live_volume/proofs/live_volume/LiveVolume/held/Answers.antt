use Rattle.std.proofs.Common.{◌-◌, ◌≤◌, refl, arith}
use Rattle.frame_cut.specs.Traces.{count_of}
use Rattle.frame_cut.specs.Volume.{Volume}
use Rattle.volume_records.proofs.RecordLemmas.{record_at, record_beside}
use Rattle.live_volume.specs.Held.{records_in}
use Rattle.live_volume.proofs.MeasuredLemmas.{measured_at}
use Rattle.live_volume.proofs.live_volume.LiveVolume.held.Goals as goal

pub returns-clause-facts : goal.returns-clause-facts
returns-clause-facts c =
    let ps = c.self.inside.overlay.payloads in
    let i = c.args.p - 1 in
    let beside = record_beside ps ps i i c.payload.result c.record.result refl refl c.payload.ensures c.record.ensures in
    rw (← c.self.view_is)
    (λ sure. record_at c.self.inside.overlay.volume c.self.inside.fields.pairs (records_in c.self.inside) c.args.p c.record.result c.requires.first (rw (← c.self.view_is) at c.requires.last) (c.self.invariant.records sure) beside)

pub returns-clause-few : goal.returns-clause-few
returns-clause-few c =
    let v : Volume = c.self.inside.overlay.volume in
    let ps = c.self.inside.overlay.payloads in
    let i = c.args.p - 1 in
    let last : c.args.p ≤ count_of v = rw (← c.self.view_is) at c.requires.last in
    let beside = record_beside ps ps i i c.payload.result c.record.result refl refl c.payload.ensures c.record.ensures in
    rw (← c.self.view_is) (measured_at (records_in c.self.inside) v.traces i c.record.result c.self.invariant.measured (omega (arith, c.requires.first, last)) beside).0
