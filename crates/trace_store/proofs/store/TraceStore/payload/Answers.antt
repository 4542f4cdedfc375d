use Rattle.std.proofs.Common.{sym}
use Rattle.trace_store.proofs.SlotLemmas.{slot-missed}
use Rattle.trace_store.proofs.PayloadLemmas.{payload-found}
use Rattle.trace_store.proofs.store.TraceStore.payload.Goals as goal

pub unreachable-requires : goal.unreachable-requires
unreachable-requires g c =
    let s = c.args.self.now in
    slot-missed s.loaded s.head s.order.ids s.slots c.args.p c.id-id.result s.sound.held c.id-id.ensures (sym c.in-None.ensures)

pub returns : goal.returns
returns g c =
    let s = c.args.self.now in
    payload-found s.loaded s.head s.order.ids s.slots s.sound.held c.args.p c.id-id.result c.in-Some.slot.now c.id-id.ensures (sym c.in-Some.ensures)
