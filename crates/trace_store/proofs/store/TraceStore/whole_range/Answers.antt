use Rattle.std.proofs.Common.{sym}
use Rattle.trace_store.proofs.SlotLemmas.{slot-found, slot-missed, trace-at}
use Rattle.trace_store.proofs.FetchLemmas.{range_inside, range_bytes}
use Rattle.trace_store.proofs.store.TraceStore.whole_range.Goals as goal

pub unreachable-requires : goal.unreachable-requires
unreachable-requires g c =
    let s = c.args.self.now in
    slot-missed s.loaded s.head s.order.ids s.slots c.args.p c.id-id.result s.sound.held c.id-id.ensures (sym c.in-None.ensures)

pub returns-clause-inside : goal.returns-clause-inside
returns-clause-inside g c =
    let s = c.args.self.now in
    let slot = c.in-Some.slot.now in
    let sound = slot-found s.loaded s.head s.order.ids s.slots c.args.p c.id-id.result slot s.sound.held c.id-id.ensures (sym c.in-Some.ensures) in
    range_inside s.loaded.bytes slot c.whole_range.result sound.inside c.whole_range.ensures.range

pub returns-clause-bytes : goal.returns-clause-bytes
returns-clause-bytes g c =
    let s = c.args.self.now in
    let slot = c.in-Some.slot.now in
    range_bytes s.loaded.bytes slot _ c.whole_range.result (trace-at s.loaded.bytes s.order.ids s.slots c.args.p c.id-id.result slot c.id-id.ensures (sym c.in-Some.ensures)) c.whole_range.ensures.range
