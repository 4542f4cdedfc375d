use Rattle.std.proofs.Common.{◌∙◌, sym}
use Rattle.trace_store.proofs.FetchLemmas.{trace-size}
use Rattle.trace_store.proofs.SlotLemmas.{slot-found, slot-missed}
use Rattle.trace_store.proofs.store.TraceStore.length_of.Goals as goal

pub unreachable-requires : goal.unreachable-requires
unreachable-requires g c =
    let s = c.args.self.now in
    slot-missed s.loaded s.head s.order.ids s.slots c.args.p c.id-id.result s.sound.held c.id-id.ensures (sym c.in-None.ensures)

pub returns : goal.returns
returns g c =
    let s = c.args.self.now in
    let slot = c.in-Some.slot.now in
    let sound = slot-found s.loaded s.head s.order.ids s.slots c.args.p c.id-id.result slot s.sound.held c.id-id.ensures (sym c.in-Some.ensures) in
    c.size.ensures ∙ sym (trace-size s c.args.p c.id-id.result slot c.id-id.ensures (sym c.in-Some.ensures) sound)
