use Rattle.std.proofs.Common.{Some, length, refl, sym}
use Rattle.slab.specs.Slab.{with_value, Updates}
use Rattle.trace_store.specs.declared.slot.Slot.{Slot}
use Rattle.trace_store.specs.Slots.{IsSlot}
use Rattle.trace_store.proofs.SlotLemmas.{slot-found, slot-missed, bases-kept, traces-kept, write-updates, write-counts, held-changed}
use Rattle.trace_store.proofs.PayloadLemmas.{payloads-changed}
use Rattle.trace_store.proofs.store.TraceStore.set_payload.Goals as goal

pub unreachable-requires : goal.unreachable-requires
unreachable-requires g c =
    let s = c.args.self.now in
    slot-missed s.loaded s.head s.order.ids s.slots c.args.p c.id-id.result s.sound.held c.id-id.ensures (sym c.in-None.ensures.value)

pub invariant_of-self : goal.invariant_of-self
invariant_of-self g c =
    let s = c.args.self.now in
    let id = c.id-id.result in
    let old : Slot g.row.T.Denot = c.in-Some.slot.now in
    let new : Slot g.row.T.Denot = record { layers = old.layers; payload = c.args.payload } in
    let slot = slot-found s.loaded s.head s.order.ids s.slots c.args.p id old s.sound.held c.id-id.ensures (sym c.in-Some.ensures.value) in
    let sound : IsSlot s.loaded s.head new = record { inside = slot.inside; room = slot.room; fit = slot.fit; whole = slot.whole } in
    let up : Updates s.slots (with_value s.slots id new) id (Some new) = write-updates s.slots id old new (sym c.in-Some.ensures.value) in
    record {
      sound = record {
        held = held-changed s.loaded s.head s.order.ids s.slots (with_value s.slots id new) id new s.sound.held up sound;
        distinct = s.sound.distinct;
        no_more = write-counts s.slots id old new (length s.order.ids) (sym c.in-Some.ensures.value) s.sound.no_more;
        few = s.sound.few;
      };
    }

pub returns-clause-bases : goal.returns-clause-bases
returns-clause-bases g c =
    let s = c.args.self.now in
    let id = c.id-id.result in
    let old : Slot g.row.T.Denot = c.in-Some.slot.now in
    let new : Slot g.row.T.Denot = record { layers = old.layers; payload = c.args.payload } in
    let up : Updates s.slots (with_value s.slots id new) id (Some new) = write-updates s.slots id old new (sym c.in-Some.ensures.value) in
    bases-kept s.loaded.bytes s.order.ids s.slots (with_value s.slots id new) id old new (sym c.in-Some.ensures.value) refl up

pub returns-clause-traces : goal.returns-clause-traces
returns-clause-traces g c =
    let s = c.args.self.now in
    let id = c.id-id.result in
    let old : Slot g.row.T.Denot = c.in-Some.slot.now in
    let new : Slot g.row.T.Denot = record { layers = old.layers; payload = c.args.payload } in
    let up : Updates s.slots (with_value s.slots id new) id (Some new) = write-updates s.slots id old new (sym c.in-Some.ensures.value) in
    traces-kept s.loaded.bytes s.order.ids s.slots (with_value s.slots id new) id old new (sym c.in-Some.ensures.value) refl refl up

pub returns-clause-payloads : goal.returns-clause-payloads
returns-clause-payloads g c =
    let s = c.args.self.now in
    let id = c.id-id.result in
    let old : Slot g.row.T.Denot = c.in-Some.slot.now in
    let new : Slot g.row.T.Denot = record { layers = old.layers; payload = c.args.payload } in
    let up : Updates s.slots (with_value s.slots id new) id (Some new) = write-updates s.slots id old new (sym c.in-Some.ensures.value) in
    payloads-changed s.loaded s.head s.order.ids s.slots s.sound.held (with_value s.slots id new) c.args.p id new s.sound.distinct c.id-id.ensures up
