use Rattle.std.proofs.Common.{◌-◌, ◌∙◌, ℕ, List, Some, length, sym, ap}
use Rattle.std.specs.Prelude.{slice_set}
use Rattle.slab.specs.Slab.{with_value, Updates}
use Rattle.trace_store.specs.declared.base.Base.TheVariants.{Added}
use Rattle.trace_store.specs.declared.slot.Slot.{Slot}
use Rattle.trace_store.specs.Stores.{traces_of}
use Rattle.trace_store.proofs.SlotLemmas.{slot-missed, write-updates, write-counts, traces-changed, held-changed, fresh-slot, IsFreshSlot}
use Rattle.trace_store.proofs.PayloadLemmas.{payloads-changed}
use Rattle.trace_store.proofs.store.TraceStore.replace.Goals as goal

pub unreachable-requires : goal.unreachable-requires
unreachable-requires g c =
    let s = c.args.self.now in
    slot-missed s.loaded s.head s.order.ids s.slots c.args.p c.id-id.result s.sound.held c.id-id.ensures (sym c.in-None.ensures.value)

pub invariant_of-self : goal.invariant_of-self
invariant_of-self g c =
    let s = c.args.self.now in
    let new : Slot g.row.T.Denot = record { layers = c.added.result; payload = c.args.payload } in
    let fresh : IsFreshSlot s.loaded s.head new (Added c.args.bytes.value) = fresh-slot s.loaded s.head new (Added c.args.bytes.value) c.added.ensures tt tt c.requires.whole in
    let up : Updates s.slots (with_value s.slots c.id-id.result new) c.id-id.result (Some new) = write-updates s.slots c.id-id.result c.in-Some.slot.now new (sym c.in-Some.ensures.value) in
    record {
      sound = record {
        held = held-changed s.loaded s.head s.order.ids s.slots (with_value s.slots c.id-id.result new) c.id-id.result new s.sound.held up fresh.sound;
        distinct = s.sound.distinct;
        no_more = write-counts s.slots c.id-id.result c.in-Some.slot.now new (length s.order.ids) (sym c.in-Some.ensures.value) s.sound.no_more;
        few = s.sound.few;
      };
    }

pub returns-clause-traces : goal.returns-clause-traces
returns-clause-traces g c =
    let s = c.args.self.now in
    let new : Slot g.row.T.Denot = record { layers = c.added.result; payload = c.args.payload } in
    let fresh : IsFreshSlot s.loaded s.head new (Added c.args.bytes.value) = fresh-slot s.loaded s.head new (Added c.args.bytes.value) c.added.ensures tt tt c.requires.whole in
    let up : Updates s.slots (with_value s.slots c.id-id.result new) c.id-id.result (Some new) = write-updates s.slots c.id-id.result c.in-Some.slot.now new (sym c.in-Some.ensures.value) in
    traces-changed s.loaded.bytes s.order.ids s.slots (with_value s.slots c.id-id.result new) c.args.p c.id-id.result new s.sound.distinct c.id-id.ensures up
    ∙ ap (λ (t : List ℕ). slice_set (traces_of s) (c.args.p - 1) t) fresh.shows

pub returns-clause-payloads : goal.returns-clause-payloads
returns-clause-payloads g c =
    let s = c.args.self.now in
    let new : Slot g.row.T.Denot = record { layers = c.added.result; payload = c.args.payload } in
    let up : Updates s.slots (with_value s.slots c.id-id.result new) c.id-id.result (Some new) = write-updates s.slots c.id-id.result c.in-Some.slot.now new (sym c.in-Some.ensures.value) in
    payloads-changed s.loaded s.head s.order.ids s.slots s.sound.held (with_value s.slots c.id-id.result new) c.args.p c.id-id.result new s.sound.distinct c.id-id.ensures up
