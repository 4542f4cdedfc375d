use Rattle.std.proofs.Common.{◌-◌, [], ◌∙◌, ℕ, List, Some, length, refl, sym, ap, subst}
use Rattle.std.specs.Prelude.{slice_index_or, slice_set}
use Rattle.slab.specs.Slab.{with_value, Updates}
use Rattle.trace_view.specs.Runs.{bytes_with_runs}
use Rattle.trace_store.specs.declared.slot.Slot.{Slot}
use Rattle.trace_store.specs.Layers.{Layered, laid_over}
use Rattle.trace_store.specs.Slots.{base_of, IsSlot}
use Rattle.trace_store.specs.Stores.{bases_of, traces_of}
use Rattle.trace_store.proofs.SlotLemmas.{slot-found, slot-missed, base-at, runs-slot, write-updates, write-counts, traces-changed, held-changed}
use Rattle.trace_store.proofs.PayloadLemmas.{payloads-changed}
use Rattle.trace_store.proofs.store.TraceStore.set_slot.Goals as goal

pub unreachable-requires : goal.unreachable-requires
unreachable-requires g c =
    let s = c.args.self.now in
    slot-missed s.loaded s.head s.order.ids s.slots c.args.p c.id-id.result s.sound.held c.id-id.ensures (sym c.in-None.ensures.value)

pub invariant_of-self : goal.invariant_of-self
invariant_of-self g c =
    let s = c.args.self.now in
    let id = c.id-id.result in
    let old : Slot g.row.T.Denot = c.in-Some.slot.now in
    let new : Slot g.row.T.Denot = record { layers = c.lay.new.self; payload = c.args.payload } in
    let slot = slot-found s.loaded s.head s.order.ids s.slots c.args.p id old s.sound.held c.id-id.ensures (sym c.in-Some.ensures.value) in
    let base = base-at s.loaded.bytes s.order.ids s.slots c.args.p id old c.id-id.ensures (sym c.in-Some.ensures.value) in
    let at : Layered → Slot g.row.T.Denot = λ l. record { layers = l; payload = c.args.payload } in
    let sound : IsSlot s.loaded s.head new =
    subst (λ (l : Layered). IsSlot s.loaded s.head (at l)) (sym c.lay.ensures)
    (runs-slot s.loaded s.head old (at (laid_over old.layers c.args.runs)) (slice_index_or (bases_of s) (c.args.p - 1) []) refl base slot c.requires.runs.fit c.requires.runs.whole) in
    let up : Updates s.slots (with_value s.slots id new) id (Some new) = write-updates s.slots id old new (sym c.in-Some.ensures.value) in
    record {
      sound = record {
        held = held-changed s.loaded s.head s.order.ids s.slots (with_value s.slots id new) id new s.sound.held up sound;
        distinct = s.sound.distinct;
        no_more = write-counts s.slots id old new (length s.order.ids) (sym c.in-Some.ensures.value) s.sound.no_more;
        few = s.sound.few;
      };
    }

pub returns-clause-traces : goal.returns-clause-traces
returns-clause-traces g c =
    let s = c.args.self.now in
    let id = c.id-id.result in
    let old : Slot g.row.T.Denot = c.in-Some.slot.now in
    let new : Slot g.row.T.Denot = record { layers = c.lay.new.self; payload = c.args.payload } in
    let base = base-at s.loaded.bytes s.order.ids s.slots c.args.p id old c.id-id.ensures (sym c.in-Some.ensures.value) in
    let up : Updates s.slots (with_value s.slots id new) id (Some new) = write-updates s.slots id old new (sym c.in-Some.ensures.value) in
    traces-changed s.loaded.bytes s.order.ids s.slots (with_value s.slots id new) c.args.p id new s.sound.distinct c.id-id.ensures up
    ∙ (ap (λ (l : Layered). slice_set (traces_of s) (c.args.p - 1) (bytes_with_runs (base_of s.loaded.bytes l.base) l.runs)) c.lay.ensures
    ∙ ap (λ (b : List ℕ). slice_set (traces_of s) (c.args.p - 1) (bytes_with_runs b c.args.runs)) (sym base))

pub returns-clause-payloads : goal.returns-clause-payloads
returns-clause-payloads g c =
    let s = c.args.self.now in
    let id = c.id-id.result in
    let old : Slot g.row.T.Denot = c.in-Some.slot.now in
    let new : Slot g.row.T.Denot = record { layers = c.lay.new.self; payload = c.args.payload } in
    let up : Updates s.slots (with_value s.slots id new) id (Some new) = write-updates s.slots id old new (sym c.in-Some.ensures.value) in
    payloads-changed s.loaded s.head s.order.ids s.slots s.sound.held (with_value s.slots id new) c.args.p id new s.sound.distinct c.id-id.ensures up
