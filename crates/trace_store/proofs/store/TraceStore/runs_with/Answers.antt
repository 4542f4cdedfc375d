use Rattle.std.proofs.Common.{◌-◌, [], ℕ, List, length, sym, ap, subst, arith}
use Rattle.std.specs.Prelude.{slice_index_or}
use Rattle.trace_view.specs.declared.run.Run.{Run}
use Rattle.trace_view.specs.Runs.{Fit}
use Rattle.trace_view.proofs.WrittenLemmas.{length-written}
use Rattle.trace_store.specs.Slots.{base_of}
use Rattle.trace_store.specs.Stores.{bases_of, traces_of}
use Rattle.trace_store.proofs.SlotLemmas.{slot-found, slot-missed, trace-at, base-at, base-length}
use Rattle.trace_store.proofs.EachLemmas.{both_ok, put-runs}
use Rattle.trace_store.proofs.store.TraceStore.runs_with.Goals as goal

pub runs_with-requires-clause-fit : goal.runs_with-requires-clause-fit
runs_with-requires-clause-fit g c =
    let s = c.args.self.now in
    let here = c.in-Some.slot.now in
    let slot = slot-found s.loaded s.head s.order.ids s.slots c.args.p c.id-id.result here s.sound.held c.id-id.ensures (sym c.in-Some.ensures) in
    subst (λ (n : ℕ). Fit here.layers.runs n) (base-length s.loaded.bytes here.layers.base slot.inside) slot.fit

pub runs_with-requires-clause-inside : goal.runs_with-requires-clause-inside
runs_with-requires-clause-inside g c =
    let s = c.args.self.now in
    let here = c.in-Some.slot.now in
    let slot = slot-found s.loaded s.head s.order.ids s.slots c.args.p c.id-id.result here s.sound.held c.id-id.ensures (sym c.in-Some.ensures) in
    let trace = trace-at s.loaded.bytes s.order.ids s.slots c.args.p c.id-id.result here c.id-id.ensures (sym c.in-Some.ensures) in
    omega (arith, c.requires.inside, ap (λ (t : List ℕ). length t) trace, length-written (base_of s.loaded.bytes here.layers.base) here.layers.runs slot.fit, base-length s.loaded.bytes here.layers.base slot.inside)

pub unreachable-requires : goal.unreachable-requires
unreachable-requires g c =
    let s = c.args.self.now in
    slot-missed s.loaded s.head s.order.ids s.slots c.args.p c.id-id.result s.sound.held c.id-id.ensures (sym c.in-None.ensures)

pub returns-clause-runs : goal.returns-clause-runs
returns-clause-runs g c =
    let s = c.args.self.now in
    let here = c.in-Some.slot.now in
    let slot = slot-found s.loaded s.head s.order.ids s.slots c.args.p c.id-id.result here s.sound.held c.id-id.ensures (sym c.in-Some.ensures) in
    let trace = trace-at s.loaded.bytes s.order.ids s.slots c.args.p c.id-id.result here c.id-id.ensures (sym c.in-Some.ensures) in
    let base = base-at s.loaded.bytes s.order.ids s.slots c.args.p c.id-id.result here c.id-id.ensures (sym c.in-Some.ensures) in
    both_ok _ _ _ c.runs_with.result c.runs_with.ensures.fit c.runs_with.ensures.bytes
    (λ (list : List Run) fit shows. put-runs s.loaded.bytes here (slice_index_or (bases_of s) (c.args.p - 1) []) (slice_index_or (traces_of s) (c.args.p - 1) []) c.args.at c.args.bytes.now list slot.inside base trace fit shows)
