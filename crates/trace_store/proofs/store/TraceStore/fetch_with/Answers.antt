use Rattle.std.proofs.Common.{List, ℕ, refl, sym, subst, option_copied}
use Rattle.std.specs.Prelude.{unwrap_or}
use Rattle.trace_view.specs.declared.run.Run.{Run}
use Rattle.trace_view.specs.Runs.{Fit, bytes_with_runs}
use Rattle.frame_cut.specs.Cuts.{IsTrace}
use Rattle.base_file.specs.HeldBytes.{IsSure}
use Rattle.base_file.proofs.HeldLemmas.{sure_before, IsStill-refl}
use Rattle.trace_store.specs.Lent.{IsBroken}
use Rattle.trace_store.specs.Slots.{base_of, size_of}
use Rattle.trace_store.proofs.FallLemmas.{fault_so, reread, store_falls}
use Rattle.trace_store.proofs.FetchLemmas.{changed_at, chosen_runs, fetched_in_memory, laid-fit, laid-whole}
use Rattle.trace_store.proofs.SlotLemmas.{slot-found, slot-missed}
use Rattle.trace_store.proofs.store.TraceStore.fetch_with.Goals as goal

pub returns-then-is_in_memory-clause-fetched : goal.returns-then-is_in_memory-clause-fetched
returns-then-is_in_memory-clause-fetched g c =
    let f = fetched_in_memory c.args.self.now c.args.p c.requires.first c.requires.last (option_copied c.args.laid) (c.is_in_memory.ensures.0 c.if-is_in_memory.true) c.requires.laid in
    record { first = f.first; last = f.last; lent = f.lent }

pub returns-then-is_in_memory-clause-reread : goal.returns-then-is_in_memory-clause-reread
returns-then-is_in_memory-clause-reread g c = reread c.args.self.now _ refl refl refl (IsStill-refl c.args.self.now.loaded)

pub fetch-requires-clause-inside : goal.fetch-requires-clause-inside
fetch-requires-clause-inside g c =
    let s = c.args.self.now in
    let sound = slot-found s.loaded s.head s.order.ids s.slots c.args.p c.id-id.result c.in-Some.slot.now s.sound.held c.id-id.ensures (sym c.in-Some.ensures) in
    sound.inside

pub fetch-requires-clause-room : goal.fetch-requires-clause-room
fetch-requires-clause-room g c =
    let s = c.args.self.now in
    let sound = slot-found s.loaded s.head s.order.ids s.slots c.args.p c.id-id.result c.in-Some.slot.now s.sound.held c.id-id.ensures (sym c.in-Some.ensures) in
    sound.room

pub fetch-requires-clause-fit : goal.fetch-requires-clause-fit
fetch-requires-clause-fit g c =
    let s = c.args.self.now in
    let slot = c.in-Some.slot.now in
    let sound = slot-found s.loaded s.head s.order.ids s.slots c.args.p c.id-id.result slot s.sound.held c.id-id.ensures (sym c.in-Some.ensures) in
    let runs = chosen_runs c.args.laid c.runs.result c.unwrap_or-runs.result slot.layers.runs c.unwrap_or-runs.ensures c.runs.ensures in
    subst (λ (rs : List Run). Fit rs (size_of slot.layers.base)) (sym runs)
    (laid-fit s c.args.p c.id-id.result slot c.id-id.ensures (sym c.in-Some.ensures) (option_copied c.args.laid) sound c.requires.laid)

pub invariant_of-self-in-Some : goal.invariant_of-self-in-Some
invariant_of-self-in-Some g c =
    let s = c.args.self.now in
    record { sound = store_falls s.loaded c.fetch.new.loaded s.head s.order.ids s.slots c.fetch.ensures.still s.sound }

pub unreachable-requires : goal.unreachable-requires
unreachable-requires g c =
    let s = c.args.self.now in
    slot-missed s.loaded s.head s.order.ids s.slots c.args.p c.id-id.result s.sound.held c.id-id.ensures (sym c.in-None.ensures)

pub returns-clause-reread : goal.returns-clause-reread
returns-clause-reread g c = reread c.args.self.now _ refl refl refl c.fetch.ensures.still

pub returns-clause-fault : goal.returns-clause-fault
returns-clause-fault g c =
    let s = c.args.self.now in
    let new = c.fetch.new.loaded in
    let slot = c.in-Some.slot.now in
    let sound = slot-found s.loaded s.head s.order.ids s.slots c.args.p c.id-id.result slot s.sound.held c.id-id.ensures (sym c.in-Some.ensures) in
    let runs = chosen_runs c.args.laid c.runs.result c.unwrap_or-runs.result slot.layers.runs c.unwrap_or-runs.ensures c.runs.ensures in
    let laid = option_copied c.args.laid in
    let still = c.fetch.ensures.still in
    let at = c.id-id.ensures in
    let found = sym c.in-Some.ensures in
    let whole = λ (sure : IsSure new.standing).
    subst (λ (b : List ℕ). IsTrace s.head (bytes_with_runs (base_of b slot.layers.base) (unwrap_or laid slot.layers.runs))) (sym still.bytes)
    (laid-whole s c.args.p c.id-id.result slot at found laid sound c.requires.laid (sure_before s.loaded.standing new.standing still.standing sure)) in
    fault_so c.fetch.result s.loaded new
    (λ (broken : IsBroken new s.head slot.layers.base c.unwrap_or-runs.result.now). changed_at _ c.args.p c.id-id.result slot at found laid whole
    (subst (λ (rs : List Run). IsBroken new s.head slot.layers.base rs) runs broken))
    c.fetch.ensures.fault
