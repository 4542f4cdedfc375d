use Rattle.trace_store.specs.Then.{place_then, runs_then}
use Rattle.trace_store.proofs.FallLemmas.{ready_falls, IsReread-refl}
use Rattle.trace_store.proofs.FetchLemmas.{fetched_in_memory, place-there, then-may}
use Rattle.trace_store.proofs.store.TraceStore.fetch_then.Goals as goal

pub returns-then-is_in_memory-clause-ready : goal.returns-then-is_in_memory-clause-ready
returns-then-is_in_memory-clause-ready g c =
    ready_falls c.args.self.now _ c.args.prepared.now (IsReread-refl c.args.self.now) c.requires.ready

pub returns-then-is_in_memory-clause-fetched : goal.returns-then-is_in_memory-clause-fetched
returns-then-is_in_memory-clause-fetched g c =
    let s = c.args.self.now in
    let prepared = c.args.prepared.now in
    let there = place-there s c.args.p c.requires.first c.requires.last prepared c.requires.ready in
    let may = then-may s c.args.p c.requires.first c.requires.last prepared c.requires.ready in
    let f = fetched_in_memory s (place_then prepared c.args.p) there.0 there.1 (runs_then prepared c.args.p) (c.is_in_memory.ensures.0 c.if-is_in_memory.true) may in
    record { first = f.first; last = f.last; lent = f.lent }

pub fetch_with-requires-clause-laid : goal.fetch_with-requires-clause-laid
fetch_with-requires-clause-laid g c =
    rw (c.place.ensures, c.runs.ensures) (then-may c.args.self.now c.args.p c.requires.first c.requires.last c.args.prepared.now c.requires.ready)

pub returns-clause-ready : goal.returns-clause-ready
returns-clause-ready g c =
    ready_falls c.args.self.now c.fetch_with.new.self c.args.prepared.now c.fetch_with.ensures.reread c.requires.ready
