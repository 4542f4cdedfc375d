use Rattle.std.proofs.Common.{ℕ, List, length, ap, arith}
use Rattle.trace_store.specs.Stores.{bases_of, traces_of}
use Rattle.trace_store.proofs.AheadLemmas.{length-with}
use Rattle.trace_store.proofs.store.TraceStore.commit_with.Goals as goal

pub set_payload-requires-clause-last : goal.set_payload-requires-clause-last
set_payload-requires-clause-last g c =
    let s = c.args.self.now in
    let runs = c.in-Runs.runs in
    omega (arith, c.requires.last, ap (λ (ts : List (List ℕ)). length ts) c.lay.ensures.traces, length-with (bases_of s) (traces_of s) runs.place runs.lists.items)
