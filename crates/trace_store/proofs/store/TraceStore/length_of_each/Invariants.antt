use Rattle.trace_store.specs.Stores.{traces_of}
use Rattle.trace_store.proofs.GoneLemmas.{AreCounted}
use Rattle.trace_store.proofs.store.TraceStore.length_of_each.Given as goal

abbrev pub invariant-loop-p : goal.invariant-loop-p
invariant-loop-p g l = AreCounted (traces_of l.self) l.traces l.p-index l.bytes
