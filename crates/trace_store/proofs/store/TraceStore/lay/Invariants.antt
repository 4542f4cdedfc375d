use Rattle.std.proofs.Common.{◌≡◌}
use Rattle.std.specs.Vec.Iter.{into_iter_items}
use Rattle.trace_store.specs.Ahead.{traces_with, AreRunsFrom}
use Rattle.trace_store.specs.Stores.{bases_of, payloads_of, traces_of}
use Rattle.trace_store.proofs.store.TraceStore.lay.Given as goal

-- with the runs that are left the traces are as they would be
abbrev pub invariant-loop-runs : goal.invariant-loop-runs
invariant-loop-runs g l = record {
  head : l.self.head ≡ l.fn.self.head;
  loaded : l.self.loaded ≡ l.fn.self.loaded;
  runs : AreRunsFrom l.self.loaded.standing l.self.head (bases_of l.self) l.done (into_iter_items l.runs-iterator);
  traces : traces_with (bases_of l.self) (traces_of l.self) l.done (into_iter_items l.runs-iterator) ≡ traces_with (bases_of l.fn.self) (traces_of l.fn.self) l.fn.prepared.place l.fn.prepared.lists.items;
  payloads : payloads_of l.self ≡ payloads_of l.fn.self;
}
