use Rattle.std.proofs.Common.{◌+◌, ◌-◌, ◌≤◌, List, ◌++◌, drop}
use Rattle.trace_view.specs.declared.run.Run.{Run}
use Rattle.trace_store.specs.Stores.{bases_of, traces_of}
use Rattle.trace_store.specs.Each.{ArePutOver}
use Rattle.trace_store.proofs.store.TraceStore.runs_over_each.Given as goal

-- whatever lists follow for the traces that are left, all are the lists of all
abbrev pub invariant-loop-k : goal.invariant-loop-k
invariant-loop-k g l = record {
  runs : (more : List (List Run)) → ArePutOver (bases_of l.self) (traces_of l.self) (l.a - 1 + l.k) (drop l.k l.places) l.bytes more → ArePutOver (bases_of l.self) (traces_of l.self) (l.a - 1) l.places l.bytes (l.lists.items ++ more);
  memory : l.initial.room ≤ l.room;
}
