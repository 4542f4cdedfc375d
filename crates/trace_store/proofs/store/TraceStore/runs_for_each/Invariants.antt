use Rattle.std.proofs.Common.{◌≡◌, ◌≤◌, ◌-◌, List, ◌++◌, length}
use Rattle.trace_view.specs.declared.run.Run.{Run}
use Rattle.trace_store.specs.Stores.{bases_of, traces_of}
use Rattle.trace_store.specs.Each.{ArePutEach}
use Rattle.trace_store.proofs.store.TraceStore.runs_for_each.Given as goal

-- whatever lists follow for the traces that are left, all are the lists of all
abbrev pub invariant-loop-k : goal.invariant-loop-k
invariant-loop-k g l = record {
  count : length l.lists.items ≡ l.k;
  runs : (more : List (List Run)) → ArePutEach (bases_of l.self) (traces_of l.self) (l.a - 1) l.at l.size l.bytes l.k more → ArePutEach (bases_of l.self) (traces_of l.self) (l.a - 1) l.at l.size l.bytes 0 (l.lists.items ++ more);
  memory : l.initial.room ≤ l.room;
}
