use Rattle.std.proofs.Common.{◌≡◌, ◌≤◌, ◌++◌, take}
use Rattle.trace_view.specs.Puts.{contents}
use Rattle.trace_view.proofs.put.push_copies.Given as goal

abbrev pub invariant-loop-run : goal.invariant-loop-run
invariant-loop-run l = record {
  contents : contents l.list.items ≡ contents l.fn.list.items ++ contents (take l.run-index l.runs);
  memory : l.initial.room ≤ l.room;
}
