use Rattle.std.proofs.Common.{◌≡◌, ◌≤◌}
use Rattle.std.specs.List.{range_with_len}
use Rattle.chosen_traces.proofs.choosing.all.Given as goal

-- the traces so far
abbrev pub invariant-loop-k : goal.invariant-loop-k
invariant-loop-k l = (l.traces.items ≡ range_with_len l.first l.k) × (l.initial.room ≤ l.room)
