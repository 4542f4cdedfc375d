use Rattle.std.proofs.Common.{◌≡◌, ◌++◌, ◌≤◌}
use Rattle.std.specs.List.{range_with_len}
use Rattle.many_traces.proofs.block.push_counted.Given as goal

-- the numbers so far stand behind the others
abbrev pub invariant-loop-k : goal.invariant-loop-k
invariant-loop-k l = (l.numbers.items ≡ l.initial.numbers.items ++ range_with_len l.first l.k) × (l.initial.room ≤ l.room)
