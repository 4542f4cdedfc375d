use Rattle.std.proofs.Common.{◌≡◌, ◌≤◌}
use Rattle.bench_rules.specs.TraceEdits.{values_bytes}
use Rattle.bench_rules.proofs.renumber.values_bytes.Given as goal

-- the bytes of the values so far
abbrev pub invariant-loop-k : goal.invariant-loop-k
invariant-loop-k l = (l.bytes.items ≡ values_bytes l.order l.kind l.first l.step l.k) × (l.initial.room ≤ l.room)
