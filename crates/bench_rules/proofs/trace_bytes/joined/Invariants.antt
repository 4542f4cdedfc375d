use Rattle.std.proofs.Common.{◌≡◌, ◌≤◌, ◌++◌}
use Rattle.bench_rules.proofs.trace_bytes.joined.Given as goal

-- what was joined and what is left to join are all
abbrev pub invariant-loop-piece : goal.invariant-loop-piece
invariant-loop-piece l = (l.bytes.items ++ l.piece-iterator ≡ l.initial.piece-iterator) × (l.initial.room ≤ l.room)
