use Rattle.std.proofs.Common.{◌≡◌, ◌++◌, ◌≤◌}
use Rattle.bench_rules.specs.Headers.{named_places}
use Rattle.header_answers.proofs.names.named_places.Given as goal

-- the names so far and the bound ones that are left are all
abbrev pub invariant-loop-name : goal.invariant-loop-name
invariant-loop-name l = (l.names.items ++ l.name-iterator ≡ named_places l.fields.pairs) × (l.initial.room ≤ l.room)
