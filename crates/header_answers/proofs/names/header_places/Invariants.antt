use Rattle.std.proofs.Common.{◌≡◌, ◌++◌, map, drop, ◌≤◌}
use Rattle.field_map.specs.HeaderNames.{header_names}
use Rattle.bench_rules.specs.Headers.{header_places, meant}
use Rattle.header_answers.proofs.names.header_places.Given as goal

-- the names so far and those that are left are all
abbrev pub invariant-loop-k : goal.invariant-loop-k
invariant-loop-k l = (l.names.items ++ map (meant l.fields.pairs) (drop l.k header_names) ≡ header_places l.fields.pairs) × (l.initial.room ≤ l.room)
