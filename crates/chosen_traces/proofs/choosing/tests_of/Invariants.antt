use Rattle.std.proofs.Common.{◌≡◌, ◌++◌, drop, ◌≤◌}
use Rattle.std.specs.Prelude.{option_map}
use Rattle.bench_rules.specs.Conditions.{test_of, tests_of}
use Rattle.bench_rules.specs.ManyTraces.{each_of}
use Rattle.chosen_traces.proofs.choosing.tests_of.Given as goal

-- the tests so far, and those of the conditions that are left
abbrev pub invariant-loop-condition : goal.invariant-loop-condition
invariant-loop-condition l = (tests_of l.map.pairs l.conditions ≡ option_map (λ tests. l.tests.items ++ tests) (each_of (test_of l.map.pairs) (drop l.condition-index l.conditions))) × (l.initial.room ≤ l.room)
