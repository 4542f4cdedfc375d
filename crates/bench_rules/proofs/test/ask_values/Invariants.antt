use Rattle.std.proofs.Common.{◌≡◌, drop}
use Rattle.std.specs.List.{list_any}
use Rattle.bench_rules.specs.Conditions.{asks_values}
use Rattle.bench_rules.proofs.test.ask_values.Given as goal

-- none so far asks for values
abbrev pub invariant-loop-test : goal.invariant-loop-test
invariant-loop-test l = list_any asks_values l.tests ≡ list_any asks_values (drop l.test-index l.tests)
