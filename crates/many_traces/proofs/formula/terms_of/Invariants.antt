use Rattle.std.proofs.Common.{◌≡◌, ◌++◌, drop, ◌≤◌}
use Rattle.std.specs.Prelude.{option_map}
use Rattle.bench_rules.specs.Computed.{steps_of}
use Rattle.many_traces.proofs.formula.terms_of.Given as goal

-- the terms so far, and those of the steps that are left
abbrev pub invariant-loop-step : goal.invariant-loop-step
invariant-loop-step l = (steps_of l.map.pairs l.steps ≡ option_map (λ terms. l.terms.items ++ terms) (steps_of l.map.pairs (drop l.step-index l.steps))) × (l.initial.room ≤ l.room)
