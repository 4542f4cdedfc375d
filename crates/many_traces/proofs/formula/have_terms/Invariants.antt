use Rattle.std.proofs.Common.{◌≡◌, drop}
use Rattle.std.specs.Prelude.{is_some}
use Rattle.bench_rules.specs.Computed.{steps_of}
use Rattle.many_traces.proofs.formula.have_terms.Given as goal

-- the steps that are left decide
abbrev pub invariant-loop-step : goal.invariant-loop-step
invariant-loop-step l = is_some (steps_of l.map.pairs l.steps) ≡ is_some (steps_of l.map.pairs (drop l.step-index l.steps))
