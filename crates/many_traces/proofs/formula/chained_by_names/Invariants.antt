use Rattle.std.proofs.Common.{◌≡◌, Some, drop}
use Rattle.trace_view.specs.Shown.{bytes_of, head_of}
use Rattle.bench_rules.specs.Computed.{chained_from}
use Rattle.bench_rules.specs.ManyTraces.{each_of}
use Rattle.bench_rules.proofs.ComputedLemmas.{goes_on}
use Rattle.many_traces.specs.Formulas.{step_in}
use Rattle.many_traces.proofs.formula.chained_by_names.Given as goal

-- the steps that are left make the same of the number so far
abbrev pub invariant-loop-step : goal.invariant-loop-step
invariant-loop-step l =
    chained_from l.p (Some l.first) (each_of (step_in (head_of l.trace) (bytes_of l.trace) l.map.pairs) l.steps)
    ≡ goes_on l.p l.number (each_of (step_in (head_of l.trace) (bytes_of l.trace) l.map.pairs) (drop l.step-index l.steps))
