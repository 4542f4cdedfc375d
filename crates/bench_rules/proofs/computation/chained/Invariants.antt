use Rattle.std.proofs.Common.{◌≡◌, Some, drop}
use Rattle.trace_view.specs.Shown.{bytes_of, head_of}
use Rattle.bench_rules.specs.Computed.{chained_from, steps_in}
use Rattle.bench_rules.proofs.ComputedLemmas.{goes_on}
use Rattle.bench_rules.proofs.computation.chained.Given as goal

-- the steps that are left make the same of the number so far
abbrev pub invariant-loop-step : goal.invariant-loop-step
invariant-loop-step l =
    chained_from l.p (Some l.first) (steps_in (head_of l.trace) (bytes_of l.trace) l.steps) ≡ goes_on l.p l.number (steps_in (head_of l.trace) (bytes_of l.trace) (drop l.step-index l.steps))
