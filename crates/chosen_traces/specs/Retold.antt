-- Refusals that name a trace, told of traces that were brought to the front. Traces are counted from 1.
use Rattle.std.specs.Prelude.{ℕ, ◌-◌, List, get_or}
use Rattle.bench_rules.specs.declared.refusal.Refusal.{Refusal}
use Rattle.bench_rules.specs.declared.refusal.Refusal.TheVariants.{ZeroDivisor}

-- E13 names the trace that stood there before; all else is told as it is
abbrev pub retold : List ℕ → Refusal → Refusal
retold traces (ZeroDivisor p) = ZeroDivisor (get_or traces (p - 1) p)
retold traces refusal = refusal
