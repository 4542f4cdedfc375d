use Rattle.std.proofs.Common.{◌≡◌}
use Rattle.timings.proofs.traces.total_of.Given as goal

-- the file stays as it is
abbrev pub invariant-loop-before : goal.invariant-loop-before
invariant-loop-before l = l.loading.volume ≡ l.initial.loading.volume
