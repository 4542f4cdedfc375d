use Rattle.std.proofs.Common.{take, ◌≤◌}
use Rattle.shown_floats.specs.Shows.{ShowsTraces}
use Rattle.shown_floats.proofs.showing.stats.Given as goal

-- the traces so far have their words
abbrev pub invariant-loop-trace : goal.invariant-loop-trace
invariant-loop-trace l = (ShowsTraces l.format (take l.trace-index l.traces) l.shown.items) × (l.initial.room ≤ l.room)
