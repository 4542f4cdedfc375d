use Rattle.std.proofs.Common.{take, ◌≤◌}
use Rattle.shown_floats.specs.Shows.{ShowsProblems}
use Rattle.shown_floats.proofs.problems.problems.Given as goal

-- the lines so far have their words
abbrev pub invariant-loop-line : goal.invariant-loop-line
invariant-loop-line l = (ShowsProblems l.format (take l.line-index l.lines) l.shown.items) × (l.initial.room ≤ l.room)
