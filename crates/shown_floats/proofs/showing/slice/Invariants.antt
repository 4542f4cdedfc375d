use Rattle.std.proofs.Common.{take, ◌≤◌}
use Rattle.shown_floats.specs.Shows.{ShowsRows}
use Rattle.shown_floats.proofs.showing.slice.Given as goal

-- the rows so far have their words
abbrev pub invariant-loop-row : goal.invariant-loop-row
invariant-loop-row l = (ShowsRows l.format (take l.row-index l.rows) l.shown.items) × (l.initial.room ≤ l.room)
