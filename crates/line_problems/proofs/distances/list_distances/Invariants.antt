use Rattle.std.specs.Prelude.{◌≡◌, ◌≤◌, ◌++◌, drop, map}
use Rattle.line_problems.specs.LineProblems.{neighbours, neighbours_after, distance}
use Rattle.line_problems.proofs.distances.list_distances.Given as goal

-- the distances that are listed and those that are left are all
abbrev pub invariant-loop-line : goal.invariant-loop-line
invariant-loop-line l = (l.list.items ++ map distance (neighbours_after l.last (drop l.line-index l.others)) ≡ map distance (neighbours l.fn.lines)) × (l.initial.room ≤ l.room)
