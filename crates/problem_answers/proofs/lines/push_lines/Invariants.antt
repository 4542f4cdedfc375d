use Rattle.std.proofs.Common.{◌≡◌, ◌++◌, take, ◌≤◌}
use Rattle.problem_answers.proofs.lines.push_lines.Given as goal

-- the others so far stand behind
abbrev pub invariant-loop-line : goal.invariant-loop-line
invariant-loop-line l = (l.lines.items ≡ l.fn.lines.items ++ take l.line-index l.others) × (l.initial.room ≤ l.room)
