use Rattle.std.proofs.Common.{◌≡◌, ◌++◌, take, map, ◌≤◌}
use Rattle.trace_groups.specs.Groups.{group_in}
use Rattle.bench_rules.specs.Problems.{lines_of_groups}
use Rattle.problem_answers.proofs.lines.push_groups.Given as goal

-- the groups so far
abbrev pub invariant-loop-group : goal.invariant-loop-group
invariant-loop-group l = (l.lines.items ≡ l.fn.lines.items ++ lines_of_groups l.fn.behind (map group_in (take l.group-index l.groups))) × (l.initial.room ≤ l.room)
