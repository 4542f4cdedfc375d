use Rattle.std.proofs.Common.{◌≡◌, ◌∷◌, ◌++◌, take, map, ◌≤◌}
use Rattle.bench_rules.specs.declared.problem_line.ProblemLine.TheVariants.{Run, Traces}
use Rattle.problem_answers.proofs.lines.push_runs.Given as goal

-- the line of the group, and the runs so far
abbrev pub invariant-loop-run : goal.invariant-loop-run
invariant-loop-run l = (l.lines.items ≡ l.fn.lines.items ++ Traces l.group.problem l.group.traces l.group.runs ∷ map (Run l.group.problem) (take l.run-index l.runs)) × (l.initial.room ≤ l.room)
