use Rattle.std.proofs.Common.{◌≡◌, ◌∷◌, ◌++◌, take, map, ◌≤◌}
use Rattle.bench_rules.specs.declared.problem_line.ProblemLine.TheVariants.{Missing}
use Rattle.problem_answers.proofs.lines.push_missing.Given as goal

-- the head, and the runs so far
abbrev pub invariant-loop-run : goal.invariant-loop-run
invariant-loop-run l = (l.lines.items ≡ l.fn.lines.items ++ l.fn.head ∷ map Missing (take l.run-index l.runs)) × (l.initial.room ≤ l.room)
