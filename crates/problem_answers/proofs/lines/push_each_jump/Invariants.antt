use Rattle.std.proofs.Common.{◌≡◌, ◌∷◌, ◌++◌, take, map, ◌≤◌}
use Rattle.bench_rules.specs.declared.problem_line.ProblemLine.TheVariants.{Jump, Jumps}
use Rattle.problem_answers.proofs.lines.push_each_jump.Given as goal

-- the head, and the pairs so far
abbrev pub invariant-loop-pair : goal.invariant-loop-pair
invariant-loop-pair l = (l.lines.items ≡ l.fn.lines.items ++ Jumps l.found.pairs l.found.jumps ∷ map Jump (take l.pair-index l.pairs)) × (l.initial.room ≤ l.room)
