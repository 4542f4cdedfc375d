use Rattle.std.proofs.Common.{◌≡◌, ◌++◌, take, ◌≤◌}
use Rattle.std.specs.Prelude.{flat_map}
use Rattle.bench_rules.specs.Problems.{file_lines}
use Rattle.problem_answers.proofs.lines.push_of_file.Given as goal

-- the faults so far
abbrev pub invariant-loop-fault : goal.invariant-loop-fault
invariant-loop-fault l = (l.lines.items ≡ l.fn.lines.items ++ flat_map file_lines (take l.fault-index l.faults)) × (l.initial.room ≤ l.room)
