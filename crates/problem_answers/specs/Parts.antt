-- Parts of all problems that are made before the others.
use Rattle.std.specs.Prelude.{ℤ, Bool, List, [], is_some, if◌then◌else◌}
use Rattle.trace_record.specs.Facts.{Facts}
use Rattle.grid_live.specs.Cells.{crosslines, inlines}
use Rattle.line_problems.specs.LineProblems.{no_survey_of}
use Rattle.trace_groups.specs.Groups.{group_of}
use Rattle.trace_groups.specs.Others.{other_marks}
use Rattle.trace_groups.specs.declared.problem.TraceProblem.TheVariants.{OtherDelay}
use Rattle.bench_rules.specs.declared.problem_line.ProblemLine.{ProblemLine}
use Rattle.bench_rules.specs.Problems.{group_lines, position_problems}

-- S4, of traces with these delays
abbrev pub late_of : List ℤ → List ProblemLine
late_of delays = group_lines (group_of OtherDelay (other_marks delays))

-- S10 and S11, of a file of shots or not, where the traces have survey numbers
abbrev pub doubts_of : (shots : Bool) → List Facts → List ProblemLine
doubts_of shots fs = if is_some (no_survey_of (inlines fs) (crosslines fs)) then [] else position_problems shots fs
