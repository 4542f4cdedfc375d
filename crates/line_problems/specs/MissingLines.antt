-- Which lines are missing between others.
use Rattle.std.specs.Prelude.{ℕ, ℤ, pos, ◌-◌, ◌/◌, ◌%◌, ◌==◌, ◌+ℤ◌, ◌-ℤ◌, Bool, true, ◌&&◌, List, [], ◌∷◌, length, map, filter, take, sum_by, Option, Some, None, option_and_then, int_lt, int_le, unsigned_abs}
use Rattle.grid_live.specs.declared.line.Line.{Line}
use Rattle.line_problems.specs.declared.missing.MissingRun.{MissingRun}
use Rattle.line_problems.specs.declared.missing.MissingLines.{MissingLines}
use Rattle.line_problems.specs.declared.missing.TheConstants.{MOST_RUNS}
use Rattle.line_problems.specs.LineProblems.{neighbours, distance, step_of}
use Rattle.line_problems.specs.NearLines.{near_of}

-- whether a line is among those that are near one another: each line where none is far
abbrev pub is_near : Option (ℤ × ℤ) → Line → Bool
is_near None l = true
is_near (Some r) l = int_le r.0 l.number && int_le l.number r.1

-- between two lines a step above 0 fits several times and leaves nothing
abbrev pub is_whole : ℤ → ℤ → Bool
is_whole s d = int_lt (pos 0) s && int_lt s d && (unsigned_abs d % unsigned_abs s == 0)

-- whether lines are missing between two neighbours, neither of them far
abbrev pub is_gap : ℤ → Option (ℤ × ℤ) → Line × Line → Bool
is_gap s near p = is_near near p.0 && is_near near p.1 && is_whole s (distance p)

-- the neighbours between which lines are missing
abbrev pub gaps_of : ℤ → Option (ℤ × ℤ) → List Line → List (Line × Line)
gaps_of s near ls = filter (is_gap s near) (neighbours ls)

-- how many lines are missing between two
abbrev pub missing_between : ℤ → Line × Line → ℕ
missing_between s p = unsigned_abs (distance p) / unsigned_abs s - 1

-- the lines that are missing between two: the first, the last, and the step from each to the next
abbrev pub run_between : ℤ → Line × Line → MissingRun
run_between s p = record { first = p.0.number +ℤ s; last = p.1.number -ℤ s; step = unsigned_abs s }

-- what is told of missing lines: how many they are, in how many runs, and the first ten runs
pub record Missing : Type 0 where
  pub missing : ℕ
  pub runs : ℕ
  pub first_runs : List MissingRun

-- what is told of the lines that are missing between these neighbours
abbrev pub missing_in : ℤ → List (Line × Line) → Missing
missing_in s gs = record { missing = sum_by (missing_between s) gs; runs = length gs; first_runs = map (run_between s) (take MOST_RUNS gs) }

-- .. and nothing where there are none
abbrev pub any_missing_in : ℤ → List (Line × Line) → Option Missing
any_missing_in s [] = None
any_missing_in s (g ∷ gs) = Some (missing_in s (g ∷ gs))

-- what is told of the lines that are missing in a list; nothing where none is
abbrev pub missing_of : List Line → Option Missing
missing_of ls = option_and_then (λ s. any_missing_in s (gaps_of s (near_of ls) ls)) (step_of ls)

-- what an answer tells
abbrev pub told : MissingLines → Missing
told m = record { missing = m.missing; runs = m.runs; first_runs = m.first_runs.items }
