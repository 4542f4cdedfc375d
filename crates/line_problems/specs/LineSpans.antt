-- The lines of a survey in one line: from the first to the last, and the step.
use Rattle.std.specs.Prelude.{ℤ, ◌-◌, List, length, slice_get, Option, option_map, option_and_then}
use Rattle.std.specs.Option.{option_or}
use Rattle.grid_live.specs.declared.line.Line.{Line}
use Rattle.line_problems.specs.declared.spans.LineSpan.{LineSpan}
use Rattle.line_problems.specs.LineProblems.{step_of}
use Rattle.line_problems.specs.NearLines.{near_of}

-- the numbers of the first and of the last line of a list
abbrev pub ends_of : List Line → Option (ℤ × ℤ)
ends_of ls = option_and_then (λ a. option_map (λ b. (a.number, b.number)) (slice_get ls (length ls - 1))) (slice_get ls 0)

-- the first and the last of the lines that are not far from the others, and the step of the list; nothing of no line
abbrev pub span_of : List Line → Option LineSpan
span_of ls = option_map (λ e. record { first = e.0; last = e.1; step = step_of ls }) (option_or (near_of ls) (ends_of ls))
