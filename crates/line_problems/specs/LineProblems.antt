-- What is doubtful in the inlines of a survey, or in its crosslines.
use Rattle.std.specs.Prelude.{ℤ, ◌-ℤ◌, List, [], ◌∷◌, map, Option, Some, None, nat_le, if◌then◌else◌}
use Rattle.std.specs.List.Sorted.{IsStrictlySortedBy}
use Rattle.std.specs.Ordering.{int_cmp}
use Rattle.common_numbers.specs.Commonest.{commonest}
use Rattle.grid_live.specs.declared.line.Line.{Line}
use Rattle.line_problems.specs.declared.survey_numbers.NoSurvey.{NoSurvey}

-- the one inline and the one crossline of all traces, where these are two or more
abbrev pub no_survey_of : List Line → List Line → Option NoSurvey
no_survey_of (i ∷ []) (c ∷ []) = if nat_le 2 i.traces then Some (record { traces = i.traces; inline = i.number; crossline = c.number }) else None
no_survey_of is cs = None

-- the lines rise by their numbers, and no two have the same
abbrev pub LinesRise : List Line → Type 0
LinesRise ls = IsStrictlySortedBy int_cmp (map (λ l. l.number) ls)

-- each line with the one in front of it, where a is in front of the first
abbrev pub neighbours_after : Line → List Line → List (Line × Line)
neighbours_after a [] = []
neighbours_after a (b ∷ ls) = (a, b) ∷ neighbours_after b ls

-- the neighbours in a list: each line but the first with the one in front of it
abbrev pub neighbours : List Line → List (Line × Line)
neighbours [] = []
neighbours (a ∷ ls) = neighbours_after a ls

-- how far the second of two lines is above the first
abbrev pub distance : Line × Line → ℤ
distance p = p.1.number -ℤ p.0.number

-- the step of a list of lines: the commonest distance of neighbours, and nothing of fewer than two lines
abbrev pub step_of : List Line → Option ℤ
step_of ls = commonest (map distance (neighbours ls))
