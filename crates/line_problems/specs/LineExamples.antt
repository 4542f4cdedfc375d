-- Lines of small surveys, worked by hand.
use Rattle.std.specs.Prelude.{◌≡◌, ℕ, ℤ, pos, negsuc, List, [], ◌∷◌, Some, None, refl}
use Rattle.common_numbers.specs.Commonest.{commonest}
use Rattle.grid_live.specs.declared.line.Line.{Line}
use Rattle.line_problems.specs.LineProblems.{no_survey_of, step_of}
use Rattle.line_problems.specs.NearLines.{parts_of, near_at, near_of}
use Rattle.line_problems.specs.MissingLines.{missing_of}
use Rattle.line_problems.specs.LineSpans.{span_of}

abbrev line : ℤ → ℕ → Line
line i n = record { number = i; traces = n }

-- seven traces at inline 0 and crossline 0
pub no_survey_of-zero : no_survey_of (line (pos 0) 7 ∷ []) (line (pos 0) 7 ∷ []) ≡ Some (record { traces = 7; inline = pos 0; crossline = pos 0 })
no_survey_of-zero = refl

-- one trace alone, two inlines, and no trace
pub no_survey_of-one : no_survey_of (line (pos 0) 1 ∷ []) (line (pos 0) 1 ∷ []) ≡ None
no_survey_of-one = refl

pub no_survey_of-two : no_survey_of (line (pos 1) 1 ∷ line (pos 2) 1 ∷ []) (line (pos 0) 2 ∷ []) ≡ None
no_survey_of-two = refl

pub no_survey_of-none : no_survey_of [] [] ≡ None
no_survey_of-none = refl

-- two gaps at the step 2, and a line far from the others: the inlines 100, 102, 108, 110, 112, 116 and 900, each with 5 traces
abbrev surveyed : List Line
surveyed = line (pos 100) 5 ∷ line (pos 102) 5 ∷ line (pos 108) 5 ∷ line (pos 110) 5 ∷ line (pos 112) 5 ∷ line (pos 116) 5 ∷ line (pos 900) 5 ∷ []

pub step_of-surveyed : step_of surveyed ≡ Some (pos 2)
unfolding commonest
step_of-surveyed = refl

pub parts_of-surveyed : parts_of (pos 2) surveyed ≡ record { first = pos 100; last = pos 116; traces = 30 } ∷ record { first = pos 900; last = pos 900; traces = 5 } ∷ []
parts_of-surveyed = refl

pub near_of-surveyed : near_of surveyed ≡ Some (pos 100, pos 116)
unfolding commonest
near_of-surveyed = refl

-- 104, 106 and 114 are missing; nothing is between 116 and 900, which is far
pub missing_of-surveyed : missing_of surveyed ≡ Some (record {
  missing = 3;
  runs = 2;
  first_runs = record { first = pos 104; last = pos 106; step = 2 } ∷ record { first = pos 114; last = pos 114; step = 2 } ∷ [];
})
unfolding commonest
missing_of-surveyed = refl

-- of steps of 2 and 4 that occur equally often the lesser counts, so that 4 leaves out one line
pub missing_of-steps : missing_of (line (negsuc 0) 1 ∷ line (pos 1) 1 ∷ line (pos 5) 1 ∷ []) ≡ Some (record { missing = 1; runs = 1; first_runs = record { first = pos 3; last = pos 3; step = 2 } ∷ [] })
unfolding commonest
missing_of-steps = refl

-- a distance of 5 is no multiple of the step 2
pub missing_of-uneven : missing_of (line (pos 1) 1 ∷ line (pos 3) 1 ∷ line (pos 5) 1 ∷ line (pos 10) 1 ∷ []) ≡ None
unfolding commonest
missing_of-uneven = refl

-- one line has no step
pub step_of-one : step_of (line (pos 4) 9 ∷ []) ≡ None
unfolding commonest
step_of-one = refl

pub missing_of-one : missing_of (line (pos 4) 9 ∷ []) ≡ None
unfolding commonest
missing_of-one = refl

-- two parts with equally many traces: neither is far
pub near_of-halves : near_of (line (pos 1) 3 ∷ line (pos 2) 3 ∷ line (pos 50) 3 ∷ line (pos 51) 3 ∷ []) ≡ None
unfolding commonest
near_of-halves = refl

-- ten steps are near, and eleven are far
pub near_at-ten : near_at (pos 1) (line (pos 1) 3 ∷ line (pos 2) 3 ∷ line (pos 12) 3 ∷ []) ≡ None
near_at-ten = refl

pub near_at-eleven : near_at (pos 1) (line (pos 1) 3 ∷ line (pos 2) 3 ∷ line (pos 13) 3 ∷ []) ≡ Some (pos 1, pos 2)
near_at-eleven = refl

-- in one line, without the far line
pub span_of-surveyed : span_of surveyed ≡ Some (record { first = pos 100; last = pos 116; step = Some (pos 2) })
unfolding commonest
span_of-surveyed = refl

-- one line has no step, and where no line is far the list's ends count
pub span_of-one : span_of (line (pos 4) 9 ∷ []) ≡ Some (record { first = pos 4; last = pos 4; step = None })
unfolding commonest
span_of-one = refl

pub span_of-halves : span_of (line (pos 1) 3 ∷ line (pos 2) 3 ∷ line (pos 50) 3 ∷ line (pos 51) 3 ∷ []) ≡ Some (record { first = pos 1; last = pos 51; step = Some (pos 1) })
unfolding commonest
span_of-halves = refl

pub span_of-none : span_of [] ≡ None
unfolding commonest
span_of-none = refl
