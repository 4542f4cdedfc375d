-- Worked texts of the grid of a survey, and of what is doubtful in its positions.
use Rattle.std.specs.Prelude.{◌≡◌, ℕ, pos, negsuc, [], ◌∷◌, None, Some, codes, refl}
use Rattle.std.specs.Fmt.{digits}
use Rattle.key_counts.specs.Coordinates.{greatest_divisor, over, under_scalar, whole}
use Rattle.cell_positions.specs.declared.trace_pair.TracePair.{TracePair}
use Rattle.bench_rules.specs.declared.answer.Answer.TheVariants as answers
use Rattle.bench_rules.specs.declared.problem_line.ProblemLine.TheVariants as lines
use Rattle.script_text.specs.AnswerTexts.{answer_text}

-- one inline: no step and no neighbour on another
pub text-survey : answer_text (answers.Survey (Some (record {
  inline = record { first = pos 7; last = pos 7; step = None };
  crossline = record { first = pos 300; last = pos 100; step = Some (negsuc 1) };
  along_inline = None;
  along_crossline = Some (record { x = under_scalar (pos 125) (negsuc 9); y = whole (negsuc 24) });
  cells = 99;
  full = 101;
}))) ≡ codes "survey inline 7 7 step none crossline 300 100 step -2 along_inline none along_crossline 25/2 -25 cells 99 of 101\n"
unfolding digits under_scalar over greatest_divisor
text-survey = refl

pub text-no_survey : answer_text (answers.Survey None) ≡ codes "survey none\n"
text-no_survey = refl

-- a later trace and an earlier one
abbrev traces : ℕ → ℕ → TracePair
traces p q = record { later = p; earlier = q }

-- the cell of trace 9 stands where that of trace 4 does
pub text-positions : answer_text (answers.Problems (lines.Jumps 40 1 ∷ lines.Jump (traces 9 8) ∷ lines.SharedPositions 1 ∷ lines.SharedPosition (traces 9 4) ∷ []))
    ≡ codes "problems 2\nproblem S10 pairs 40 jumps 1\njump 8 9\nproblem S11 cells 1\nrun 9 4\n"
unfolding digits
text-positions = refl
