-- Worked texts of what is wrong or doubtful with a file.
use Rattle.std.specs.Prelude.{◌≡◌, pos, negsuc, [], ◌∷◌, codes, refl}
use Rattle.std.specs.Fmt.{digits}
use Rattle.trace_groups.specs.declared.problem.TraceProblem.TheVariants as problems
use Rattle.bench_rules.specs.declared.answer.Answer.TheVariants as answers
use Rattle.bench_rules.specs.declared.problem_line.ProblemLine.TheVariants as lines
use Rattle.script_text.specs.AnswerTexts.{answer_text}

-- a trace was put in behind trace 4, and a few scalars are others
pub text-problems : answer_text (answers.Problems (
    lines.Traces problems.Sequence 6 1
    ∷ lines.Run problems.Sequence (record { first = 5; last = 10; facts = (negsuc 0, pos 0) })
    ∷ lines.Traces problems.OtherScalar 3 2
    ∷ lines.Run problems.OtherScalar (record { first = 2; last = 3; facts = (negsuc 9, pos 1) })
    ∷ lines.Run problems.OtherScalar (record { first = 7; last = 7; facts = (pos 100, pos 1) })
    ∷ lines.MissingInlines 4 1
    ∷ lines.Missing (record { first = pos 103; last = pos 109; step = 2 }) ∷ []))
    ≡ codes "problems 3\nproblem F1 traces 6 runs 1\nrun 5 10 shift -1\nproblem S3 traces 3 runs 2\nrun 2 3 scalar -10 usual 1\nrun 7 7 scalar 100 usual 1\nproblem S7 missing 4 runs 1\nrun 103 109 step 2\n"
unfolding digits
text-problems = refl

pub text-no_problem : answer_text (answers.Problems []) ≡ codes "problems 0\n"
unfolding digits
text-no_problem = refl
