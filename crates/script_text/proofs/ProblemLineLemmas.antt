-- The lines about what is wrong or doubtful with a file have no line feed and are not empty.
use Rattle.std.proofs.Common.{◌≡◌, ℕ, ℤ, List, ◌++◌, map, true, refl}
use Rattle.std.specs.Prelude.{codes, count_by, decimal}
use Rattle.std.specs.Fmt.{signed_decimal}
use Rattle.line_problems.specs.declared.survey_numbers.NoSurvey.{NoSurvey}
use Rattle.line_problems.specs.declared.folds.UnevenFold.{UnevenFold}
use Rattle.trace_groups.specs.declared.run.Run.{Run}
use Rattle.trace_groups.specs.declared.problem.TraceProblem.{TraceProblem}
use Rattle.trace_groups.specs.declared.problem.TraceProblem.TheVariants as problems
use Rattle.bench_rules.specs.declared.problem_line.ProblemLine.{ProblemLine}
use Rattle.bench_rules.specs.declared.problem_line.ProblemLine.TheVariants as lines
use Rattle.script_text.specs.Texts.{is_plain, is_full_line, IsFullLines}
use Rattle.script_text.specs.ProblemTexts.{begins_problem, code_of_problem, fact_words, fold_text, missing_text, no_survey_text, one_fact, problem_text, problems_text, two_facts}
use Rattle.script_text.proofs.FullLineLemmas.{counted_behind, each_full, full_joined, no_word, Plain, plain_decimal, plain_signed, word, words_line}

plain_code : (p : TraceProblem) → is_plain (code_of_problem p) ≡ true
plain_code problems.Sequence = refl
plain_code problems.Samples = refl
plain_code problems.Interval = refl
plain_code problems.Scalar = refl
plain_code problems.Units = refl
plain_code problems.Repeated = refl
plain_code problems.Name = refl
plain_code problems.NoPosition = refl
plain_code problems.OtherScalar = refl
plain_code problems.OtherDelay = refl
plain_code problems.FarInline = refl
plain_code problems.FarCrossline = refl
plain_code problems.Dead = refl
plain_code problems.Loud = refl

plain_one : (w : List ℕ) → is_plain w ≡ true → (x : ℤ) → Plain (one_fact w x)
plain_one w e x = word w e (word (signed_decimal x) (plain_signed x) no_word)

plain_two : (w : List ℕ) → is_plain w ≡ true → (x : ℤ) (o : List ℕ) → is_plain o ≡ true → (y : ℤ) → Plain (two_facts w x o y)
plain_two w e x o f y = word w e (word (signed_decimal x) (plain_signed x) (word o f (word (signed_decimal y) (plain_signed y) no_word)))

plain_facts : (p : TraceProblem) (x y : ℤ) → Plain (fact_words p x y)
plain_facts problems.Sequence x y = plain_one (codes "shift") refl x
plain_facts problems.Samples x y = plain_two (codes "field") refl x (codes "samples") refl y
plain_facts problems.Interval x y = plain_two (codes "interval") refl x (codes "binary") refl y
plain_facts problems.Scalar x y = plain_one (codes "scalar") refl x
plain_facts problems.Units x y = plain_two (codes "units") refl x (codes "first") refl y
plain_facts problems.Repeated x y = plain_one (codes "before") refl x
plain_facts problems.Name x y = no_word
plain_facts problems.NoPosition x y = no_word
plain_facts problems.OtherScalar x y = plain_two (codes "scalar") refl x (codes "usual") refl y
plain_facts problems.OtherDelay x y = plain_two (codes "delay") refl x (codes "usual") refl y
plain_facts problems.FarInline x y = plain_one (codes "inline") refl x
plain_facts problems.FarCrossline x y = plain_one (codes "crossline") refl x
plain_facts problems.Dead x y = plain_one (codes "value") refl x
plain_facts problems.Loud x y = plain_one (codes "amount") refl x

full_missing : (code : List ℕ) → is_plain code ≡ true → (m r : ℕ) → is_full_line (missing_text code m r) ≡ true
full_missing code e m r = words_line (codes "problem") refl
    (word code e (word (codes "missing") refl (word (decimal m) (plain_decimal m) (word (codes "runs") refl (word (decimal r) (plain_decimal r) no_word)))))

full_no_survey : (n : NoSurvey) → is_full_line (no_survey_text n) ≡ true
full_no_survey n = words_line (codes "problem S1 traces") refl
    (word (decimal n.traces) (plain_decimal n.traces) (word (codes "inline") refl (word (signed_decimal n.inline) (plain_signed n.inline)
    (word (codes "crossline") refl (word (signed_decimal n.crossline) (plain_signed n.crossline) no_word)))))

full_fold : (f : UnevenFold) → is_full_line (fold_text f) ≡ true
full_fold f = words_line (codes "problem S9 cells") refl
    (word (decimal f.cells) (plain_decimal f.cells) (word (codes "usual") refl (word (decimal f.usual) (plain_decimal f.usual)
    (word (codes "less") refl (word (decimal f.less) (plain_decimal f.less) (word (codes "more") refl (word (decimal f.more) (plain_decimal f.more)
    (word (codes "least") refl (word (decimal f.least) (plain_decimal f.least) (word (codes "greatest") refl (word (decimal f.greatest) (plain_decimal f.greatest) no_word)))))))))))

pub full_problem : (l : ProblemLine) → is_full_line (problem_text l) ≡ true
full_problem (lines.Traces p n r) = words_line (codes "problem") refl
    (word (code_of_problem p) (plain_code p) (word (codes "traces") refl (word (decimal n) (plain_decimal n) (word (codes "runs") refl (word (decimal r) (plain_decimal r) no_word)))))
full_problem (lines.Run p r) = words_line (codes "run") refl
    (word (decimal r.first) (plain_decimal r.first) (word (decimal r.last) (plain_decimal r.last) (plain_facts p r.facts.0 r.facts.1)))
full_problem (lines.TraceCount v n) = words_line (codes "problem F7 count") refl
    (word (decimal v) (plain_decimal v) (word (codes "traces") refl (word (decimal n) (plain_decimal n) no_word)))
full_problem (lines.TextLines n) = words_line (codes "problem F8 lines") refl (word (decimal n) (plain_decimal n) no_word)
full_problem (lines.NoSurvey n) = full_no_survey n
full_problem (lines.MissingInlines m r) = full_missing (codes "S7") refl m r
full_problem (lines.MissingCrosslines m r) = full_missing (codes "S8") refl m r
full_problem (lines.Missing r) = words_line (codes "run") refl
    (word (signed_decimal r.first) (plain_signed r.first) (word (signed_decimal r.last) (plain_signed r.last) (word (codes "step") refl (word (decimal r.step) (plain_decimal r.step) no_word))))
full_problem (lines.Fold f) = full_fold f
full_problem (lines.Jumps n j) = words_line (codes "problem S10 pairs") refl
    (word (decimal n) (plain_decimal n) (word (codes "jumps") refl (word (decimal j) (plain_decimal j) no_word)))
full_problem (lines.Jump p) = words_line (codes "jump") refl (word (decimal p.earlier) (plain_decimal p.earlier) (word (decimal p.later) (plain_decimal p.later) no_word))
full_problem (lines.SharedPositions n) = words_line (codes "problem S11 cells") refl (word (decimal n) (plain_decimal n) no_word)
full_problem (lines.SharedPosition p) = words_line (codes "run") refl (word (decimal p.later) (plain_decimal p.later) (word (decimal p.earlier) (plain_decimal p.earlier) no_word))

pub counted : (n : ℕ) → is_full_line (codes "problems" ++ codes " " ++ decimal n) ≡ true
counted n = full_joined (codes "problems") refl (word (codes " ") refl (word (decimal n) (plain_decimal n) no_word))

pub full_problems : (ls : List ProblemLine) → IsFullLines (problems_text ls)
full_problems ls = counted_behind (codes "problems") (count_by begins_problem ls) (map problem_text ls) (counted (count_by begins_problem ls)) (each_full problem_text full_problem ls)
