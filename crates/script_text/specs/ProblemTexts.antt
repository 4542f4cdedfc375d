-- What is printed for what is wrong or doubtful with a file.
use Rattle.std.specs.Prelude.{ℕ, ℤ, Bool, true, false, List, [], ◌∷◌, map, count_by, decimal, codes}
use Rattle.std.specs.Fmt.{signed_decimal}
use Rattle.line_problems.specs.declared.missing.MissingRun.{MissingRun}
use Rattle.line_problems.specs.declared.survey_numbers.NoSurvey.{NoSurvey}
use Rattle.line_problems.specs.declared.folds.UnevenFold.{UnevenFold}
use Rattle.trace_groups.specs.declared.run.Run.{Run}
use Rattle.trace_groups.specs.declared.problem.TraceProblem.{TraceProblem}
use Rattle.trace_groups.specs.declared.problem.TraceProblem.TheVariants as problems
use Rattle.bench_rules.specs.declared.problem_line.ProblemLine.{ProblemLine}
use Rattle.bench_rules.specs.declared.problem_line.ProblemLine.TheVariants as lines
use Rattle.line_texts.specs.Lines.{counted_lines, with_blanks}

-- the code of a problem that traces have
abbrev pub code_of_problem : TraceProblem → List ℕ
code_of_problem problems.Sequence = codes "F1"
code_of_problem problems.Samples = codes "F2"
code_of_problem problems.Interval = codes "F3"
code_of_problem problems.Scalar = codes "F4"
code_of_problem problems.Units = codes "F5"
code_of_problem problems.Repeated = codes "F6"
code_of_problem problems.Name = codes "F9"
code_of_problem problems.NoPosition = codes "S2"
code_of_problem problems.OtherScalar = codes "S3"
code_of_problem problems.OtherDelay = codes "S4"
code_of_problem problems.FarInline = codes "S5"
code_of_problem problems.FarCrossline = codes "S6"
code_of_problem problems.Dead = codes "S12"
code_of_problem problems.Loud = codes "S13"

-- one fact behind its word
abbrev pub one_fact : List ℕ → ℤ → List (List ℕ)
one_fact word x = word ∷ signed_decimal x ∷ []

-- two facts, each behind its word
abbrev pub two_facts : (word : List ℕ) → ℤ → (other : List ℕ) → ℤ → List (List ℕ)
two_facts word x other y = word ∷ signed_decimal x ∷ other ∷ signed_decimal y ∷ []

-- what the traces of a run have in common, by their problem
abbrev pub fact_words : TraceProblem → ℤ → ℤ → List (List ℕ)
fact_words problems.Sequence x y = one_fact (codes "shift") x
fact_words problems.Samples x y = two_facts (codes "field") x (codes "samples") y
fact_words problems.Interval x y = two_facts (codes "interval") x (codes "binary") y
fact_words problems.Scalar x y = one_fact (codes "scalar") x
fact_words problems.Units x y = two_facts (codes "units") x (codes "first") y
fact_words problems.Repeated x y = one_fact (codes "before") x
fact_words problems.Name x y = []
fact_words problems.NoPosition x y = []
fact_words problems.OtherScalar x y = two_facts (codes "scalar") x (codes "usual") y
fact_words problems.OtherDelay x y = two_facts (codes "delay") x (codes "usual") y
fact_words problems.FarInline x y = one_fact (codes "inline") x
fact_words problems.FarCrossline x y = one_fact (codes "crossline") x
fact_words problems.Dead x y = one_fact (codes "value") x
fact_words problems.Loud x y = one_fact (codes "amount") x

-- a run of traces
abbrev pub run_text : TraceProblem → Run → List ℕ
run_text p r = with_blanks (codes "run" ∷ decimal r.first ∷ decimal r.last ∷ fact_words p r.facts.0 r.facts.1)

-- how much of something is missing, in how many runs
abbrev pub missing_text : (code : List ℕ) → ℕ → ℕ → List ℕ
missing_text code missing runs = with_blanks (codes "problem" ∷ code ∷ codes "missing" ∷ decimal missing ∷ codes "runs" ∷ decimal runs ∷ [])

-- a run of lines that are missing
abbrev pub missing_run_text : MissingRun → List ℕ
missing_run_text r = with_blanks (codes "run" ∷ signed_decimal r.first ∷ signed_decimal r.last ∷ codes "step" ∷ decimal r.step ∷ [])

-- all traces have one inline and crossline
abbrev pub no_survey_text : NoSurvey → List ℕ
no_survey_text n = with_blanks
    (codes "problem S1 traces" ∷ decimal n.traces
    ∷ codes "inline" ∷ signed_decimal n.inline
    ∷ codes "crossline" ∷ signed_decimal n.crossline ∷ [])

-- a few cells have another fold
abbrev pub fold_text : UnevenFold → List ℕ
fold_text f = with_blanks
    (codes "problem S9 cells" ∷ decimal f.cells
    ∷ codes "usual" ∷ decimal f.usual
    ∷ codes "less" ∷ decimal f.less
    ∷ codes "more" ∷ decimal f.more
    ∷ codes "least" ∷ decimal f.least
    ∷ codes "greatest" ∷ decimal f.greatest ∷ [])

-- so many pairs of cells, of which so many jump
abbrev pub jumps_text : ℕ → ℕ → List ℕ
jumps_text pairs jumps = with_blanks (codes "problem S10 pairs" ∷ decimal pairs ∷ codes "jumps" ∷ decimal jumps ∷ [])

-- two traces behind this word
abbrev pub pair_text : List ℕ → ℕ → ℕ → List ℕ
pair_text word p q = with_blanks (word ∷ decimal p ∷ decimal q ∷ [])

-- a line
abbrev pub problem_text : ProblemLine → List ℕ
problem_text (lines.Traces p n r) = with_blanks (codes "problem" ∷ code_of_problem p ∷ codes "traces" ∷ decimal n ∷ codes "runs" ∷ decimal r ∷ [])
problem_text (lines.Run p r) = run_text p r
problem_text (lines.TraceCount v n) = with_blanks (codes "problem F7 count" ∷ decimal v ∷ codes "traces" ∷ decimal n ∷ [])
problem_text (lines.TextLines n) = with_blanks (codes "problem F8 lines" ∷ decimal n ∷ [])
problem_text (lines.NoSurvey n) = no_survey_text n
problem_text (lines.MissingInlines m r) = missing_text (codes "S7") m r
problem_text (lines.MissingCrosslines m r) = missing_text (codes "S8") m r
problem_text (lines.Missing r) = missing_run_text r
problem_text (lines.Fold f) = fold_text f
problem_text (lines.Jumps n j) = jumps_text n j
problem_text (lines.Jump p) = pair_text (codes "jump") p.earlier p.later
problem_text (lines.SharedPositions n) = with_blanks (codes "problem S11 cells" ∷ decimal n ∷ [])
problem_text (lines.SharedPosition p) = pair_text (codes "run") p.later p.earlier

-- the line begins a problem, and is no run of one
abbrev pub begins_problem : ProblemLine → Bool
begins_problem (lines.Traces p n r) = true
begins_problem (lines.Run p r) = false
begins_problem (lines.TraceCount v n) = true
begins_problem (lines.TextLines n) = true
begins_problem (lines.NoSurvey n) = true
begins_problem (lines.MissingInlines m r) = true
begins_problem (lines.MissingCrosslines m r) = true
begins_problem (lines.Missing r) = false
begins_problem (lines.Fold f) = true
begins_problem (lines.Jumps n j) = true
begins_problem (lines.Jump p) = false
begins_problem (lines.SharedPositions n) = true
begins_problem (lines.SharedPosition p) = false

-- how many problems there are, and then the lines of each
abbrev pub problems_text : List ProblemLine → List ℕ
problems_text ls = counted_lines (codes "problems") (count_by begins_problem ls) (map problem_text ls)
