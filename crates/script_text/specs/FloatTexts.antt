-- What is printed for answers about samples that are floats.
use Rattle.std.specs.Prelude.{ℕ, List, [], ◌∷◌, map, count_by, decimal, codes, Option, Some, None}
use Rattle.std.specs.Fmt.{signed_decimal}
use Rattle.trace_groups.specs.declared.run.Run.{Run}
use Rattle.trace_groups.specs.declared.problem.TraceProblem.{TraceProblem}
use Rattle.trace_groups.specs.declared.problem.TraceProblem.TheVariants.{Loud}
use Rattle.bench_rules.specs.declared.problem_line.ProblemLine.{ProblemLine}
use Rattle.bench_rules.specs.declared.problem_line.ProblemLine.TheVariants as lines
use Rattle.shown_floats.specs.Shows.{word_of}
use Rattle.shown_floats.specs.declared.float_word.FloatWord.{FloatWord}
use Rattle.shown_floats.specs.declared.float_answer.ShownEnds.{ShownEnds}
use Rattle.shown_floats.specs.declared.float_answer.ShownProblem.{ShownProblem}
use Rattle.shown_floats.specs.declared.float_answer.ShownStatistics.{ShownStatistics}
use Rattle.shown_floats.specs.declared.float_answer.ShownTotals.{ShownTotals}
use Rattle.shown_floats.specs.declared.float_answer.ShownTrace.{ShownTrace}
use Rattle.shown_floats.specs.declared.float_answer.FloatRow.{FloatRow}
use Rattle.shown_floats.specs.declared.float_answer.FloatAnswer.{FloatAnswer}
use Rattle.shown_floats.specs.declared.float_answer.FloatAnswer.TheVariants as floats
use Rattle.script_text.specs.ProblemTexts.{begins_problem, problem_text}
use Rattle.line_texts.specs.Lines.{counted_lines, list_lines, with_blanks, with_line_end}

-- a word of a float, or `none`
abbrev pub word_or_none : Option FloatWord → List ℕ
word_or_none None = codes "none"
word_or_none (Some w) = word_of w

-- the word of the least float
abbrev pub least_of : Option ShownEnds → Option FloatWord
least_of None = None
least_of (Some e) = Some e.least

-- the word of the greatest float
abbrev pub greatest_of : Option ShownEnds → Option FloatWord
greatest_of None = None
greatest_of (Some e) = Some e.greatest

-- the words of the least and the greatest number of a trace, where some sample is one
abbrev pub ends_in : Option (ShownEnds × FloatWord) → Option ShownEnds
ends_in None = None
ends_in (Some p) = Some p.0

-- the word of their sum
abbrev pub sum_in : Option (ShownEnds × FloatWord) → Option FloatWord
sum_in None = None
sum_in (Some p) = Some p.1

-- the statistics of the samples of a trace
abbrev pub stat_text : Option ShownStatistics → List ℕ
stat_text None = with_blanks (codes "stat" ∷ codes "none" ∷ [])
stat_text (Some s) = with_blanks
    (codes "stat"
    ∷ codes "least" ∷ word_or_none (least_of (ends_in s.of_numbers))
    ∷ codes "greatest" ∷ word_or_none (greatest_of (ends_in s.of_numbers))
    ∷ codes "sum" ∷ word_or_none (sum_in s.of_numbers)
    ∷ codes "samples" ∷ decimal s.number
    ∷ codes "nans" ∷ signed_decimal s.no_numbers ∷ [])

-- those of the trace at p, with how many of its samples are 0
abbrev pub counted_stat_text : (p : ℕ) → (zeros : ℕ) → Option ShownStatistics → List ℕ
counted_stat_text p z None = with_blanks (decimal p ∷ codes "none" ∷ [])
counted_stat_text p z (Some s) = with_blanks
    (decimal p
    ∷ codes "least" ∷ word_or_none (least_of (ends_in s.of_numbers))
    ∷ codes "greatest" ∷ word_or_none (greatest_of (ends_in s.of_numbers))
    ∷ codes "sum" ∷ word_or_none (sum_in s.of_numbers)
    ∷ codes "zeros" ∷ decimal z
    ∷ codes "samples" ∷ decimal s.number
    ∷ codes "nans" ∷ signed_decimal s.no_numbers ∷ [])

-- what the samples of a trace say
abbrev pub shown_trace_text : ShownTrace → List ℕ
shown_trace_text t = counted_stat_text t.trace.position t.trace.zeros t.statistics

-- those of all traces, without the sum
abbrev pub totals_text : Option ShownTotals → List ℕ
totals_text None = with_blanks (codes "totals" ∷ codes "none" ∷ [])
totals_text (Some t) = with_blanks
    (codes "totals"
    ∷ codes "least" ∷ word_or_none (least_of t.ends)
    ∷ codes "greatest" ∷ word_or_none (greatest_of t.ends)
    ∷ codes "samples" ∷ decimal t.number
    ∷ codes "nans" ∷ signed_decimal t.no_numbers ∷ [])

-- a row of a slice, behind this word
abbrev pub float_row_text : List ℕ → FloatRow → List ℕ
float_row_text word r = with_blanks (word ∷ signed_decimal r.row.inline ∷ signed_decimal r.row.crossline ∷ decimal r.row.position ∷ word_of r.word ∷ [])

-- what the float is that a run of traces with this problem tells of
abbrev pub float_name : TraceProblem → List ℕ
float_name Loud = codes "amount"
float_name problem = codes "value"

-- a run of traces with the word of its float
abbrev pub float_run_text : TraceProblem → Run → FloatWord → List ℕ
float_run_text p r w = with_blanks (codes "run" ∷ decimal r.first ∷ decimal r.last ∷ float_name p ∷ word_of w ∷ [])

-- a line of what is wrong or doubtful, with the word of its float where it has one
abbrev pub worded_problem_text : ProblemLine → Option FloatWord → List ℕ
worded_problem_text (lines.Run p r) (Some w) = float_run_text p r w
worded_problem_text line word = problem_text line

-- the same
abbrev pub float_problem_text : ShownProblem → List ℕ
float_problem_text p = worded_problem_text p.line p.word

-- how many problems there are, and then the lines of each
abbrev pub float_problems_text : List ShownProblem → List ℕ
float_problems_text ps = counted_lines (codes "problems") (count_by (λ p. begins_problem p.line) ps) (map float_problem_text ps)

-- an answer, each line with its end
abbrev pub float_answer_text : FloatAnswer → List ℕ
float_answer_text (floats.Value w) = with_line_end (with_blanks (codes "value" ∷ word_of w ∷ []))
float_answer_text (floats.Stat s) = with_line_end (stat_text s)
float_answer_text (floats.Totals t) = with_line_end (totals_text t)
float_answer_text (floats.Slice rows) = list_lines (codes "slice") (map (float_row_text (codes "row")) rows)
float_answer_text (floats.Problems lines) = float_problems_text lines
float_answer_text (floats.Stats traces) = list_lines (codes "stats") (map shown_trace_text traces)
