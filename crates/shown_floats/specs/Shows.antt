-- The words that show floats.
use Rattle.std.specs.Prelude.{ℕ, ℤ, ◌≡◌, ◌<◌, ⊤, Bool, true, false, List, All, length, map, take, Option, Some, None, if◌then◌else◌}
use Rattle.std.specs.Ordering.{int_eq}
use Rattle.num_order.specs.Number.{is_between}
use Rattle.float_codes.specs.declared.float_format.FloatFormat.{FloatFormat}
use Rattle.float_codes.specs.declared.float_format.FloatFormat.TheVariants.{Ieee64}
use Rattle.float_codes.specs.Ranks.{value_at, no_number}
use Rattle.float_text.specs.Texts.{ReadsBack}
use Rattle.trace_record.specs.declared.statistics.Statistics.{Statistics}
use Rattle.trace_groups.specs.declared.problem.TraceProblem.{TraceProblem}
use Rattle.trace_groups.specs.declared.problem.TraceProblem.TheVariants.{Dead, Loud}
use Rattle.bench_rules.specs.declared.float_statistics.FloatStatistics.{FloatStatistics}
use Rattle.bench_rules.specs.declared.problem_line.ProblemLine.{ProblemLine}
use Rattle.bench_rules.specs.declared.problem_line.ProblemLine.TheVariants.{Run}
use Rattle.bench_rules.specs.declared.row.Row.{Row}
use Rattle.bench_rules.specs.declared.trace_statistics.FloatTraceStatistics.{FloatTraceStatistics}
use Rattle.bench_rules.specs.declared.answer.Answer.{Answer}
use Rattle.bench_rules.specs.declared.answer.Answer.TheVariants as answers
use Rattle.shown_floats.specs.declared.float_word.FloatWord.{FloatWord}
use Rattle.shown_floats.specs.declared.float_answer.ShownEnds.{ShownEnds}
use Rattle.shown_floats.specs.declared.float_answer.ShownProblem.{ShownProblem}
use Rattle.shown_floats.specs.declared.float_answer.ShownStatistics.{ShownStatistics}
use Rattle.shown_floats.specs.declared.float_answer.ShownTotals.{ShownTotals}
use Rattle.shown_floats.specs.declared.float_answer.ShownTrace.{ShownTrace}
use Rattle.shown_floats.specs.declared.float_answer.FloatRow.{FloatRow}
use Rattle.shown_floats.specs.declared.float_answer.FloatAnswer.{FloatAnswer}
use Rattle.shown_floats.specs.declared.float_answer.FloatAnswer.TheVariants as floats

-- the bytes of a word
abbrev pub word_of : FloatWord → List ℕ
word_of w = take w.length w.bytes

-- the word shows the float of a rank of 64 bits: it reads back as that float, of a sample in the file's format, and has no blank and no line
-- feed
pub record ShowsRank (f : FloatFormat) (r : ℤ) (word : List ℕ) : Type 0 where
  pub reads_back : is_between true 8 r ≡ true → ReadsBack f (value_at r) word
  pub visible : All (λ c. 32 < c) word
  pub some : 0 < length word

-- the words show a least and a greatest rank
abbrev pub ShowsEnds : FloatFormat → (least greatest : ℤ) → ShownEnds → Type 0
ShowsEnds f least greatest e = ShowsRank f least (word_of e.least) × ShowsRank f greatest (word_of e.greatest)

-- the ends are there where some sample is a number, and are shown then
abbrev pub ShowsEndsOf : FloatFormat → (none : Bool) → (least greatest : ℤ) → Option ShownEnds → Type 0
ShowsEndsOf f true least greatest ends = ends ≡ None
ShowsEndsOf f false least greatest None = ⊥
ShowsEndsOf f false least greatest (Some e) = ShowsEnds f least greatest e

-- and with the sum, whose word is that of a binary64 in each format
abbrev pub ShowsNumbers : FloatFormat → (none : Bool) → FloatStatistics → Option (ShownEnds × FloatWord) → Type 0
ShowsNumbers f true s all = all ≡ None
ShowsNumbers f false s None = ⊥
ShowsNumbers f false s (Some p) = ShowsEnds f s.least s.greatest p.0 × ShowsRank Ieee64 s.sum (word_of p.1)

-- the rows with words that show their ranks
abbrev pub ShowsRows : FloatFormat → List Row → List FloatRow → Type 0
ShowsRows f rows shown = (map (λ r. r.row) shown ≡ rows) × All (λ r. ShowsRank f r.row.value (word_of r.word)) shown

-- a run of traces with this problem tells of a sample
abbrev pub tells_sample : TraceProblem → Bool
tells_sample Dead = true
tells_sample Loud = true
tells_sample problem = false

-- the rank that a line tells: the value of dead traces, and the amount of loud ones
abbrev pub rank_in : ProblemLine → Option ℤ
rank_in (Run p r) = if tells_sample p then Some r.facts.0 else None
rank_in line = None

-- the word is there where there is a rank, and shows it
abbrev pub ShowsAny : FloatFormat → Option ℤ → Option FloatWord → Type 0
ShowsAny f None word = word ≡ None
ShowsAny f (Some r) None = ⊥
ShowsAny f (Some r) (Some w) = ShowsRank f r (word_of w)

-- the lines with words that show their ranks
abbrev pub ShowsProblems : FloatFormat → List ProblemLine → List ShownProblem → Type 0
ShowsProblems f lines shown = (map (λ p. p.line) shown ≡ lines) × All (λ p. ShowsAny f (rank_in p.line) p.word) shown

-- the statistics of a trace, where it has samples
abbrev pub ShowsStat : FloatFormat → Option FloatStatistics → Option ShownStatistics → Type 0
ShowsStat f None None = ⊤
ShowsStat f None (Some t) = ⊥
ShowsStat f (Some s) None = ⊥
ShowsStat f (Some s) (Some t) = ShowsNumbers f (int_eq s.least no_number) s t.of_numbers × (t.number ≡ s.number) × (t.no_numbers ≡ s.no_numbers)

-- those of many traces
abbrev pub ShowsTraces : FloatFormat → List FloatTraceStatistics → List ShownTrace → Type 0
ShowsTraces f traces shown = (map (λ t. t.trace) shown ≡ traces) × All (λ t. ShowsStat f t.trace.statistics t.statistics) shown

-- those of all traces
abbrev pub ShowsTotals : FloatFormat → Option Statistics → Option ShownTotals → Type 0
ShowsTotals f None None = ⊤
ShowsTotals f None (Some t) = ⊥
ShowsTotals f (Some s) None = ⊥
ShowsTotals f (Some s) (Some t) = ShowsEndsOf f (int_eq s.least no_number) s.least s.greatest t.ends × (t.number ≡ s.number) × (t.no_numbers ≡ s.sum)

-- the answer about samples of floats shows this one of ranks
abbrev pub Shows : FloatFormat → Answer → FloatAnswer → Type 0
Shows f (answers.Value v) (floats.Value w) = ShowsRank f v (word_of w)
Shows f (answers.FloatStat s) (floats.Stat t) = ShowsStat f s t
Shows f (answers.Totals s) (floats.Totals t) = ShowsTotals f s t
Shows f (answers.Slice rows) (floats.Slice shown) = ShowsRows f rows shown
Shows f (answers.Problems lines) (floats.Problems shown) = ShowsProblems f lines shown
Shows f (answers.FloatStats traces) (floats.Stats shown) = ShowsTraces f traces shown
Shows f answer shown = ⊥

-- an answer about something else
abbrev pub IsOther : Answer → Type 0
IsOther (answers.Value v) = ⊥
IsOther (answers.FloatStat s) = ⊥
IsOther (answers.Totals s) = ⊥
IsOther (answers.Slice rows) = ⊥
IsOther (answers.Problems lines) = ⊥
IsOther (answers.FloatStats traces) = ⊥
IsOther answer = ⊤

-- an answer that is a list
abbrev pub IsList : Answer → Type 0
IsList (answers.Slice rows) = ⊤
IsList (answers.Problems lines) = ⊤
IsList (answers.FloatStats traces) = ⊤
IsList answer = ⊥

-- each rank has a word that shows it
abbrev pub EachRankIsShown : Type 0
EachRankIsShown = (f : FloatFormat) (r : ℤ) → (word : List ℕ) × ShowsRank f r word
