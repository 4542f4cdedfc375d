-- The texts of answers about samples that are floats are lines, none of which is empty.
use Rattle.std.proofs.Common.{◌≡◌, ℕ, ℤ, ◌<◌, ◌==◌, Bool, true, false, List, [], ◌∷◌, map, refl, arith, Option, Some, None}
use Rattle.std.specs.Prelude.{codes, count_by, decimal, All, if◌then◌else◌}
use Rattle.std.specs.Fmt.{signed_decimal}
use Rattle.std.specs.List.{list_all}
use Rattle.std.proofs.lemmas.Bool.{ne_eqb}
use Rattle.float_codes.specs.declared.float_format.FloatFormat.{FloatFormat}
use Rattle.bench_rules.specs.declared.answer.Answer.TheVariants as answers
use Rattle.trace_groups.specs.declared.problem.TraceProblem.{TraceProblem}
use Rattle.trace_groups.specs.declared.problem.TraceProblem.TheVariants.{Loud}
use Rattle.trace_groups.specs.declared.run.Run.{Run}
use Rattle.bench_rules.specs.declared.problem_line.ProblemLine.{ProblemLine}
use Rattle.bench_rules.specs.declared.problem_line.ProblemLine.TheVariants as lines
use Rattle.shown_floats.specs.Shows.{rank_in, tells_sample, word_of, ShowsAny, ShowsEndsOf, ShowsNumbers, ShowsRank, ShowsStat, ShowsTotals}
use Rattle.shown_floats.specs.declared.float_answer.FloatRow.{FloatRow}
use Rattle.shown_floats.specs.declared.float_answer.FloatAnswer.TheVariants as floats
use Rattle.trace_record.specs.declared.statistics.Statistics.{Statistics}
use Rattle.bench_rules.specs.declared.float_statistics.FloatStatistics.{FloatStatistics}
use Rattle.float_codes.specs.declared.float_format.FloatFormat.TheVariants.{Ieee64}
use Rattle.float_codes.specs.Ranks.{no_number}
use Rattle.std.specs.Ordering.{int_eq}
use Rattle.shown_floats.specs.declared.float_word.FloatWord.{FloatWord}
use Rattle.shown_floats.specs.declared.float_answer.ShownEnds.{ShownEnds}
use Rattle.shown_floats.specs.declared.float_answer.ShownProblem.{ShownProblem}
use Rattle.shown_floats.specs.declared.float_answer.ShownStatistics.{ShownStatistics}
use Rattle.shown_floats.specs.declared.float_answer.ShownTotals.{ShownTotals}
use Rattle.shown_floats.specs.declared.float_answer.ShownTrace.{ShownTrace}
use Rattle.std.proofs.lemmas.List.Elements.{All-head, All-tail}
use Rattle.script_text.proofs.FullLineLemmas.{counted_behind, full_decimal, plain_decimal, plain_signed, no_word, word, words_line, one_line}
use Rattle.script_text.proofs.ProblemLineLemmas.{counted, full_problem}
use Rattle.script_text.proofs.AnswerLineLemmas.{a_list}
use Rattle.script_text.specs.FloatTexts.{float_name, float_problem_text, float_problems_text, float_row_text, float_run_text, counted_stat_text, shown_trace_text, stat_text, totals_text, worded_problem_text}
use Rattle.script_text.specs.ProblemTexts.{begins_problem}
use Rattle.script_text.specs.FullLines.{FloatAnswersAreFullLines}
use Rattle.line_texts.specs.Lines.{with_blanks}
use Rattle.script_text.specs.Texts.{is_plain, is_full_line, IsFullLines}

-- what has no blank has no line feed
plain_visible : (word : List ℕ) → All (λ c. 32 < c) word → is_plain word ≡ true
plain_visible [] h = refl
plain_visible (c ∷ cs) h =
    let first : 32 < c = All-head (λ x. 32 < x) c cs h in
    let other : (c == 10) ≡ false = ne_eqb c 10 (λ e. absurd (omega (arith, e, first))) in
    rw (other, plain_visible cs (All-tail (λ x. 32 < x) c cs h)) refl

pub plain_rank : (f : FloatFormat) (r : ℤ) (word : List ℕ) → ShowsRank f r word → is_plain word ≡ true
plain_rank f r word h = plain_visible word h.visible

full_stat : (f : FloatFormat) (s : Option FloatStatistics) (t : Option ShownStatistics) → ShowsStat f s t → is_full_line (stat_text t) ≡ true
full_stat f s None h = refl
full_stat f None (Some t) h = absurd h
full_stat f (Some s) (Some t) h = by (int_eq s.least no_number) t.of_numbers h.0
  where
    line : (least greatest sum : List ℕ) → is_plain least ≡ true → is_plain greatest ≡ true → is_plain sum ≡ true
        → is_full_line (with_blanks (codes "stat" ∷ codes "least" ∷ least ∷ codes "greatest" ∷ greatest ∷ codes "sum" ∷ sum ∷ codes "samples" ∷ decimal t.number ∷ codes "nans" ∷ signed_decimal t.no_numbers ∷ [])) ≡ true
    line least greatest sum a b c = words_line (codes "stat") refl
        (word (codes "least") refl (word least a (word (codes "greatest") refl (word greatest b (word (codes "sum") refl (word sum c
        (word (codes "samples") refl (word (decimal t.number) (plain_decimal t.number) (word (codes "nans") refl (word (signed_decimal t.no_numbers) (plain_signed t.no_numbers) no_word))))))))))

    by : (b : Bool) (o : Option (ShownEnds × FloatWord)) → ShowsNumbers f b s o → is_full_line (stat_text (Some (record t { of_numbers = o }))) ≡ true
    by true o h = rw h (line (codes "none") (codes "none") (codes "none") refl refl refl)
    by false None h = absurd h
    by false (Some p) h = line (word_of p.0.least) (word_of p.0.greatest) (word_of p.1) (plain_rank f s.least _ h.0.0) (plain_rank f s.greatest _ h.0.1) (plain_rank Ieee64 s.sum _ h.1)

full_totals : (f : FloatFormat) (s : Option Statistics) (t : Option ShownTotals) → ShowsTotals f s t → is_full_line (totals_text t) ≡ true
full_totals f s None h = refl
full_totals f None (Some t) h = absurd h
full_totals f (Some s) (Some t) h = by (int_eq s.least no_number) t.ends h.0
  where
    line : (least greatest : List ℕ) → is_plain least ≡ true → is_plain greatest ≡ true
        → is_full_line (with_blanks (codes "totals" ∷ codes "least" ∷ least ∷ codes "greatest" ∷ greatest ∷ codes "samples" ∷ decimal t.number ∷ codes "nans" ∷ signed_decimal t.no_numbers ∷ [])) ≡ true
    line least greatest a b = words_line (codes "totals") refl
        (word (codes "least") refl (word least a (word (codes "greatest") refl (word greatest b
        (word (codes "samples") refl (word (decimal t.number) (plain_decimal t.number) (word (codes "nans") refl (word (signed_decimal t.no_numbers) (plain_signed t.no_numbers) no_word))))))))

    by : (b : Bool) (o : Option ShownEnds) → ShowsEndsOf f b s.least s.greatest o → is_full_line (totals_text (Some (record t { ends = o }))) ≡ true
    by true o h = rw h (line (codes "none") (codes "none") refl refl)
    by false None h = absurd h
    by false (Some e) h = line (word_of e.least) (word_of e.greatest) (plain_rank f s.least _ h.0) (plain_rank f s.greatest _ h.1)

full_rows : (f : FloatFormat) (rows : List FloatRow) → All (λ r. ShowsRank f r.row.value (word_of r.word)) rows → list_all is_full_line (map (float_row_text (codes "row")) rows) ≡ true
full_rows f [] h = refl
full_rows f (r ∷ rs) h =
    let here = All-head (λ (x : FloatRow). ShowsRank f x.row.value (word_of x.word)) r rs h in
    let one : is_full_line (float_row_text (codes "row") r) ≡ true = words_line (codes "row") refl
    (word (signed_decimal r.row.inline) (plain_signed r.row.inline) (word (signed_decimal r.row.crossline) (plain_signed r.row.crossline)
    (word (decimal r.row.position) (plain_decimal r.row.position) (word (word_of r.word) (plain_rank f r.row.value _ here) no_word)))) in
    rw (one, full_rows f rs (All-tail (λ (x : FloatRow). ShowsRank f x.row.value (word_of x.word)) r rs h)) refl

plain_name : (p : TraceProblem) → is_plain (float_name p) ≡ true
plain_name Loud = refl
plain_name p = refl

full_run : (f : FloatFormat) (p : TraceProblem) (r : Run) (w : FloatWord) (b : Bool) → ShowsAny f (if b then Some r.facts.0 else None) (Some w) → is_full_line (float_run_text p r w) ≡ true
full_run f p r w true h = words_line (codes "run") refl
    (word (decimal r.first) (plain_decimal r.first) (word (decimal r.last) (plain_decimal r.last) (word (float_name p) (plain_name p) (word (word_of w) (plain_rank f r.facts.0 _ h) no_word))))
full_run f p r w false h = absurd cc

full_line_of : (f : FloatFormat) (l : ProblemLine) (w : Option FloatWord) → ShowsAny f (rank_in l) w → is_full_line (worded_problem_text l w) ≡ true
full_line_of f (lines.Run p r) (Some w) h = full_run f p r w (tells_sample p) h
full_line_of f l w h = full_problem l

full_each : (f : FloatFormat) (ps : List ShownProblem) → All (λ p. ShowsAny f (rank_in p.line) p.word) ps → list_all is_full_line (map float_problem_text ps) ≡ true
full_each f [] h = refl
full_each f (p ∷ ps) h =
    let here = All-head (λ (x : ShownProblem). ShowsAny f (rank_in x.line) x.word) p ps h in
    rw (full_line_of f p.line p.word here, full_each f ps (All-tail (λ (x : ShownProblem). ShowsAny f (rank_in x.line) x.word) p ps h)) refl

full_float_problems : (f : FloatFormat) (ps : List ShownProblem) → All (λ p. ShowsAny f (rank_in p.line) p.word) ps → IsFullLines (float_problems_text ps)
full_float_problems f ps h =
    let n : ℕ = count_by (λ p. begins_problem p.line) ps in
    counted_behind (codes "problems") n (map float_problem_text ps) (counted n) (full_each f ps h)

full_trace : (f : FloatFormat) (t : ShownTrace) → ShowsStat f t.trace.statistics t.statistics → is_full_line (shown_trace_text t) ≡ true
full_trace f t h = by t.trace.statistics t.statistics h
  where
    p : ℕ
    p = t.trace.position

    zeros : ℕ
    zeros = t.trace.zeros

    line : (w : ShownStatistics) (least greatest sum : List ℕ) → is_plain least ≡ true → is_plain greatest ≡ true → is_plain sum ≡ true
        → is_full_line (with_blanks (decimal p ∷ codes "least" ∷ least ∷ codes "greatest" ∷ greatest ∷ codes "sum" ∷ sum ∷ codes "zeros" ∷ decimal zeros ∷ codes "samples" ∷ decimal w.number ∷ codes "nans" ∷ signed_decimal w.no_numbers ∷ [])) ≡ true
    line w least greatest sum a b c = words_line (decimal p) (full_decimal p)
        (word (codes "least") refl (word least a (word (codes "greatest") refl (word greatest b (word (codes "sum") refl (word sum c (word (codes "zeros") refl (word (decimal zeros) (plain_decimal zeros)
        (word (codes "samples") refl (word (decimal w.number) (plain_decimal w.number) (word (codes "nans") refl (word (signed_decimal w.no_numbers) (plain_signed w.no_numbers) no_word))))))))))))

    numbers : (s : FloatStatistics) (w : ShownStatistics) (b : Bool) (o : Option (ShownEnds × FloatWord)) → ShowsNumbers f b s o → is_full_line (counted_stat_text p zeros (Some (record w { of_numbers = o }))) ≡ true
    numbers s w true o h = rw h (line w (codes "none") (codes "none") (codes "none") refl refl refl)
    numbers s w false None h = absurd h
    numbers s w false (Some e) h = line w (word_of e.0.least) (word_of e.0.greatest) (word_of e.1) (plain_rank f s.least _ h.0.0) (plain_rank f s.greatest _ h.0.1) (plain_rank Ieee64 s.sum _ h.1)

    by : (s : Option FloatStatistics) (w : Option ShownStatistics) → ShowsStat f s w → is_full_line (counted_stat_text p zeros w) ≡ true
    by s None h = words_line (decimal p) (full_decimal p) (word (codes "none") refl no_word)
    by None (Some w) h = absurd h
    by (Some s) (Some w) h = numbers s w (int_eq s.least no_number) w.of_numbers h.0

full_traces : (f : FloatFormat) (ts : List ShownTrace) → All (λ t. ShowsStat f t.trace.statistics t.statistics) ts → list_all is_full_line (map shown_trace_text ts) ≡ true
full_traces f [] h = refl
full_traces f (t ∷ ts) h =
    let here = All-head (λ (x : ShownTrace). ShowsStat f x.trace.statistics x.statistics) t ts h in
    rw (full_trace f t here, full_traces f ts (All-tail (λ (x : ShownTrace). ShowsStat f x.trace.statistics x.statistics) t ts h)) refl

pub float_answers_are_full_lines : FloatAnswersAreFullLines
float_answers_are_full_lines f (answers.Value v) (floats.Value w) h = one_line (with_blanks (codes "value" ∷ word_of w ∷ [])) (words_line (codes "value") refl (word (word_of w) (plain_rank f v _ h) no_word))
float_answers_are_full_lines f (answers.FloatStat s) (floats.Stat t) h = one_line (stat_text t) (full_stat f s t h)
float_answers_are_full_lines f (answers.Totals s) (floats.Totals t) h = one_line (totals_text t) (full_totals f s t h)
float_answers_are_full_lines f (answers.Slice rows) (floats.Slice shown) h = a_list (codes "slice") (map (float_row_text (codes "row")) shown) refl (full_rows f shown h.1)
float_answers_are_full_lines f (answers.Problems told) (floats.Problems shown) h = full_float_problems f shown h.1
float_answers_are_full_lines f (answers.FloatStats traces) (floats.Stats shown) h = a_list (codes "stats") (map shown_trace_text shown) refl (full_traces f shown h.1)
float_answers_are_full_lines f answer shown h = absurd h
