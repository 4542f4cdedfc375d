-- The texts of answers, of refusals and of faults are lines none of which is empty.
use Rattle.std.proofs.Common.{◌≡◌, ℕ, ℤ, ◌==◌, ◌-◌, length, List, [], ◌∷◌, ◌++◌, map, Bool, true, false, Option, Some, None, cond, refl}
use Rattle.std.specs.Prelude.{codes, decimal}
use Rattle.std.specs.Fmt.{signed_decimal}
use Rattle.std.specs.List.{list_all, suffix_len}
use Rattle.std.specs.Str.{byte}
use Rattle.num_order.specs.declared.order.Order.{Order}
use Rattle.num_order.specs.declared.order.Order.TheVariants.{Big, Little}
use Rattle.text_block.specs.declared.code.Code.{Code}
use Rattle.text_block.specs.declared.code.Code.TheVariants.{Ebcdic, Ascii}
use Rattle.text_block.specs.Lines.{without_blanks}
use Rattle.field_map.specs.declared.place.Place.{Place}
use Rattle.sample_codes.specs.Formats.{code_of}
use Rattle.key_counts.specs.declared.ratio.Ratio.{Ratio}
use Rattle.trace_record.specs.declared.statistics.Statistics.{Statistics}
use Rattle.bench_rules.specs.declared.float_statistics.FloatStatistics.{FloatStatistics}
use Rattle.grid_live.specs.declared.cell.Cell.{Cell}
use Rattle.grid_live.specs.declared.line.Line.{Line}
use Rattle.grid_live.specs.declared.fold_count.FoldCount.{FoldCount}
use Rattle.fault_live.specs.declared.fault.Fault.{Fault}
use Rattle.fault_live.specs.declared.fault.Fault.TheVariants as faults
use Rattle.line_problems.specs.declared.spans.LineSpan.{LineSpan}
use Rattle.position_differences.specs.declared.difference.Difference.{Difference}
use Rattle.cell_positions.specs.declared.survey.SurveyGrid.{SurveyGrid}
use Rattle.bench_rules.specs.declared.row.Row.{Row}
use Rattle.bench_rules.specs.declared.extremes.Extremes.{Extremes}
use Rattle.bench_rules.specs.declared.info.Info.{Info}
use Rattle.bench_rules.specs.declared.trace_statistics.FloatTraceStatistics.{FloatTraceStatistics}
use Rattle.bench_rules.specs.declared.trace_statistics.TraceStatistics.{TraceStatistics}
use Rattle.bench_rules.specs.declared.location.Location.{Location}
use Rattle.bench_rules.specs.declared.answer.Answer.TheVariants as answers
use Rattle.line_texts.specs.Lines.{with_blanks, list_lines}
use Rattle.script_text.specs.Texts.{place_text, extension_text, sign_letter, is_plain, is_full_line, IsFullLines}
use Rattle.script_text.specs.ReportTexts.{fraction_text, location_text, statistics_text, range_text, cell_text, numbered_text, fold_count_text, row_text, of_trace_text, fault_text, counted_statistics_text, trace_statistics_text}
use Rattle.script_text.specs.HeaderTexts.{table_row_text, found_text, number_text, four_numbers, extremes_text}
use Rattle.script_text.specs.AnswerTexts.{order_text, yes_or_no, info_text, code_text, stanza_text, field_text, shown_text, ranks_text, tail_text, trace_ranks_text}
use Rattle.script_text.specs.SurveyTexts.{difference_text, span_text, step_text, survey_text}
use Rattle.script_text.specs.FullLines.{AnswersAreFullLines}
use Rattle.script_text.proofs.ProblemLineLemmas.{full_problems}
use Rattle.script_text.proofs.FullLineLemmas.{plain_both, plain_decimal, full_decimal, plain_signed, plain_numbers, plain_first, plain_joined, Plain, no_word, word, plain_words, full_joined, words_line, one_line, lines_behind, each_full, some_full}

-- ---- the parts of lines

plain_fraction : (r : Ratio) → is_plain (fraction_text r) ≡ true
plain_fraction r =
    elim (r.den == 1) as (λ v. is_plain (cond v (signed_decimal r.num) (signed_decimal r.num ++ codes "/" ++ decimal r.den)) ≡ true) [
      | true ↦ plain_signed r.num
      | false ↦ plain_joined (signed_decimal r.num) (plain_signed r.num) (word (codes "/") refl (word (decimal r.den) (plain_decimal r.den) no_word))
    ]

plain_order : (order : Order) → is_plain (order_text order) ≡ true
plain_order Big = refl
plain_order Little = refl

plain_yes : (b : Bool) → is_plain (yes_or_no b) ≡ true
plain_yes true = refl
plain_yes false = refl

plain_code : (code : Code) → is_plain (code_text code) ≡ true
plain_code Ebcdic = refl
plain_code Ascii = refl

plain_place : (place : Place) → is_plain (place_text place) ≡ true
plain_place place =
    plain_joined (codes "@") refl
    (word (extension_text place.extension) (plain_extension place.extension) (word (decimal place.byte) (plain_decimal place.byte)
    (word (codes ":") refl (word (decimal place.kind.size) (plain_decimal place.kind.size) (word (sign_letter place.kind.signed) (plain_letter place.kind.signed) no_word)))))
  where
    plain_extension : (n : ℕ) → is_plain (extension_text n) ≡ true
    plain_extension n =
        elim (n == 0) as (λ v. is_plain (cond v [] (decimal n ++ codes ".")) ≡ true)
        [ true ↦ refl | false ↦ plain_both (decimal n) (codes ".") (plain_decimal n) refl ]

    plain_letter : (b : Bool) → is_plain (sign_letter b) ≡ true
    plain_letter true = refl
    plain_letter false = refl

full_info : (i : Info) → is_full_line (info_text i) ≡ true
full_info i =
    full_joined (codes "info order ") refl
    (word (order_text i.head.order) (plain_order i.head.order)
    (word (codes " revision ") refl (word (decimal i.head.major) (plain_decimal i.head.major)
    (word (codes ".") refl (word (decimal i.head.minor) (plain_decimal i.head.minor)
    (word (codes " format ") refl (word (decimal (code_of i.head.format)) (plain_decimal (code_of i.head.format))
    (word (codes " samples ") refl (word (decimal i.head.samples) (plain_decimal i.head.samples)
    (word (codes " fixed ") refl (word (yes_or_no i.head.fixed) (plain_yes i.head.fixed)
    (word (codes " extensions ") refl (word (decimal i.head.extensions) (plain_decimal i.head.extensions)
    (word (codes " blocks ") refl (word (decimal i.head.blocks) (plain_decimal i.head.blocks)
    (word (codes " trailer ") refl (word (decimal i.head.trailer) (plain_decimal i.head.trailer)
    (word (codes " traces ") refl (word (decimal i.traces) (plain_decimal i.traces)
    (word (codes " bytes ") refl (word (decimal i.bytes) (plain_decimal i.bytes)
    (word (tail_text i.tail) (plain_tail i.tail) no_word))))))))))))))))))))))
  where
    plain_tail : (t : Option ℕ) → is_plain (tail_text t) ≡ true
    plain_tail None = refl
    plain_tail (Some n) = plain_both (codes " tail ") (decimal n) refl (plain_decimal n)

-- ---- lines

full_location : (g : Location) → is_full_line (location_text g) ≡ true
full_location g = words_line (codes "geometry inline") refl (word (signed_decimal g.inline) (plain_signed g.inline)
    (word (codes "crossline") refl (word (signed_decimal g.crossline) (plain_signed g.crossline)
    (word (codes "offset") refl (word (signed_decimal g.offset) (plain_signed g.offset)
    (word (codes "x") refl (word (fraction_text g.x) (plain_fraction g.x)
    (word (codes "y") refl (word (fraction_text g.y) (plain_fraction g.y) no_word)))))))))

full_statistics : (head : List ℕ) → is_full_line head ≡ true → (s : Option Statistics) → is_full_line (statistics_text head s) ≡ true
full_statistics head e None = words_line head e (word (codes "none") refl no_word)
full_statistics head e (Some s) = words_line head e
    (word (codes "least") refl (word (signed_decimal s.least) (plain_signed s.least)
    (word (codes "greatest") refl (word (signed_decimal s.greatest) (plain_signed s.greatest)
    (word (codes "sum") refl (word (signed_decimal s.sum) (plain_signed s.sum)
    (word (codes "samples") refl (word (decimal s.number) (plain_decimal s.number) no_word))))))))

full_ranks : (s : Option FloatStatistics) → is_full_line (ranks_text s) ≡ true
full_ranks None = refl
full_ranks (Some s) = words_line (codes "stat ranks") refl
    (word (signed_decimal s.least) (plain_signed s.least) (word (signed_decimal s.greatest) (plain_signed s.greatest) (word (signed_decimal s.sum) (plain_signed s.sum) no_word)))

full_trace_statistics : (t : TraceStatistics) → is_full_line (trace_statistics_text t) ≡ true
full_trace_statistics t = by t.statistics
  where
    by : (s : Option Statistics) → is_full_line (counted_statistics_text t.position t.zeros s) ≡ true
    by None = words_line (decimal t.position) (full_decimal t.position) (word (codes "none") refl no_word)
    by (Some s) = words_line (decimal t.position) (full_decimal t.position)
        (word (codes "least") refl (word (signed_decimal s.least) (plain_signed s.least)
        (word (codes "greatest") refl (word (signed_decimal s.greatest) (plain_signed s.greatest)
        (word (codes "sum") refl (word (signed_decimal s.sum) (plain_signed s.sum)
        (word (codes "zeros") refl (word (decimal t.zeros) (plain_decimal t.zeros)
        (word (codes "samples") refl (word (decimal s.number) (plain_decimal s.number) no_word))))))))))

full_trace_ranks : (t : FloatTraceStatistics) → is_full_line (trace_ranks_text t) ≡ true
full_trace_ranks t = words_line (ranks_text t.statistics) (full_ranks t.statistics)
    (word (codes "trace") refl (word (decimal t.position) (plain_decimal t.position) (word (codes "zeros") refl (word (decimal t.zeros) (plain_decimal t.zeros) no_word))))

full_range : (range : Option (Ratio × Ratio)) → is_full_line (range_text range) ≡ true
full_range None = refl
full_range (Some r) = words_line (codes "range") refl (word (fraction_text r.0) (plain_fraction r.0) (word (fraction_text r.1) (plain_fraction r.1) no_word))

plain_step : (s : Option ℤ) → is_plain (step_text s) ≡ true
plain_step None = refl
plain_step (Some s) = plain_signed s

plain_span : (s : LineSpan) → is_plain (span_text s) ≡ true
plain_span s = plain_words (word (signed_decimal s.first) (plain_signed s.first) (word (signed_decimal s.last) (plain_signed s.last) (word (codes "step") refl (word (step_text s.step) (plain_step s.step) no_word))))

plain_difference : (d : Option Difference) → is_plain (difference_text d) ≡ true
plain_difference None = refl
plain_difference (Some d) = plain_words (word (fraction_text d.x) (plain_fraction d.x) (word (fraction_text d.y) (plain_fraction d.y) no_word))

full_survey : (grid : Option SurveyGrid) → is_full_line (survey_text grid) ≡ true
full_survey None = refl
full_survey (Some g) = words_line (codes "survey inline") refl
    (word (span_text g.inline) (plain_span g.inline) (word (codes "crossline") refl (word (span_text g.crossline) (plain_span g.crossline)
    (word (codes "along_inline") refl (word (difference_text g.along_inline) (plain_difference g.along_inline)
    (word (codes "along_crossline") refl (word (difference_text g.along_crossline) (plain_difference g.along_crossline)
    (word (codes "cells") refl (word (decimal g.cells) (plain_decimal g.cells) (word (codes "of") refl (word (decimal g.full) (plain_decimal g.full) no_word)))))))))))

full_cell : (c : Cell) → is_full_line (cell_text (codes "cell") c) ≡ true
full_cell c = words_line (codes "cell") refl (word (signed_decimal c.inline) (plain_signed c.inline)
    (word (signed_decimal c.crossline) (plain_signed c.crossline) (word (decimal c.fold) (plain_decimal c.fold) no_word)))

full_numbered : (head : List ℕ) → is_full_line head ≡ true → (l : Line) → is_full_line (numbered_text head l) ≡ true
full_numbered head e l = words_line head e (word (signed_decimal l.number) (plain_signed l.number) (word (decimal l.traces) (plain_decimal l.traces) no_word))

full_fold_count : (t : FoldCount) → is_full_line (fold_count_text (codes "times") t) ≡ true
full_fold_count t = words_line (codes "times") refl (word (decimal t.fold) (plain_decimal t.fold) (word (decimal t.cells) (plain_decimal t.cells) no_word))

full_row : (r : Row) → is_full_line (row_text (codes "row") r) ≡ true
full_row r = words_line (codes "row") refl (word (signed_decimal r.inline) (plain_signed r.inline) (word (signed_decimal r.crossline) (plain_signed r.crossline)
    (word (decimal r.position) (plain_decimal r.position) (word (signed_decimal r.value) (plain_signed r.value) no_word))))

full_of_trace : (head : List ℕ) → is_full_line head ≡ true → (p : ℕ) (rest : List (List ℕ)) → Plain rest → is_full_line (of_trace_text head p rest) ≡ true
full_of_trace head e p rest plain = words_line head e (word (codes "trace") refl (word (decimal p) (plain_decimal p) plain))

full_fault : (f : Fault) → is_full_line (fault_text f) ≡ true
full_fault (faults.Sequence p v) = full_of_trace (codes "F1") refl p _ (word (codes "sequence") refl (word (signed_decimal v) (plain_signed v) no_word))
full_fault (faults.Samples p v n) = full_of_trace (codes "F2") refl p _ (word (codes "field") refl (word (decimal v) (plain_decimal v) (word (codes "samples") refl (word (decimal n) (plain_decimal n) no_word))))
full_fault (faults.Interval p v w) = full_of_trace (codes "F3") refl p _ (word (codes "interval") refl (word (decimal v) (plain_decimal v) (word (codes "binary") refl (word (decimal w) (plain_decimal w) no_word))))
full_fault (faults.Scalar p v) = full_of_trace (codes "F4") refl p _ (word (codes "scalar") refl (word (signed_decimal v) (plain_signed v) no_word))
full_fault (faults.Units p v w) = full_of_trace (codes "F5") refl p _ (word (codes "units") refl (word (signed_decimal v) (plain_signed v) (word (codes "first") refl (word (signed_decimal w) (plain_signed w) no_word))))
full_fault (faults.Repeated p q) = full_of_trace (codes "F6") refl p _ (word (codes "first") refl (word (decimal q) (plain_decimal q) no_word))
full_fault (faults.TraceCount v n) = words_line (codes "F7") refl (word (codes "count") refl (word (decimal v) (plain_decimal v) (word (codes "traces") refl (word (decimal n) (plain_decimal n) no_word))))
full_fault (faults.TextLines n) = words_line (codes "F8") refl (word (codes "lines") refl (word (decimal n) (plain_decimal n) no_word))
full_fault (faults.Name p) = full_of_trace (codes "F9") refl p _ (word (codes "name") refl no_word)

full_stanza : (s : ℕ × List ℕ) → is_plain s.1 ≡ true → is_full_line (stanza_text s) ≡ true
full_stanza s e = full_joined (codes "stanza ") refl (word (decimal s.0) (plain_decimal s.0) (word (codes " ") refl (word s.1 e no_word)))

full_field : (f : List ℕ × Place) → is_plain f.0 ≡ true → is_full_line (field_text f) ≡ true
full_field f e = full_joined (codes "field ") refl (word f.0 e (word (codes " ") refl (word (place_text f.1) (plain_place f.1) no_word)))

full_shown : (text : List ℕ) → is_plain text ≡ true → is_full_line (shown_text text) ≡ true
full_shown text e =
    full_joined (codes "line |") refl (word (without_blanks text) (plain_first (length text - suffix_len (λ c. c == byte " ") text) text e) (word (codes "|") refl no_word))

full_table_row : (r : ℕ × List ℤ) → is_full_line (table_row_text r) ≡ true
full_table_row r = words_line (decimal r.0) (full_decimal r.0) (plain_numbers r.1)

full_found : (e : ℕ × ℤ) → is_full_line (found_text (codes "trace") e) ≡ true
full_found e = words_line (codes "trace") refl (word (decimal e.0) (plain_decimal e.0) (word (signed_decimal e.1) (plain_signed e.1) no_word))

full_number : (f : List ℕ × ℤ) → is_plain f.0 ≡ true → is_full_line (number_text f) ≡ true
full_number f e = full_joined (codes "field ") refl (word f.0 e (word (codes " ") refl (word (signed_decimal f.1) (plain_signed f.1) no_word)))

plain_four : (x : Extremes) → Plain (four_numbers x)
plain_four x =
    word (signed_decimal x.least) (plain_signed x.least) (word (signed_decimal x.greatest) (plain_signed x.greatest)
    (word (signed_decimal x.first) (plain_signed x.first) (word (signed_decimal x.last) (plain_signed x.last) no_word)))

full_extremes : (f : List ℕ × Extremes) → is_plain f.0 ≡ true → is_full_line (extremes_text f) ≡ true
full_extremes f e = full_joined (codes "field ") refl (word f.0 e (word (codes " ") refl (word (with_blanks (four_numbers f.1)) (plain_words (plain_four f.1)) no_word)))

-- ---- lists

counted : (head : List ℕ) (n : ℕ) → is_full_line head ≡ true → is_full_line (head ++ codes " " ++ decimal n) ≡ true
counted head n e = full_joined head e (word (codes " ") refl (word (decimal n) (plain_decimal n) no_word))

pub a_list : (head : List ℕ) (lines : List (List ℕ)) → is_full_line head ≡ true → list_all is_full_line lines ≡ true → IsFullLines (list_lines head lines)
a_list head lines e f = lines_behind head lines (counted head (length lines) e) f

pub answers_are_full_lines : AnswersAreFullLines
answers_are_full_lines (answers.Count n) h = one_line (with_blanks (codes "traces" ∷ decimal n ∷ [])) (words_line (codes "traces") refl (word (decimal n) (plain_decimal n) no_word))
answers_are_full_lines (answers.Info info) h = one_line (info_text info) (full_info info)
answers_are_full_lines (answers.Value v) h = one_line (with_blanks (codes "value" ∷ signed_decimal v ∷ [])) (words_line (codes "value") refl (word (signed_decimal v) (plain_signed v) no_word))
answers_are_full_lines (answers.Line text) h = one_line (shown_text text) (full_shown text h)
answers_are_full_lines (answers.Code code) h = one_line (codes "code " ++ code_text code) (full_joined (codes "code ") refl (word (code_text code) (plain_code code) no_word))
answers_are_full_lines (answers.Stanzas stanzas) h = a_list (codes "stanzas") (map stanza_text stanzas) refl (some_full stanza_text (λ s. is_plain s.1) full_stanza stanzas h)
answers_are_full_lines (answers.Fields fields) h = a_list (codes "fields") (map field_text fields) refl (some_full field_text (λ f. is_plain f.0) full_field fields h)
answers_are_full_lines (answers.Geometry location) h = one_line (location_text location) (full_location location)
answers_are_full_lines (answers.Stat statistics) h = one_line (statistics_text (codes "stat") statistics) (full_statistics (codes "stat") refl statistics)
answers_are_full_lines (answers.FloatStat s) h = one_line (ranks_text s) (full_ranks s)
answers_are_full_lines (answers.Fold n) h = one_line (with_blanks (codes "fold" ∷ decimal n ∷ [])) (words_line (codes "fold") refl (word (decimal n) (plain_decimal n) no_word))
answers_are_full_lines (answers.Grid cells) h = a_list (codes "cells") (map (cell_text (codes "cell")) cells) refl (each_full (cell_text (codes "cell")) full_cell cells)
answers_are_full_lines (answers.Inlines lines) h = a_list (codes "inlines") (map (numbered_text (codes "inline")) lines) refl (each_full (numbered_text (codes "inline")) (full_numbered (codes "inline") refl) lines)
answers_are_full_lines (answers.Crosslines lines) h = a_list (codes "crosslines") (map (numbered_text (codes "crossline")) lines) refl (each_full (numbered_text (codes "crossline")) (full_numbered (codes "crossline") refl) lines)
answers_are_full_lines (answers.Histogram times) h = a_list (codes "histogram") (map (fold_count_text (codes "times")) times) refl (each_full (fold_count_text (codes "times")) full_fold_count times)
answers_are_full_lines (answers.Range range) h = one_line (range_text range) (full_range range)
answers_are_full_lines (answers.Totals statistics) h = one_line (statistics_text (codes "totals") statistics) (full_statistics (codes "totals") refl statistics)
answers_are_full_lines (answers.Slice rows) h = a_list (codes "slice") (map (row_text (codes "row")) rows) refl (each_full (row_text (codes "row")) full_row rows)
answers_are_full_lines (answers.Faults faults) h = a_list (codes "faults") (map fault_text faults) refl (each_full fault_text full_fault faults)
answers_are_full_lines (answers.Problems lines) h = full_problems lines
answers_are_full_lines (answers.Survey grid) h = one_line (survey_text grid) (full_survey grid)
answers_are_full_lines (answers.Lines lines) h = a_list (codes "lines") (map shown_text lines) refl (some_full shown_text is_plain full_shown lines h)
answers_are_full_lines (answers.Table rows) h = a_list (codes "table") (map table_row_text rows) refl (each_full table_row_text full_table_row rows)
answers_are_full_lines (answers.Found found) h = a_list (codes "found") (map (found_text (codes "trace")) found) refl (each_full (found_text (codes "trace")) full_found found)
answers_are_full_lines (answers.Header fields) h = a_list (codes "header") (map number_text fields) refl (some_full number_text (λ f. is_plain f.0) full_number fields h)
answers_are_full_lines (answers.Extremes fields) h = a_list (codes "extremes") (map extremes_text fields) refl (some_full extremes_text (λ f. is_plain f.0) full_extremes fields h)
answers_are_full_lines (answers.Chosen n) h = one_line (with_blanks (codes "chosen" ∷ decimal n ∷ [])) (words_line (codes "chosen") refl (word (decimal n) (plain_decimal n) no_word))
answers_are_full_lines (answers.Stats traces) h = a_list (codes "stats") (map trace_statistics_text traces) refl (each_full trace_statistics_text full_trace_statistics traces)
answers_are_full_lines (answers.FloatStats traces) h = a_list (codes "stats") (map trace_ranks_text traces) refl (each_full trace_ranks_text full_trace_ranks traces)
answers_are_full_lines (answers.Section section) h =
    one_line (with_blanks (codes "samples" ∷ decimal (length section.traces) ∷ [])) (words_line (codes "samples") refl (word (decimal (length section.traces)) (plain_decimal (length section.traces)) no_word))
