-- What is printed for an answer.
use Rattle.std.specs.Prelude.{ℕ, Bool, List, [], ◌∷◌, ◌++◌, length, map, decimal, codes, if◌then◌else◌, Option, Some, None}
use Rattle.std.specs.Fmt.{signed_decimal}
use Rattle.num_order.specs.declared.order.Order.{Order}
use Rattle.num_order.specs.declared.order.Order.TheVariants.{Big, Little}
use Rattle.text_block.specs.declared.code.Code.{Code}
use Rattle.text_block.specs.declared.code.Code.TheVariants.{Ebcdic, Ascii}
use Rattle.field_map.specs.declared.place.Place.{Place}
use Rattle.sample_codes.specs.Formats.{code_of}
use Rattle.bench_rules.specs.declared.float_statistics.FloatStatistics.{FloatStatistics}
use Rattle.bench_rules.specs.declared.info.Info.{Info}
use Rattle.bench_rules.specs.declared.answer.Answer.{Answer}
use Rattle.bench_rules.specs.declared.answer.Answer.TheVariants as answers
use Rattle.bench_rules.specs.declared.trace_statistics.FloatTraceStatistics.{FloatTraceStatistics}
use Rattle.text_block.specs.Lines.{without_blanks}
use Rattle.script_text.specs.HeaderTexts.{table_row_text, found_text, number_text, extremes_text}
use Rattle.script_text.specs.ProblemTexts.{problems_text}
use Rattle.script_text.specs.SectionTexts.{section_head}
use Rattle.script_text.specs.SurveyTexts.{survey_text}
use Rattle.script_text.specs.ReportTexts.{location_text, statistics_text, range_text, cell_text, numbered_text, fold_count_text, row_text, fault_text, trace_statistics_text}
use Rattle.line_texts.specs.Lines.{with_blanks, with_line_end, list_lines}
use Rattle.script_text.specs.Texts.{place_text}

-- the order of bytes
abbrev pub order_text : Order → List ℕ
order_text Big = codes "big"
order_text Little = codes "little"

-- a yes or a no
abbrev pub yes_or_no : Bool → List ℕ
yes_or_no b = if b then codes "yes" else codes "no"

-- how many bytes are of no trace, where that is told
abbrev pub tail_text : Option ℕ → List ℕ
tail_text None = []
tail_text (Some n) = codes " tail " ++ decimal n

-- a file's head, its number of traces, its length, and how much of it is of no trace
abbrev pub info_text : Info → List ℕ
info_text i =
    codes "info order " ++ order_text i.head.order
    ++ codes " revision " ++ decimal i.head.major ++ codes "." ++ decimal i.head.minor
    ++ codes " format " ++ decimal (code_of i.head.format)
    ++ codes " samples " ++ decimal i.head.samples
    ++ codes " fixed " ++ yes_or_no i.head.fixed
    ++ codes " extensions " ++ decimal i.head.extensions
    ++ codes " blocks " ++ decimal i.head.blocks
    ++ codes " trailer " ++ decimal i.head.trailer
    ++ codes " traces " ++ decimal i.traces
    ++ codes " bytes " ++ decimal i.bytes
    ++ tail_text i.tail

-- the code of a block
abbrev pub code_text : Code → List ℕ
code_text Ebcdic = codes "ebcdic"
code_text Ascii = codes "ascii"

-- a stanza's block and name
abbrev pub stanza_text : ℕ × List ℕ → List ℕ
stanza_text s = codes "stanza " ++ decimal s.0 ++ codes " " ++ s.1

-- a name and its place
abbrev pub field_text : List ℕ × Place → List ℕ
field_text f = codes "field " ++ f.0 ++ codes " " ++ place_text f.1

-- a shown line, without the blanks at its end
abbrev pub shown_text : List ℕ → List ℕ
shown_text text = codes "line |" ++ without_blanks text ++ codes "|"

-- of floats, as ranks; what a run prints are their words
abbrev pub ranks_text : Option FloatStatistics → List ℕ
ranks_text None = codes "stat none"
ranks_text (Some s) = with_blanks (codes "stat ranks" ∷ signed_decimal s.least ∷ signed_decimal s.greatest ∷ signed_decimal s.sum ∷ [])

-- the same of a trace among others
abbrev pub trace_ranks_text : FloatTraceStatistics → List ℕ
trace_ranks_text t = with_blanks (ranks_text t.statistics ∷ codes "trace" ∷ decimal t.position ∷ codes "zeros" ∷ decimal t.zeros ∷ [])

-- an answer, each line with its end; of a section the first line, behind which its rows are printed while their traces are looked at
abbrev pub answer_text : Answer → List ℕ
answer_text (answers.Count n) = with_line_end (with_blanks (codes "traces" ∷ decimal n ∷ []))
answer_text (answers.Info info) = with_line_end (info_text info)
answer_text (answers.Value v) = with_line_end (with_blanks (codes "value" ∷ signed_decimal v ∷ []))
answer_text (answers.Line text) = with_line_end (shown_text text)
answer_text (answers.Code code) = with_line_end (codes "code " ++ code_text code)
answer_text (answers.Stanzas stanzas) = list_lines (codes "stanzas") (map stanza_text stanzas)
answer_text (answers.Fields fields) = list_lines (codes "fields") (map field_text fields)
answer_text (answers.Geometry location) = with_line_end (location_text location)
answer_text (answers.Stat statistics) = with_line_end (statistics_text (codes "stat") statistics)
answer_text (answers.FloatStat statistics) = with_line_end (ranks_text statistics)
answer_text (answers.Fold n) = with_line_end (with_blanks (codes "fold" ∷ decimal n ∷ []))
answer_text (answers.Grid cells) = list_lines (codes "cells") (map (cell_text (codes "cell")) cells)
answer_text (answers.Inlines lines) = list_lines (codes "inlines") (map (numbered_text (codes "inline")) lines)
answer_text (answers.Crosslines lines) = list_lines (codes "crosslines") (map (numbered_text (codes "crossline")) lines)
answer_text (answers.Histogram times) = list_lines (codes "histogram") (map (fold_count_text (codes "times")) times)
answer_text (answers.Range range) = with_line_end (range_text range)
answer_text (answers.Totals statistics) = with_line_end (statistics_text (codes "totals") statistics)
answer_text (answers.Slice rows) = list_lines (codes "slice") (map (row_text (codes "row")) rows)
answer_text (answers.Faults faults) = list_lines (codes "faults") (map fault_text faults)
answer_text (answers.Problems lines) = problems_text lines
answer_text (answers.Survey grid) = with_line_end (survey_text grid)
answer_text (answers.Lines lines) = list_lines (codes "lines") (map shown_text lines)
answer_text (answers.Table rows) = list_lines (codes "table") (map table_row_text rows)
answer_text (answers.Found found) = list_lines (codes "found") (map (found_text (codes "trace")) found)
answer_text (answers.Header fields) = list_lines (codes "header") (map number_text fields)
answer_text (answers.Extremes fields) = list_lines (codes "extremes") (map extremes_text fields)
answer_text (answers.Chosen n) = with_line_end (with_blanks (codes "chosen" ∷ decimal n ∷ []))
answer_text (answers.Stats traces) = list_lines (codes "stats") (map trace_statistics_text traces)
answer_text (answers.FloatStats traces) = list_lines (codes "stats") (map trace_ranks_text traces)
answer_text (answers.Section section) = section_head (length section.traces)
