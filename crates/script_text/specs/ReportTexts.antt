-- What is printed for the reports.
use Rattle.std.specs.Prelude.{ℕ, ◌==◌, List, [], ◌∷◌, ◌++◌, decimal, codes, Option, Some, None, if◌then◌else◌}
use Rattle.std.specs.Fmt.{signed_decimal}
use Rattle.key_counts.specs.declared.ratio.Ratio.{Ratio}
use Rattle.trace_record.specs.declared.statistics.Statistics.{Statistics}
use Rattle.grid_live.specs.declared.cell.Cell.{Cell}
use Rattle.grid_live.specs.declared.line.Line.{Line}
use Rattle.grid_live.specs.declared.fold_count.FoldCount.{FoldCount}
use Rattle.fault_live.specs.declared.fault.Fault.{Fault}
use Rattle.fault_live.specs.declared.fault.Fault.TheVariants.{Sequence, Samples, Interval, Scalar, Units, Repeated, TraceCount, TextLines, Name}
use Rattle.bench_rules.specs.declared.row.Row.{Row}
use Rattle.bench_rules.specs.declared.location.Location.{Location}
use Rattle.bench_rules.specs.declared.trace_statistics.TraceStatistics.{TraceStatistics}
use Rattle.line_texts.specs.Lines.{with_blanks}

-- a fraction in lowest terms: a whole number stands alone
abbrev pub fraction_text : Ratio → List ℕ
fraction_text r = if r.den == 1 then signed_decimal r.num else signed_decimal r.num ++ codes "/" ++ decimal r.den

-- where a trace lies
abbrev pub location_text : Location → List ℕ
location_text g = with_blanks
    (codes "geometry inline" ∷ signed_decimal g.inline
    ∷ codes "crossline" ∷ signed_decimal g.crossline
    ∷ codes "offset" ∷ signed_decimal g.offset
    ∷ codes "x" ∷ fraction_text g.x
    ∷ codes "y" ∷ fraction_text g.y ∷ [])

-- statistics behind this word
abbrev pub statistics_text : List ℕ → Option Statistics → List ℕ
statistics_text word None = with_blanks (word ∷ codes "none" ∷ [])
statistics_text word (Some s) = with_blanks
    (word
    ∷ codes "least" ∷ signed_decimal s.least
    ∷ codes "greatest" ∷ signed_decimal s.greatest
    ∷ codes "sum" ∷ signed_decimal s.sum
    ∷ codes "samples" ∷ decimal s.number ∷ [])

-- statistics of the trace at p, with how many of its samples are 0
abbrev pub counted_statistics_text : (p : ℕ) → (zeros : ℕ) → Option Statistics → List ℕ
counted_statistics_text p z None = with_blanks (decimal p ∷ codes "none" ∷ [])
counted_statistics_text p z (Some s) = with_blanks
    (decimal p
    ∷ codes "least" ∷ signed_decimal s.least
    ∷ codes "greatest" ∷ signed_decimal s.greatest
    ∷ codes "sum" ∷ signed_decimal s.sum
    ∷ codes "zeros" ∷ decimal z
    ∷ codes "samples" ∷ decimal s.number ∷ [])

-- what the samples of a trace say
abbrev pub trace_statistics_text : TraceStatistics → List ℕ
trace_statistics_text t = counted_statistics_text t.position t.zeros t.statistics

-- the least and the greatest value
abbrev pub range_text : Option (Ratio × Ratio) → List ℕ
range_text None = codes "range none"
range_text (Some r) = with_blanks (codes "range" ∷ fraction_text r.0 ∷ fraction_text r.1 ∷ [])

-- a cell with its fold, behind this word
abbrev pub cell_text : List ℕ → Cell → List ℕ
cell_text word c = with_blanks (word ∷ signed_decimal c.inline ∷ signed_decimal c.crossline ∷ decimal c.fold ∷ [])

-- an inline or a crossline with its number of traces, behind this word
abbrev pub numbered_text : List ℕ → Line → List ℕ
numbered_text word l = with_blanks (word ∷ signed_decimal l.number ∷ decimal l.traces ∷ [])

-- a fold with its number of cells, behind this word
abbrev pub fold_count_text : List ℕ → FoldCount → List ℕ
fold_count_text word t = with_blanks (word ∷ decimal t.fold ∷ decimal t.cells ∷ [])

-- a row of a slice, behind this word
abbrev pub row_text : List ℕ → Row → List ℕ
row_text word r = with_blanks (word ∷ signed_decimal r.inline ∷ signed_decimal r.crossline ∷ decimal r.position ∷ signed_decimal r.value ∷ [])

-- a fault of trace p, behind its code
abbrev pub of_trace_text : List ℕ → ℕ → List (List ℕ) → List ℕ
of_trace_text code p rest = with_blanks (code ∷ codes "trace" ∷ decimal p ∷ rest)

-- a fault of the headers
abbrev pub fault_text : Fault → List ℕ
fault_text (Sequence p v) = of_trace_text (codes "F1") p (codes "sequence" ∷ signed_decimal v ∷ [])
fault_text (Samples p v n) = of_trace_text (codes "F2") p (codes "field" ∷ decimal v ∷ codes "samples" ∷ decimal n ∷ [])
fault_text (Interval p v w) = of_trace_text (codes "F3") p (codes "interval" ∷ decimal v ∷ codes "binary" ∷ decimal w ∷ [])
fault_text (Scalar p v) = of_trace_text (codes "F4") p (codes "scalar" ∷ signed_decimal v ∷ [])
fault_text (Units p v w) = of_trace_text (codes "F5") p (codes "units" ∷ signed_decimal v ∷ codes "first" ∷ signed_decimal w ∷ [])
fault_text (Repeated p q) = of_trace_text (codes "F6") p (codes "first" ∷ decimal q ∷ [])
fault_text (TraceCount v n) = with_blanks (codes "F7" ∷ codes "count" ∷ decimal v ∷ codes "traces" ∷ decimal n ∷ [])
fault_text (TextLines n) = with_blanks (codes "F8" ∷ codes "lines" ∷ decimal n ∷ [])
fault_text (Name p) = of_trace_text (codes "F9") p (codes "name" ∷ [])
