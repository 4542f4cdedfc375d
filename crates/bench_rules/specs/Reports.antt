-- What each report says of a state: the from-scratch definition of its crate on the records of the volume's traces.
use Rattle.std.specs.Prelude.{ℕ, ℤ, Bool, not, List, map, count_by, codes, bytes_eq, take, Option, option_map}
use Rattle.std.specs.List.{range_with_len}
use Rattle.text_block.specs.Lines.{shown_line}
use Rattle.frame_cut.specs.BinaryHeader.{bin_unsigned}
use Rattle.frame_cut.specs.declared.file_head.Head.{Head}
use Rattle.frame_cut.specs.Traces.{trace_of}
use Rattle.frame_cut.specs.Volume.{Volume}
use Rattle.trace_record.specs.Facts.{Facts}
use Rattle.trace_record.specs.OfTrace.{record_of}
use Rattle.key_counts.specs.declared.ratio.Ratio.{Ratio}
use Rattle.trace_record.specs.declared.statistics.Statistics.{Statistics}
use Rattle.grid_live.specs.Cells.{fold_of, cells, inlines, crosslines, histogram}
use Rattle.grid_live.specs.declared.cell.Cell.{Cell}
use Rattle.grid_live.specs.declared.line.Line.{Line}
use Rattle.grid_live.specs.declared.fold_count.FoldCount.{FoldCount}
use Rattle.range_stats.specs.Ranges.{range_of}
use Rattle.range_stats.specs.Totals.{totals_of}
use Rattle.range_stats.specs.declared.quantity.Quantity.{Quantity}
use Rattle.fault_live.specs.Faults.{faults_of}
use Rattle.fault_live.specs.declared.fault.Fault.{Fault}
use Rattle.fault_live.specs.declared.head_facts.HeadFacts.{HeadFacts}
use Rattle.cell_positions.specs.Survey.{survey_of}
use Rattle.cell_positions.specs.declared.survey.SurveyGrid.{SurveyGrid}
use Rattle.bench_rules.specs.Slices.{slice_of}
use Rattle.bench_rules.specs.declared.row.Row.{Row}
use Rattle.bench_rules.specs.declared.location.Location.{Location}
use Rattle.bench_rules.specs.State.{State}

-- ---- what the reports take

-- the record of each trace
abbrev pub records : State → List Facts
records s = map (record_of s.volume.head s.fields) s.volume.traces

-- line q of a block does not begin with `C` as it is shown
abbrev pub is_without_c : List ℕ → ℕ → Bool
is_without_c block q = not (bytes_eq (take 1 (shown_line block q)) (codes "C"))

-- how many of the 40 lines of a block do not
abbrev pub lines_without_c : List ℕ → ℕ
lines_without_c block = count_by (is_without_c block) (range_with_len 1 40)

-- what a head, a textual header and a binary header say to the faults
abbrev pub facts_of_headers : Head → (text bin : List ℕ) → HeadFacts
facts_of_headers h text bin = record {
  trace_count = bin_unsigned h.order 3513 8 bin;
  lines = lines_without_c text;
  interval = bin_unsigned h.order 3217 2 bin;
  major = h.major;
  minor = h.minor;
}

-- what the file's headers say to them
abbrev pub head_facts : Volume → HeadFacts
head_facts v = facts_of_headers v.head v.text v.bin

-- ---- the grid

-- how many traces have this inline and crossline
abbrev pub fold_in : State → ℤ → ℤ → ℕ
fold_in s i c = fold_of (records s) i c

-- the cells that have traces, each with its fold
abbrev pub cells_in : State → List Cell
cells_in s = cells (records s)

-- the inlines that have traces, each with their number
abbrev pub inlines_in : State → List Line
inlines_in s = inlines (records s)

-- the crosslines that have traces, each with their number
abbrev pub crosslines_in : State → List Line
crosslines_in s = crosslines (records s)

-- the folds that occur, each with its number of cells
abbrev pub histogram_in : State → List FoldCount
histogram_in s = histogram (records s)

-- the grid of the survey in one line; nothing without traces
abbrev pub survey_in : State → Option SurveyGrid
survey_in s = survey_of (records s)

-- ---- ranges, totals and single traces

-- the least and the greatest value of this kind
abbrev pub range_in : State → Quantity → Option (Ratio × Ratio)
range_in s w = range_of w (records s)

-- the least, the greatest, the sum and the number of all samples
abbrev pub totals_in : State → Option Statistics
totals_in s = totals_of (records s)

-- where the trace of this record lies
abbrev pub location_of : Facts → Location
location_of f = record { inline = f.inline; crossline = f.crossline; offset = f.offset; x = f.x; y = f.y }

-- where trace p lies, if there is one
abbrev pub geometry_in : State → ℕ → Option Location
geometry_in s p = option_map (λ t. location_of (record_of s.volume.head s.fields t)) (trace_of s.volume p)

-- ---- slices and faults

-- the rows of slice k
abbrev pub slice_in : State → ℕ → List Row
slice_in s k = slice_of s.volume.head s.fields k s.volume.traces

-- the faults of the headers
abbrev pub faults_in : State → List Fault
faults_in s = faults_of (head_facts s.volume) (records s)
