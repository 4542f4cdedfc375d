-- What a volume's running reports and kept slices hold, whatever edits there were: what its traces give as they are now.
use Rattle.std.specs.Prelude.{◌≡◌, ℕ, ℤ, List, map, Option, Result, Ok, Err}
use Rattle.edit_overlay.specs.Reads.{Reads}
use Rattle.trace_record.specs.Facts.{facts_of}
use Rattle.trace_record.specs.declared.record.Record.{Record}
use Rattle.trace_record.specs.Keys.{cell}
use Rattle.fault_live.specs.FaultKeys.{keys_of_faults}
use Rattle.grid_live.specs.GridKeys.{keys_of_grid}
use Rattle.range_stats.specs.RangeKeys.{keys_of_ranges}
use Rattle.range_stats.specs.TotalKeys.{keys_of_totals}
use Rattle.trace_record.specs.Tally.{tally_of, Same}
use Rattle.key_counts.specs.declared.ratio.Ratio.{Ratio}
use Rattle.grid_live.specs.OfGrid.{tally_of_grid}
use Rattle.grid_live.specs.OfTally.{ShowsCells, ShowsInlines, ShowsCrosslines, ShowsHistogram}
use Rattle.grid_live.specs.declared.cell.Cell.{Cell}
use Rattle.grid_live.specs.declared.grid.Grid.{Grid}
use Rattle.grid_live.specs.declared.line.Line.{Line}
use Rattle.grid_live.specs.declared.fold_count.FoldCount.{FoldCount}
use Rattle.range_stats.specs.OfRanges.{tally_of_ranges}
use Rattle.range_stats.specs.OfTotals.{tally_of_totals}
use Rattle.range_stats.specs.OfTally.{IsRangeIn, IsLeastIn, IsGreatestIn, statistics_from}
use Rattle.range_stats.specs.declared.ranges.Ranges.{Ranges}
use Rattle.range_stats.specs.declared.totals.Totals.{Totals}
use Rattle.range_stats.specs.declared.quantity.Quantity.{Quantity}
use Rattle.fault_live.specs.Faults.{faults_of}
use Rattle.fault_live.specs.OfFaults.{tally_of_faults}
use Rattle.fault_live.specs.declared.faults.Faults.{Faults}
use Rattle.bench_rules.specs.KeptSlices.{Cache, AreRight}
use Rattle.bench_rules.specs.Reports.{records, head_facts, fold_in, cells_in, inlines_in, crosslines_in, histogram_in, range_in, totals_in, faults_in}
use Rattle.bench_rules.specs.State.{State}

-- ---- the records of a volume's traces, and the values that run with them

-- the records are those of the volume's traces, in their order
abbrev pub AreRecordsOf : State → List Record → Type 0
AreRecordsOf s rs = map facts_of rs ≡ records s

-- the grid has counted the record of each trace once, and nothing else
abbrev pub IsGridOf : State → Grid → Type 0
IsGridOf s grid = Same (tally_of_grid grid) (tally_of keys_of_grid (records s))

-- the ranges have
abbrev pub AreRangesOf : State → Ranges → Type 0
AreRangesOf s ranges = Same (tally_of_ranges ranges) (tally_of keys_of_ranges (records s))

-- the totals have
abbrev pub AreTotalsOf : State → Totals → Type 0
AreTotalsOf s totals = Same (tally_of_totals totals) (tally_of keys_of_totals (records s))

-- the triples of inline, crossline and offset have
abbrev pub AreTriplesOf : State → Faults → Type 0
AreTriplesOf s triples = Same (tally_of_faults triples) (tally_of keys_of_faults (records s))

-- ---- one volume with what is held beside it

-- each slice that is kept is that of the volume's traces
abbrev pub AreSlicesOf : State → Cache → Type 0
AreSlicesOf s cache = AreRight s.volume.head s.fields s.volume.traces cache

-- a state, how often traces were looked at, the bytes that the load read, what is known of the reads of them since, and the
-- numbers of the slices that are kept, the last asked first
pub record LiveSession : Type 0 where
  pub state : State
  pub looks : ℕ
  pub loaded : List ℕ
  pub reads : Reads
  pub kept : List ℕ

-- the numbers kept after a call: as they were, where it was refused
abbrev pub kept_after_reply : {A E : Type 0} → Result A E → List ℕ → List ℕ → List ℕ
kept_after_reply (Ok answer) after before = after
kept_after_reply (Err refusal) after before = before

-- ---- what running values show is what the reports say of the volume

-- the number of traces of a cell
abbrev pub ShowsFolds : Type 0
ShowsFolds = (s : State) (grid : Grid) (i c : ℤ) → IsGridOf s grid → (tally_of_grid grid).count (cell i c) ≡ fold_in s i c

-- the cells with their folds
abbrev pub ShowsTheCells : Type 0
ShowsTheCells = (s : State) (grid : Grid) (cs : List Cell) → IsGridOf s grid → ShowsCells (tally_of_grid grid) cs → cs ≡ cells_in s

-- the inlines with their numbers of traces
abbrev pub ShowsTheInlines : Type 0
ShowsTheInlines = (s : State) (grid : Grid) (ls : List Line) → IsGridOf s grid → ShowsInlines (tally_of_grid grid) ls → ls ≡ inlines_in s

-- the crosslines with theirs
abbrev pub ShowsTheCrosslines : Type 0
ShowsTheCrosslines = (s : State) (grid : Grid) (ls : List Line) → IsGridOf s grid → ShowsCrosslines (tally_of_grid grid) ls → ls ≡ crosslines_in s

-- the folds with their numbers of cells
abbrev pub ShowsTheHistogram : Type 0
ShowsTheHistogram = (s : State) (grid : Grid) (ts : List FoldCount) → IsGridOf s grid → ShowsHistogram (tally_of_grid grid) ts → ts ≡ histogram_in s

-- the range of each kind of value
abbrev pub ShowsRanges : Type 0
ShowsRanges = (s : State) (ranges : Ranges) (w : Quantity) (found : Option (Ratio × Ratio)) → AreRangesOf s ranges → IsRangeIn w (tally_of_ranges ranges) found → found ≡ range_in s w

-- the least, the greatest, the sum and the number of all samples
abbrev pub ShowsTotals : Type 0
ShowsTotals = (s : State) (totals : Totals) (l g : Option ℤ) → AreTotalsOf s totals → IsLeastIn (tally_of_totals totals) l → IsGreatestIn (tally_of_totals totals) g
    → statistics_from l g totals.sum totals.number ≡ totals_in s

-- the faults, from the records and the file's headers
abbrev pub ShowsFaults : Type 0
ShowsFaults = (s : State) (rs : List Record) → AreRecordsOf s rs → faults_of (head_facts s.volume) (map facts_of rs) ≡ faults_in s
