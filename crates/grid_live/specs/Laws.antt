-- Laws of the grid: what is read from the tally of a list of traces is the grid of that list, and there is one.
use Rattle.std.specs.Prelude.{◌≡◌, ℤ, List}
use Rattle.trace_record.specs.Facts.{Facts}
use Rattle.trace_record.specs.Keys.{cell}
use Rattle.grid_live.specs.GridKeys.{keys_of_grid}
use Rattle.trace_record.specs.Tally.{Tally, tally_of, Same}
use Rattle.grid_live.specs.declared.cell.Cell.{Cell}
use Rattle.grid_live.specs.declared.line.Line.{Line}
use Rattle.grid_live.specs.declared.fold_count.FoldCount.{FoldCount}
use Rattle.grid_live.specs.Cells.{fold_of, cells, inlines, crosslines, histogram}
use Rattle.grid_live.specs.OfTally.{ShowsCells, ShowsInlines, ShowsCrosslines, ShowsHistogram}

-- the tally's number at a cell is its fold
abbrev pub FoldOfTally : Type 0
FoldOfTally = (fs : List Facts) (i c : ℤ) → (tally_of keys_of_grid fs).count (cell i c) ≡ fold_of fs i c

-- the cells of a list of traces are shown by its tally
abbrev pub CellsAreShown : Type 0
CellsAreShown = (fs : List Facts) → ShowsCells (tally_of keys_of_grid fs) (cells fs)

-- the tally of some traces shows their inlines
abbrev pub InlinesAreShown : Type 0
InlinesAreShown = (fs : List Facts) → ShowsInlines (tally_of keys_of_grid fs) (inlines fs)

-- the tally of some traces shows their crosslines
abbrev pub CrosslinesAreShown : Type 0
CrosslinesAreShown = (fs : List Facts) → ShowsCrosslines (tally_of keys_of_grid fs) (crosslines fs)

-- the tally of some traces shows their histogram
abbrev pub HistogramIsShown : Type 0
HistogramIsShown = (fs : List Facts) → ShowsHistogram (tally_of keys_of_grid fs) (histogram fs)

-- tallies that say the same show one list
abbrev pub AtMostOneListOfCells : Type 0
AtMostOneListOfCells = (t u : Tally) (xs ys : List Cell) → Same t u → ShowsCells t xs → ShowsCells u ys → xs ≡ ys

-- tallies that say the same show one list of inlines
abbrev pub AtMostOneListOfInlines : Type 0
AtMostOneListOfInlines = (t u : Tally) (xs ys : List Line) → Same t u → ShowsInlines t xs → ShowsInlines u ys → xs ≡ ys

-- tallies that say the same show one list of crosslines
abbrev pub AtMostOneListOfCrosslines : Type 0
AtMostOneListOfCrosslines = (t u : Tally) (xs ys : List Line) → Same t u → ShowsCrosslines t xs → ShowsCrosslines u ys → xs ≡ ys

-- tallies that say the same show one histogram
abbrev pub AtMostOneHistogram : Type 0
AtMostOneHistogram = (t u : Tally) (xs ys : List FoldCount) → Same t u → ShowsHistogram t xs → ShowsHistogram u ys → xs ≡ ys
