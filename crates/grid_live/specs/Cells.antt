-- The grid of a list of traces, from scratch.
use Rattle.std.specs.Prelude.{ℕ, ℤ, ◌&&◌, List, map, count_by}
use Rattle.std.specs.Ordering.{int_cmp, int_eq, nat_cmp}
use Rattle.window_counts.specs.Places.{cell_cmp}
use Rattle.trace_record.specs.Facts.{Facts}
use Rattle.key_counts.specs.Rising.{occurrences}
use Rattle.grid_live.specs.declared.cell.Cell.{Cell}
use Rattle.grid_live.specs.declared.line.Line.{Line}
use Rattle.grid_live.specs.declared.fold_count.FoldCount.{FoldCount}

-- the fold of a cell: how many traces have this inline and crossline
abbrev pub fold_of : List Facts → ℤ → ℤ → ℕ
fold_of fs i c = count_by (λ f. int_eq f.inline i && int_eq f.crossline c) fs

-- a pair of inline and crossline with its number as a cell
abbrev pub cell_with : (ℤ × ℤ) × ℕ → Cell
cell_with e = record { inline = e.0.0; crossline = e.0.1; fold = e.1 }

-- a number with its number of traces as a line
abbrev pub line_with : ℤ × ℕ → Line
line_with e = record { number = e.0; traces = e.1 }

-- a fold with its number of cells
abbrev pub fold_count_of : ℕ × ℕ → FoldCount
fold_count_of e = record { fold = e.0; cells = e.1 }

-- the cells that occur, rising, each with its fold
abbrev pub cells : List Facts → List Cell
cells fs = map cell_with (occurrences cell_cmp (map (λ f. (f.inline, f.crossline)) fs))

-- the inlines that occur, rising, each with its number of traces
abbrev pub inlines : List Facts → List Line
inlines fs = map line_with (occurrences int_cmp (map (λ f. f.inline) fs))

-- the crosslines that occur, rising, each with its number of traces
abbrev pub crosslines : List Facts → List Line
crosslines fs = map line_with (occurrences int_cmp (map (λ f. f.crossline) fs))

-- the folds that occur among these cells, rising, each with its number of cells
abbrev pub histogram_of : List Cell → List FoldCount
histogram_of cs = map fold_count_of (occurrences nat_cmp (map (λ c. c.fold) cs))

-- the folds that occur, rising, each with its number of cells
abbrev pub histogram : List Facts → List FoldCount
histogram fs = histogram_of (cells fs)
