-- The grid as it is read from a tally.
use Rattle.std.specs.Prelude.{◌≡◌, List, map}
use Rattle.std.specs.Ordering.{int_cmp}
use Rattle.trace_record.specs.Keys.{cell, inline, crossline}
use Rattle.trace_record.specs.Tally.{Tally}
use Rattle.key_counts.specs.Rising.{Shows}
use Rattle.window_counts.specs.Places.{cell_cmp}
use Rattle.grid_live.specs.Cells.{histogram_of}
use Rattle.grid_live.specs.declared.cell.Cell.{Cell}
use Rattle.grid_live.specs.declared.line.Line.{Line}
use Rattle.grid_live.specs.declared.fold_count.FoldCount.{FoldCount}

-- the cells that have traces and no others, rising, each with its number of traces
abbrev pub ShowsCells : Tally → List Cell → Type 0
ShowsCells t cs = Shows cell_cmp (λ k. t.count (cell k.0 k.1)) (map (λ c. ((c.inline, c.crossline), c.fold)) cs)

-- the inlines that have traces and no others, rising, each with its number of traces
abbrev pub ShowsInlines : Tally → List Line → Type 0
ShowsInlines t ls = Shows int_cmp (λ i. t.count (inline i)) (map (λ l. (l.number, l.traces)) ls)

-- the same of the crosslines
abbrev pub ShowsCrosslines : Tally → List Line → Type 0
ShowsCrosslines t ls = Shows int_cmp (λ c. t.count (crossline c)) (map (λ l. (l.number, l.traces)) ls)

-- the folds of the cells that have traces, rising, each with its number of cells
abbrev pub ShowsHistogram : Tally → List FoldCount → Type 0
ShowsHistogram t ts = (cs : List Cell) × ShowsCells t cs × (ts ≡ histogram_of cs)
