-- The cells of a list of traces, each with its first trace. A cell is the traces with one inline and one crossline.
use Rattle.std.specs.Prelude.{ℕ, ◌+◌, ◌&&◌, Bool, List, [], ◌∷◌}
use Rattle.std.specs.List.{dedup}
use Rattle.std.specs.List.Sorted.{IsStrictlySortedBy}
use Rattle.std.specs.Ordering.{int_cmp, nat_cmp, int_eq, ordering_then}
use Rattle.std.specs.declared.cmp.Ordering.{Ordering}
use Rattle.trace_record.specs.Facts.{Facts}
use Rattle.cell_positions.specs.InOrder.{in_order}
use Rattle.cell_positions.specs.declared.cell.Cell.{Cell}

-- which of two cells is less: by inline, by crossline, by first trace
abbrev pub cell_cmp : Cell → Cell → Ordering
cell_cmp c d = ordering_then (int_cmp c.inline d.inline) (ordering_then (int_cmp c.crossline d.crossline) (nat_cmp c.trace d.trace))

-- both have one inline and one crossline
abbrev pub is_same : Cell → Cell → Bool
is_same c d = int_eq c.inline d.inline && int_eq c.crossline d.crossline

-- each trace as a cell of its own, where the first of all stands at position n
abbrev pub each_from : ℕ → List Facts → List Cell
each_from n [] = []
each_from n (f ∷ fs) = record { inline = f.inline; crossline = f.crossline; trace = n } ∷ each_from (n + 1) fs

-- the cells of these traces, rising by inline and crossline, each with its first trace: of the traces in order the first of each cell
unfoldable pub cells_of : List Facts → List Cell
cells_of fs = dedup is_same (in_order cell_cmp (each_from 1 fs))

-- which of two cells is less: by inline, then by crossline
abbrev pub line_cmp : Cell → Cell → Ordering
line_cmp c d = ordering_then (int_cmp c.inline d.inline) (int_cmp c.crossline d.crossline)

-- the cells rise by inline and crossline, and no two have both the same
abbrev pub CellsRise : List Cell → Type 0
CellsRise cs = IsStrictlySortedBy line_cmp cs
