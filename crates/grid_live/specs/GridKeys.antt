-- What the grid counts of a trace.
use Rattle.std.specs.Prelude.{pos, Bool, false, ◌&&◌}
use Rattle.std.specs.Ordering.{int_eq}
use Rattle.trace_record.specs.Facts.{Facts}
use Rattle.trace_record.specs.Keys.{Key, Counted, cell, inline, crossline}

-- the grid counts the cell, the inline and the crossline
abbrev pub grid_has : Facts → Key → Bool
grid_has f (cell i c) = int_eq f.inline i && int_eq f.crossline c
grid_has f (inline i) = int_eq f.inline i
grid_has f (crossline c) = int_eq f.crossline c
grid_has f _ = false

-- what the grid counts of a trace: these keys, and no samples
abbrev pub keys_of_grid : Counted
keys_of_grid = record { has = grid_has; number = λ f. 0; sum = λ f. pos 0 }
