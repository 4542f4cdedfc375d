-- The tally that a `Grid` shows.
use Rattle.std.specs.Prelude.{ℕ, pos, ◌+◌, ◌<◌, ◌^◌}
use Rattle.std.specs.Ordering.{int_cmp}
use Rattle.key_counts.specs.Counts.{count_of}
use Rattle.trace_record.specs.Keys.{Key, cell, inline, crossline, offset, coordinate_x, coordinate_y, least, greatest, triple}
use Rattle.trace_record.specs.Tally.{Tally}
use Rattle.window_counts.specs.Places.{cell_cmp}
use Rattle.grid_live.specs.OfKeys.{times_among}
use Rattle.grid_live.specs.declared.keys.Keys.{Keys}
use Rattle.grid_live.specs.declared.grid.Grid.{Grid}

-- how often it counted each key
abbrev pub count_in : Grid → Key → ℕ
count_in g (cell i c) = count_of cell_cmp g.cells (i, c)
count_in g (inline i) = count_of int_cmp g.inlines i
count_in g (crossline c) = count_of int_cmp g.crosslines c
count_in g (offset o) = 0
count_in g (coordinate_x r) = 0
count_in g (coordinate_y r) = 0
count_in g (least v) = 0
count_in g (greatest v) = 0
count_in g (triple i c o) = 0

-- with the keys each number is below 2^64
abbrev pub HasRoom : Grid → Keys → Type 0
HasRoom g ks = (k : Key) → count_in g k + times_among ks k < 2 ^ 64

-- the tally of a running grid
abbrev pub tally_of_grid : Grid → Tally
tally_of_grid g = record { records = g.records; number = 0; sum = pos 0; count = λ k. count_in g k }
