-- The keys of a trace that a grid counts, or no longer.
use Rattle.std.specs.Prelude.{ℕ}
use Rattle.std.specs.Ordering.{int_cmp}
use Rattle.key_counts.specs.Numbers.{times_of}
use Rattle.trace_record.specs.Keys.{Key, cell, inline, crossline, offset, coordinate_x, coordinate_y, least, greatest, triple}
use Rattle.window_counts.specs.Places.{cell_cmp}
use Rattle.grid_live.specs.declared.keys.Keys.{Keys}

-- how often a key is among them
abbrev pub times_among : Keys → Key → ℕ
times_among ks (cell i c) = times_of (λ k. k) cell_cmp ks.cell (i, c)
times_among ks (inline i) = times_of (λ k. k) int_cmp ks.inline i
times_among ks (crossline c) = times_of (λ k. k) int_cmp ks.crossline c
times_among ks (offset o) = 0
times_among ks (coordinate_x r) = 0
times_among ks (coordinate_y r) = 0
times_among ks (least v) = 0
times_among ks (greatest v) = 0
times_among ks (triple i c o) = 0
