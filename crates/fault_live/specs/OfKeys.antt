-- The key of a trace that faults count, or no longer.
use Rattle.std.specs.Prelude.{ℕ, ℤ, Option}
use Rattle.key_counts.specs.Numbers.{times_of}
use Rattle.trace_record.specs.Keys.{Key, cell, inline, crossline, offset, coordinate_x, coordinate_y, least, greatest, triple}
use Rattle.window_counts.specs.Places.{triple_cmp}

-- how often a key is the triple that there may be
abbrev pub times_among : Option (ℤ × ℤ × ℤ) → Key → ℕ
times_among key (cell i c) = 0
times_among key (inline i) = 0
times_among key (crossline c) = 0
times_among key (offset o) = 0
times_among key (coordinate_x r) = 0
times_among key (coordinate_y r) = 0
times_among key (least v) = 0
times_among key (greatest v) = 0
times_among key (triple i c o) = times_of (λ k. k) triple_cmp key (i, c, o)
