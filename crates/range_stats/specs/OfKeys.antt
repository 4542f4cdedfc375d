-- The keys of a trace that ranges and totals count, or no longer.
use Rattle.std.specs.Prelude.{ℕ}
use Rattle.std.specs.Ordering.{int_cmp}
use Rattle.key_counts.specs.Numbers.{times_of}
use Rattle.key_counts.specs.Packed.{ratio_in}
use Rattle.key_counts.specs.RatioOrder.{ratio_cmp}
use Rattle.trace_record.specs.Keys.{Key, cell, inline, crossline, offset, coordinate_x, coordinate_y, least, greatest, triple}
use Rattle.range_stats.specs.declared.keys.Keys.{Keys}
use Rattle.range_stats.specs.declared.ends.Ends.{Ends}

-- how often a key is among those that ranges count
abbrev pub times_among : Keys → Key → ℕ
times_among ks (cell i c) = 0
times_among ks (inline i) = times_of (λ k. k) int_cmp ks.inline i
times_among ks (crossline c) = times_of (λ k. k) int_cmp ks.crossline c
times_among ks (offset o) = times_of (λ k. k) int_cmp ks.offset o
times_among ks (coordinate_x v) = times_of ratio_in ratio_cmp ks.x v
times_among ks (coordinate_y v) = times_of ratio_in ratio_cmp ks.y v
times_among ks (least v) = 0
times_among ks (greatest v) = 0
times_among ks (triple i c o) = 0

-- how often a key is among those that totals count
abbrev pub times_among_ends : Ends → Key → ℕ
times_among_ends es (cell i c) = 0
times_among_ends es (inline i) = 0
times_among_ends es (crossline c) = 0
times_among_ends es (offset o) = 0
times_among_ends es (coordinate_x v) = 0
times_among_ends es (coordinate_y v) = 0
times_among_ends es (least v) = times_of (λ k. k) int_cmp es.least v
times_among_ends es (greatest v) = times_of (λ k. k) int_cmp es.greatest v
times_among_ends es (triple i c o) = 0
