-- The tally that a `Ranges` shows.
use Rattle.std.specs.Prelude.{ℕ, pos, ◌+◌, ◌<◌, ◌^◌}
use Rattle.std.specs.Ordering.{int_cmp}
use Rattle.key_counts.specs.Counts.{count_of}
use Rattle.trace_record.specs.Keys.{Key, cell, inline, crossline, offset, coordinate_x, coordinate_y, least, greatest, triple}
use Rattle.key_counts.specs.RatioOrder.{ratio_cmp}
use Rattle.trace_record.specs.Tally.{Tally}
use Rattle.range_stats.specs.OfKeys.{times_among}
use Rattle.range_stats.specs.declared.keys.Keys.{Keys}
use Rattle.range_stats.specs.declared.ranges.Ranges.{Ranges}

-- how often it counted each key
abbrev pub count_in_ranges : Ranges → Key → ℕ
count_in_ranges r (cell i c) = 0
count_in_ranges r (inline i) = count_of int_cmp r.inlines i
count_in_ranges r (crossline c) = count_of int_cmp r.crosslines c
count_in_ranges r (offset o) = count_of int_cmp r.offsets o
count_in_ranges r (coordinate_x v) = count_of ratio_cmp r.coordinates_x v
count_in_ranges r (coordinate_y v) = count_of ratio_cmp r.coordinates_y v
count_in_ranges r (least v) = 0
count_in_ranges r (greatest v) = 0
count_in_ranges r (triple i c o) = 0

-- with the keys each number is below 2^64
abbrev pub HasRoom : Ranges → Keys → Type 0
HasRoom r ks = (k : Key) → count_in_ranges r k + times_among ks k < 2 ^ 64

-- the tally of running ranges
abbrev pub tally_of_ranges : Ranges → Tally
tally_of_ranges r = record { records = r.records; number = 0; sum = pos 0; count = λ k. count_in_ranges r k }
