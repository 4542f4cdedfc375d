-- The tally that a `Totals` shows.
use Rattle.std.specs.Prelude.{ℕ, ◌+◌, ◌<◌, ◌^◌}
use Rattle.std.specs.Ordering.{int_cmp}
use Rattle.key_counts.specs.Counts.{count_of}
use Rattle.trace_record.specs.Keys.{Key, cell, inline, crossline, offset, coordinate_x, coordinate_y, least, greatest, triple}
use Rattle.trace_record.specs.Tally.{Tally}
use Rattle.range_stats.specs.OfKeys.{times_among_ends}
use Rattle.range_stats.specs.declared.ends.Ends.{Ends}
use Rattle.range_stats.specs.declared.totals.Totals.{Totals}

-- how often it counted each key
abbrev pub count_in_totals : Totals → Key → ℕ
count_in_totals t (cell i c) = 0
count_in_totals t (inline i) = 0
count_in_totals t (crossline c) = 0
count_in_totals t (offset o) = 0
count_in_totals t (coordinate_x r) = 0
count_in_totals t (coordinate_y r) = 0
count_in_totals t (least v) = count_of int_cmp t.least_samples v
count_in_totals t (greatest v) = count_of int_cmp t.greatest_samples v
count_in_totals t (triple i c o) = 0

-- with the keys each number is below 2^64
abbrev pub HasRoom : Totals → Ends → Type 0
HasRoom t es = (k : Key) → count_in_totals t k + times_among_ends es k < 2 ^ 64

-- the tally of running totals
abbrev pub tally_of_totals : Totals → Tally
tally_of_totals t = record { records = t.records; number = t.number; sum = t.sum; count = λ k. count_in_totals t k }
