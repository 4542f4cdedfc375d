-- The tally that a `Faults` shows.
use Rattle.std.specs.Prelude.{ℕ, ℤ, pos, ◌+◌, ◌<◌, ◌^◌, Option}
use Rattle.key_counts.specs.Counts.{count_of}
use Rattle.trace_record.specs.Keys.{Key, cell, inline, crossline, offset, coordinate_x, coordinate_y, least, greatest, triple}
use Rattle.trace_record.specs.Tally.{Tally}
use Rattle.window_counts.specs.Places.{triple_cmp}
use Rattle.fault_live.specs.OfKeys.{times_among}
use Rattle.fault_live.specs.declared.faults.Faults.{Faults}

-- how often it counted each key
abbrev pub count_in : Faults → Key → ℕ
count_in f (cell i c) = 0
count_in f (inline i) = 0
count_in f (crossline c) = 0
count_in f (offset o) = 0
count_in f (coordinate_x r) = 0
count_in f (coordinate_y r) = 0
count_in f (least v) = 0
count_in f (greatest v) = 0
count_in f (triple i c o) = count_of triple_cmp f.triples (i, c, o)

-- with the triple, where there is one, each number is below 2^64
abbrev pub HasRoom : Faults → Option (ℤ × ℤ × ℤ) → Type 0
HasRoom f key = (k : Key) → count_in f k + times_among key k < 2 ^ 64

-- the tally of a running value of faults
abbrev pub tally_of_faults : Faults → Tally
tally_of_faults f = record { records = f.records; number = 0; sum = pos 0; count = λ k. count_in f k }
