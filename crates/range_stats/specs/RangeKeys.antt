-- What the ranges count of a trace.
use Rattle.std.specs.Prelude.{pos, Bool, false}
use Rattle.std.specs.Ordering.{is_eq, int_eq}
use Rattle.trace_record.specs.Facts.{Facts}
use Rattle.trace_record.specs.Keys.{Key, Counted, inline, crossline, offset, coordinate_x, coordinate_y}
use Rattle.key_counts.specs.RatioOrder.{ratio_cmp}

-- the ranges count the value of each quantity that has a range
abbrev pub ranges_has : Facts → Key → Bool
ranges_has f (inline i) = int_eq f.inline i
ranges_has f (crossline c) = int_eq f.crossline c
ranges_has f (offset o) = int_eq f.offset o
ranges_has f (coordinate_x r) = is_eq (ratio_cmp f.x r)
ranges_has f (coordinate_y r) = is_eq (ratio_cmp f.y r)
ranges_has f _ = false

-- what the ranges count of a trace: these keys, and no samples
abbrev pub keys_of_ranges : Counted
keys_of_ranges = record { has = ranges_has; number = λ f. 0; sum = λ f. pos 0 }
