-- The whole numbers of a record that ranges count.
use Rattle.std.specs.Prelude.{◌≡◌, ℕ, ℤ, List, map}
use Rattle.std.specs.Ordering.{int_cmp}
use Rattle.key_counts.specs.Counts.{count_of}
use Rattle.key_counts.specs.Rising.{times_in}
use Rattle.trace_record.specs.declared.record.Record.{Record}
use Rattle.range_stats.specs.declared.whole_counts.WholeQuantity.{WholeQuantity}
use Rattle.range_stats.specs.declared.whole_counts.WholeQuantity.TheVariants.{Inline, Crossline, Offset}

-- the number of a record that is meant
abbrev pub whole_in : WholeQuantity → Record → ℤ
whole_in Inline r = r.inline
whole_in Crossline r = r.crossline
whole_in Offset r = r.offset

-- each number has been counted as often as records have it
abbrev pub AreCounted : WholeQuantity → List (ℤ × ℕ) → List Record → Type 0
AreCounted which counts rs = (q : ℤ) → count_of int_cmp counts q ≡ times_in int_cmp (map (whole_in which) rs) q
