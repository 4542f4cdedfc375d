-- Ranges and totals as they are read from a tally.
use Rattle.std.specs.Prelude.{◌≡◌, ◌==◌, ℕ, ℤ, ◌<◌, ◌≤ℤ◌, if◌then◌else◌, Option, Some, None}
use Rattle.trace_record.specs.Keys.{inline, crossline, offset, coordinate_x, coordinate_y, least, greatest}
use Rattle.trace_record.specs.Tally.{Tally}
use Rattle.key_counts.specs.RatioOrder.{ratio_cmp}
use Rattle.key_counts.specs.declared.ratio.Ratio.{Ratio}
use Rattle.trace_record.specs.declared.statistics.Statistics.{Statistics}
use Rattle.key_counts.specs.Ends.{IsSpan}
use Rattle.range_stats.specs.declared.quantity.Quantity.{Quantity}
use Rattle.range_stats.specs.declared.quantity.Quantity.TheVariants.{Inline, Crossline, Offset, X, Y}

-- how many traces have the value
abbrev pub traces_with : Quantity → Tally → Ratio → ℕ
traces_with Inline t v = if v.den == 1 then t.count (inline v.num) else 0
traces_with Crossline t v = if v.den == 1 then t.count (crossline v.num) else 0
traces_with Offset t v = if v.den == 1 then t.count (offset v.num) else 0
traces_with X t v = t.count (coordinate_x v)
traces_with Y t v = t.count (coordinate_y v)

-- the least and the greatest value that occur, and none where none does
abbrev pub IsRangeIn : Quantity → Tally → Option (Ratio × Ratio) → Type 0
IsRangeIn w t r = IsSpan ratio_cmp (traces_with w t) r

-- the least of the numbers that occur, and none where none does
abbrev pub IsLeastOf : (ℤ → ℕ) → Option ℤ → Type 0
IsLeastOf count None = (v : ℤ) → count v ≡ 0
IsLeastOf count (Some l) = (0 < count l) × ((v : ℤ) → 0 < count v → l ≤ℤ v)

-- the greatest of them
abbrev pub IsGreatestOf : (ℤ → ℕ) → Option ℤ → Type 0
IsGreatestOf count None = (v : ℤ) → count v ≡ 0
IsGreatestOf count (Some g) = (0 < count g) × ((v : ℤ) → 0 < count v → v ≤ℤ g)

-- the least sample is the least of the traces' least ones
abbrev pub IsLeastIn : Tally → Option ℤ → Type 0
IsLeastIn t l = IsLeastOf (λ v. t.count (least v)) l

-- the greatest sample is the greatest of the traces' greatest ones
abbrev pub IsGreatestIn : Tally → Option ℤ → Type 0
IsGreatestIn t g = IsGreatestOf (λ v. t.count (greatest v)) g

-- the four as statistics, and none without a least or a greatest sample
abbrev pub statistics_from : Option ℤ → Option ℤ → ℤ → ℕ → Option Statistics
statistics_from None g s n = None
statistics_from (Some l) None s n = None
statistics_from (Some l) (Some g) s n = Some (record { least = l; greatest = g; sum = s; number = n })
