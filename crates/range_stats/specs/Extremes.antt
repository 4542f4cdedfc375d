-- Whole numbers that are counted, as ratios.
use Rattle.std.specs.Prelude.{◌==◌, ℕ, ℤ, if◌then◌else◌, List}
use Rattle.std.specs.Ordering.{int_cmp}
use Rattle.key_counts.specs.Counts.{count_of}
use Rattle.key_counts.specs.declared.ratio.Ratio.{Ratio}

-- how often whole numbers count for a ratio: for a whole one as its number, for no other
abbrev pub whole_count : List (ℤ × ℕ) → Ratio → ℕ
whole_count es v = if v.den == 1 then count_of int_cmp es v.num else 0
