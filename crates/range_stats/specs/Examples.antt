-- Ranges and totals, worked by hand.
use Rattle.std.specs.Prelude.{◌≡◌, ℕ, ℤ, pos, negsuc, false, [], ◌∷◌, Option, Some, None, option_map, refl}
use Rattle.trace_record.specs.Facts.{with_amplitudes, with_samples}
use Rattle.key_counts.specs.Coordinates.{under_scalar, over, greatest_divisor}
use Rattle.key_counts.specs.RatioOrder.{fraction_of}
use Rattle.trace_record.specs.SmallSurvey.{trace_1, trace_2, survey}
use Rattle.key_counts.specs.declared.ratio.Ratio.{Ratio}
use Rattle.range_stats.specs.declared.quantity.Quantity.TheVariants.{Inline, X}
use Rattle.range_stats.specs.Ranges.{range_over, range_of}
use Rattle.range_stats.specs.Totals.{totals_of}

-- the two ends as fractions
abbrev shown : Option (Ratio × Ratio) → Option ((ℤ × ℕ) × (ℤ × ℕ))
shown r = option_map (λ p. (fraction_of p.0, fraction_of p.1)) r

-- 3 times 100, 250 over 100, and 40
pub range-scaled : shown (range_over (under_scalar (pos 3) (pos 100) ∷ under_scalar (pos 250) (negsuc 99) ∷ under_scalar (pos 40) (pos 0) ∷ [])) ≡ Some ((pos 5, 2), (pos 300, 1))
unfolding under_scalar over greatest_divisor
range-scaled = refl

-- without the first trace, whose value was the greatest
pub range-deleted : shown (range_over (under_scalar (pos 250) (negsuc 99) ∷ under_scalar (pos 40) (pos 0) ∷ [])) ≡ Some ((pos 5, 2), (pos 40, 1))
unfolding under_scalar over greatest_divisor
range-deleted = refl

pub range-survey : shown (range_of X survey) ≡ Some ((pos 1000, 1), (pos 3000, 1))
range-survey = refl

pub range-none : range_of Inline [] ≡ None
range-none = refl

pub totals-survey : totals_of survey ≡ Some (record { least = negsuc 4; greatest = pos 6; sum = pos 7; number = 6 })
totals-survey = refl

-- a trace without samples has no part in them
pub totals-sampled : totals_of (with_samples false trace_1 [] ∷ trace_2 ∷ []) ≡ Some (record { least = pos 3; greatest = pos 4; sum = pos 7; number = 2 })
totals-sampled = refl

pub totals-none : totals_of (with_samples false trace_1 [] ∷ []) ≡ None
totals-none = refl

-- nor has one whose two samples have no values
pub totals-opaque : totals_of (with_amplitudes trace_1 None 2 ∷ trace_2 ∷ []) ≡ Some (record { least = pos 3; greatest = pos 4; sum = pos 7; number = 2 })
totals-opaque = refl

pub totals-opaque-alone : totals_of (with_amplitudes trace_1 None 2 ∷ []) ≡ None
totals-opaque-alone = refl

-- two traces with one sample each, the greatest of eight unsigned bytes
pub totals-greatest : totals_of (with_samples false trace_1 (pos 18446744073709551615 ∷ []) ∷ with_samples false trace_2 (pos 18446744073709551615 ∷ []) ∷ [])
    ≡ Some (record { least = pos 18446744073709551615; greatest = pos 18446744073709551615; sum = pos 36893488147419103230; number = 2 })
totals-greatest = refl
