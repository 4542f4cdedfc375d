-- Samples of floats as the ranks of their values.
use Rattle.std.specs.Prelude.{ℕ, ℤ, ◌&&◌, ◌≡◌, ◌<◌, ◌^◌, ◌*◌, true, false, Bool, List, unwrap_or}
use Rattle.std.specs.Ordering.{int_eq}
use Rattle.std.specs.Option.{option_map_or}
use Rattle.num_order.specs.declared.order.Order.{Order}
use Rattle.num_order.specs.Number.{is_between}
use Rattle.float_codes.specs.declared.float_format.FloatFormat.{FloatFormat}
use Rattle.float_codes.specs.Values.{float_width, float_of_bits, sample_float}
use Rattle.float_codes.specs.Nearest.{pattern_of, pattern_bytes}
use Rattle.float_codes.specs.Ranks.{rank_of, value_at}

-- the rank of a sample's value
abbrev pub sample_rank : Order → FloatFormat → List ℕ → ℤ
sample_rank o f bs = rank_of (sample_float o f bs)

-- whether the number is the rank of a value that the format has, exactly
abbrev pub rank_fits : FloatFormat → ℤ → Bool
rank_fits f r = is_between true 8 r && option_map_or (λ p. int_eq (rank_of (float_of_bits f p)) r) (pattern_of f (value_at r)) false

-- the bytes of the sample with the value of this rank, which the format has
abbrev pub rank_bytes : Order → FloatFormat → ℤ → List ℕ
rank_bytes o f r = pattern_bytes o f (unwrap_or (pattern_of f (value_at r)) 0)

-- a format has each value that its samples have
abbrev pub SamplesFit : Type 0
SamplesFit = (f : FloatFormat) (b : ℕ) → b < 2 ^ (8 * float_width f) → rank_fits f (rank_of (float_of_bits f b)) ≡ true
