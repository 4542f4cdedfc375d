-- What a running value counts of a trace.
use Rattle.std.specs.Prelude.{ℕ, ℤ, Bool}
use Rattle.trace_record.specs.Facts.{Facts}
use Rattle.key_counts.specs.declared.ratio.Ratio.{Ratio}

-- a key of a trace; keys of different kinds differ
pub data Key : Type 0 where
  -- an inline with a crossline
  cell : ℤ → ℤ → Key
  inline : ℤ → Key
  crossline : ℤ → Key
  offset : ℤ → Key
  coordinate_x : Ratio → Key
  coordinate_y : Ratio → Key
  -- the least and the greatest sample of a trace
  least : ℤ → Key
  greatest : ℤ → Key
  -- an inline with a crossline and an offset
  triple : ℤ → ℤ → ℤ → Key

-- of a trace: its keys, and the number of samples and the sum that count for it
pub record Counted : Type 0 where
  pub has : Facts → Key → Bool
  pub number : Facts → ℕ
  pub sum : Facts → ℤ
