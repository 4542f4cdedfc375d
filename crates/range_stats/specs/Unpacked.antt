-- Counts of packed coordinates, seen as counts of the coordinates.
use Rattle.std.specs.Prelude.{ℕ, List, map}
use Rattle.key_counts.specs.Packed.{ratio_in}
use Rattle.key_counts.specs.declared.packed_ratio.PackedRatio.{PackedRatio}
use Rattle.key_counts.specs.declared.ratio.Ratio.{Ratio}

-- each coordinate with its number
abbrev pub with_ratios : List (PackedRatio × ℕ) → List (Ratio × ℕ)
with_ratios es = map (λ e. (ratio_in e.0, e.1)) es
