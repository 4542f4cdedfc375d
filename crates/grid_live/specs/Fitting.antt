-- Cells whose inline and crossline fit 32 bits.
use Rattle.std.specs.Prelude.{ℕ, ℤ, ◌<◌, List, Option, Some, ◌≡◌, FitsSigned}
use Rattle.std.specs.Int.{w32}
use Rattle.key_counts.specs.Counts.{count_of}
use Rattle.window_counts.specs.Places.{cell_cmp}

-- the cell that there may be fits
abbrev pub CellFits : Option (ℤ × ℤ) → Type 0
CellFits key = (k : ℤ × ℤ) → key ≡ Some k → FitsSigned w32 k.0 × FitsSigned w32 k.1

-- each counted cell fits
abbrev pub CellsFit : List ((ℤ × ℤ) × ℕ) → Type 0
CellsFit es = (i c : ℤ) → 0 < count_of cell_cmp es (i, c) → FitsSigned w32 i × FitsSigned w32 c
