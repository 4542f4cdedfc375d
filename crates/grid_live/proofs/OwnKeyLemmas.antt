-- The keys of a trace that a grid counts, alone and beside another trace.
use Rattle.std.specs.Prelude.{◌≡◌, ℕ, ℤ, ◌-◌, ◌&&◌, Bool, if◌then◌else◌, Some, refl}
use Rattle.std.proofs.Common.{ap, ◌∙◌}
use Rattle.std.specs.Ordering.{int_cmp, int_eq, is_eq}
use Rattle.std.specs.Cmp.{int_cmp_total}
use Rattle.key_counts.specs.Numbers.{times_of, beside_of}
use Rattle.key_counts.proofs.KeyLemmas.{is_eq-pair}
use Rattle.key_counts.proofs.RaisedLemmas.{times-beside}
use Rattle.trace_record.specs.Facts.{Facts}
use Rattle.trace_record.specs.Keys.{Key, cell, inline, crossline, offset, coordinate_x, coordinate_y, least, greatest, triple}
use Rattle.trace_record.specs.Tally.{times}
use Rattle.window_counts.specs.Places.{cell_cmp}
use Rattle.grid_live.specs.GridKeys.{keys_of_grid}
use Rattle.grid_live.specs.OfKeys.{times_among}
use Rattle.grid_live.specs.declared.keys.Keys.{Keys}
use Rattle.grid_live.proofs.GridLemmas.{cell_total}

-- a number where a test holds
once : Bool → ℕ
once b = if b then 1 else 0

-- a cell is the trace's where both its numbers are
own_cell : (f : Facts) (i c : ℤ) → (if is_eq (cell_cmp (f.inline, f.crossline) (i, c)) then 1 else 0) ≡ times keys_of_grid f (cell i c)
unfolding once
own_cell f i c = ap once (is_eq-pair (int_cmp f.inline i) (int_cmp f.crossline c))

-- all keys of a trace
pub times-all : (ks : Keys) (f : Facts) → ks.cell ≡ Some (f.inline, f.crossline) → ks.inline ≡ Some f.inline → ks.crossline ≡ Some f.crossline → (k : Key) → times_among ks k ≡ times keys_of_grid f k
times-all ks f ec ei ex = elim [
  | cell i c ↦ ap (λ o. times_of (λ k. k) cell_cmp o (i, c)) ec ∙ own_cell f i c
  | inline i ↦ ap (λ o. times_of (λ k. k) int_cmp o i) ei
  | crossline c ↦ ap (λ o. times_of (λ k. k) int_cmp o c) ex
  | offset o ↦ refl
  | coordinate_x r ↦ refl
  | coordinate_y r ↦ refl
  | least v ↦ refl
  | greatest v ↦ refl
  | triple i c o ↦ refl
]

-- those that others are not among
pub among-beside : (ks own others : Keys) → ks.cell ≡ beside_of cell_cmp own.cell others.cell → ks.inline ≡ beside_of int_cmp own.inline others.inline → ks.crossline ≡ beside_of int_cmp own.crossline others.crossline
    → (k : Key) → times_among ks k ≡ times_among own k - times_among others k
among-beside ks own others ec ei ex = elim [
  | cell i c ↦ ap (λ o. times_of (λ k. k) cell_cmp o (i, c)) ec ∙ times-beside cell_cmp cell_total (λ k. k) own.cell others.cell (i, c)
  | inline i ↦ ap (λ o. times_of (λ k. k) int_cmp o i) ei ∙ times-beside int_cmp int_cmp_total (λ k. k) own.inline others.inline i
  | crossline c ↦ ap (λ o. times_of (λ k. k) int_cmp o c) ex ∙ times-beside int_cmp int_cmp_total (λ k. k) own.crossline others.crossline c
  | offset o ↦ refl
  | coordinate_x r ↦ refl
  | coordinate_y r ↦ refl
  | least v ↦ refl
  | greatest v ↦ refl
  | triple i c o ↦ refl
]
