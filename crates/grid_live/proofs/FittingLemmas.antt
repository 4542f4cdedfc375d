-- Counted cells go on fitting 32 bits.
use Rattle.std.specs.Prelude.{◌≡◌, ◌+◌, ℕ, ℤ, Bool, true, false, List, Option, Some, None, if◌then◌else◌, FitsSigned, refl}
use Rattle.std.specs.Int.{w32}
use Rattle.std.proofs.Common.{arith, ap, ◌∙◌, subst, sym}
use Rattle.std.specs.Ordering.{is_eq}
use Rattle.std.specs.Cmp.{Equal-is}
use Rattle.key_counts.specs.Counts.{count_of}
use Rattle.key_counts.specs.Numbers.{IsSame, IsMoreBy, beside_of}
use Rattle.window_counts.specs.Places.{cell_cmp}
use Rattle.grid_live.specs.Fitting.{CellFits, CellsFit}
use Rattle.grid_live.proofs.GridLemmas.{exact_cells}

abbrev Fits : ℤ × ℤ → Type 0
Fits k = FitsSigned w32 k.0 × FitsSigned w32 k.1

-- so does a cell that is counted beside another
pub CellFits-beside : (own other key : Option (ℤ × ℤ)) → CellFits own → key ≡ beside_of cell_cmp own other → CellFits key
CellFits-beside own other key fit e = subst CellFits (sym e) (by own other fit)
  where
    unless : (k : ℤ × ℤ) (b : Bool) → CellFits (Some k) → CellFits (if b then None else Some k)
    unless k true fit = λ q e. absurd cc
    unless k false fit = fit

    by : (own other : Option (ℤ × ℤ)) → CellFits own → CellFits (beside_of cell_cmp own other)
    by None other fit = fit
    by (Some k) None fit = fit
    by (Some k) (Some o) fit = unless k (is_eq (cell_cmp k o)) fit

pub CellsFit-same : (old new : List ((ℤ × ℤ) × ℕ)) → CellsFit old → IsSame (count_of cell_cmp old) (count_of cell_cmp new) → CellsFit new
CellsFit-same old new h each i c p = h i c (let e = each (i, c) in omega arith)

pub CellsFit-more : (old new : List ((ℤ × ℤ) × ℕ)) (key : Option (ℤ × ℤ)) → CellFits key → CellsFit old → IsMoreBy (λ k. k) cell_cmp (count_of cell_cmp old) (count_of cell_cmp new) key → CellsFit new
CellsFit-more old new None fit h each i c p = h i c (let e = each (i, c) in omega arith)
CellsFit-more old new (Some k) fit h each i c p = by (is_eq (cell_cmp k (i, c))) refl
  where
    by : (b : Bool) → is_eq (cell_cmp k (i, c)) ≡ b → FitsSigned w32 i × FitsSigned w32 c
    by true e = subst Fits (exact_cells k (i, c) ((Equal-is (cell_cmp k (i, c))).0 e)) (fit k refl)
    by false e = h i c (let s = each (i, c) ∙ ap (λ (b : Bool). count_of cell_cmp old (i, c) + (if b then 1 else 0)) e in omega arith)

pub CellsFit-less : (old new : List ((ℤ × ℤ) × ℕ)) (key : Option (ℤ × ℤ)) → CellsFit old → IsMoreBy (λ k. k) cell_cmp (count_of cell_cmp new) (count_of cell_cmp old) key → CellsFit new
CellsFit-less old new key h each i c p = h i c (let e = each (i, c) in omega arith)
