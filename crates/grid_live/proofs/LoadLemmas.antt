-- The tally of records whose cells, inlines and crosslines were counted all at once.
use Rattle.std.specs.Prelude.{◌≡◌, ℕ, ℤ, zero, suc, ◌+◌, ◌<◌, Bool, true, false, cond, List, [], ◌∷◌, All, length, map, FitsSigned, refl}
use Rattle.std.specs.Int.{w32}
use Rattle.std.proofs.Common.{arith, sym, ap, ◌∙◌, subst}
use Rattle.std.proofs.lemmas.List.{length-map}
use Rattle.std.proofs.lemmas.List.Elements.{All-head, All-tail}
use Rattle.std.proofs.lemmas.List.Sums.{sum_by-cons}
use Rattle.std.specs.Ordering.{int_cmp, is_eq}
use Rattle.std.specs.Cmp.{Equal-is}
use Rattle.trace_record.specs.Facts.{facts_of}
use Rattle.grid_live.specs.GridKeys.{grid_has, keys_of_grid}
use Rattle.trace_record.specs.Keys.{cell, inline, crossline, offset, coordinate_x, coordinate_y, least, greatest, triple}
use Rattle.key_counts.specs.Counts.{count_of}
use Rattle.key_counts.specs.Rising.{times_in}
use Rattle.trace_record.specs.Tally.{Same, tally_of}
use Rattle.trace_record.specs.declared.record.Record.{Record}
use Rattle.key_counts.proofs.KeyLemmas.{is_eq-pair}
use Rattle.trace_record.proofs.LoadLemmas.{sum_by-zero, int_sum-zero, map-facts}
use Rattle.key_counts.proofs.ShownLemmas.{times_in-map}
use Rattle.window_counts.specs.Places.{cell_cmp}
use Rattle.grid_live.specs.Fitting.{CellsFit}
use Rattle.grid_live.specs.OfGrid.{tally_of_grid}
use Rattle.grid_live.specs.declared.grid.Grid.{Grid}
use Rattle.grid_live.proofs.GridLemmas.{exact_cells}

-- a cell that occurs fits, where each does
pub CellsFit-loaded : (es : List ((ℤ × ℤ) × ℕ)) (ks : List (ℤ × ℤ)) → ((q : ℤ × ℤ) → count_of cell_cmp es q ≡ times_in cell_cmp ks q) → All (λ k. FitsSigned w32 k.0 × FitsSigned w32 k.1) ks → CellsFit es
CellsFit-loaded es ks shows fit i c p = occurs ks fit (let e = shows (i, c) in omega arith)
  where
    occurs : (qs : List (ℤ × ℤ)) → All (λ k. FitsSigned w32 k.0 × FitsSigned w32 k.1) qs → 0 < times_in cell_cmp qs (i, c) → FitsSigned w32 i × FitsSigned w32 c
    occurs [] all h = absurd (omega arith)
    occurs (q ∷ qs) all h = by (is_eq (cell_cmp q (i, c))) refl (occurs qs (All-tail (λ k. FitsSigned w32 k.0 × FitsSigned w32 k.1) q qs all))
      where
        by : (b : Bool) → is_eq (cell_cmp q (i, c)) ≡ b → (0 < times_in cell_cmp qs (i, c) → FitsSigned w32 i × FitsSigned w32 c) → FitsSigned w32 i × FitsSigned w32 c
        by true e rest = subst (λ (k : ℤ × ℤ). FitsSigned w32 k.0 × FitsSigned w32 k.1) (exact_cells q (i, c) ((Equal-is (cell_cmp q (i, c))).0 e)) (All-head (λ k. FitsSigned w32 k.0 × FitsSigned w32 k.1) q qs all)
        by false e rest =
            let step = sum_by-cons (λ k. cond (is_eq (cell_cmp k (i, c))) (suc zero) zero) q qs ∙ ap (λ (b : Bool). cond b (suc zero) zero + times_in cell_cmp qs (i, c)) e in
            rest (omega arith)

-- a grid that counted the records' keys shows the records' tally
pub Same-loaded : (g : Grid) (rs : List Record) → g.records ≡ length rs
    → ((q : ℤ × ℤ) → count_of cell_cmp g.cells q ≡ times_in cell_cmp (map (λ r. (r.inline, r.crossline)) rs) q)
    → ((q : ℤ) → count_of int_cmp g.inlines q ≡ times_in int_cmp (map (λ r. r.inline) rs) q)
    → ((q : ℤ) → count_of int_cmp g.crosslines q ≡ times_in int_cmp (map (λ r. r.crossline) rs) q)
    → Same (tally_of_grid g) (tally_of keys_of_grid (map facts_of rs))
Same-loaded g rs n cells inlines crosslines = record {
  records = n ∙ sym (length-map rs facts_of);
  number = sym (sum_by-zero (map facts_of rs));
  sum = sym (int_sum-zero (map facts_of rs));
  count = elim [
    | cell i x ↦
        cells (i, x)
        ∙ ap (λ ks. times_in cell_cmp ks (i, x)) (map-facts (λ r. (r.inline, r.crossline)) (λ f. (f.inline, f.crossline)) (λ r. refl) rs)
        ∙ times_in-map cell_cmp (λ f. (f.inline, f.crossline)) (λ f k. grid_has f (cell k.0 k.1)) (λ f k. is_eq-pair (int_cmp f.inline k.0) (int_cmp f.crossline k.1)) (map facts_of rs) (i, x)
    | inline i ↦
        inlines i
        ∙ ap (λ ks. times_in int_cmp ks i) (map-facts (λ r. r.inline) (λ f. f.inline) (λ r. refl) rs)
        ∙ times_in-map int_cmp (λ f. f.inline) (λ f k. grid_has f (inline k)) (λ f k. refl) (map facts_of rs) i
    | crossline x ↦
        crosslines x
        ∙ ap (λ ks. times_in int_cmp ks x) (map-facts (λ r. r.crossline) (λ f. f.crossline) (λ r. refl) rs)
        ∙ times_in-map int_cmp (λ f. f.crossline) (λ f k. grid_has f (crossline k)) (λ f k. refl) (map facts_of rs) x
    | offset o ↦ sym (sum_by-zero (map facts_of rs))
    | coordinate_x r ↦ sym (sum_by-zero (map facts_of rs))
    | coordinate_y r ↦ sym (sum_by-zero (map facts_of rs))
    | least v ↦ sym (sum_by-zero (map facts_of rs))
    | greatest v ↦ sym (sum_by-zero (map facts_of rs))
    | triple i x o ↦ sym (sum_by-zero (map facts_of rs))
  ];
}
