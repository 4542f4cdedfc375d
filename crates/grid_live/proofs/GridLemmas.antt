-- The grid that a tally shows.
use Rattle.std.specs.Prelude.{◌≡◌, ℕ, ℤ, ◌&&◌, List, [], ◌∷◌, map, refl}
use Rattle.std.proofs.Common.{sym, ap, ◌∙◌, subst}
use Rattle.std.proofs.lemmas.Map.Lookups.{CmpEqualImpliesEq, exact_signed, exact_unsigned, exact_pairs}
use Rattle.std.specs.Ordering.{int_cmp, int_eq, nat_cmp}
use Rattle.std.proofs.lemmas.Cmp.{nat_cmp_total}
use Rattle.key_counts.specs.Counts.{count_of}
use Rattle.std.specs.Cmp.{IsTotalOrder, int_cmp_total, then_total, on_total}
use Rattle.trace_record.specs.Keys.{cell, inline, crossline}
use Rattle.grid_live.specs.GridKeys.{keys_of_grid}
use Rattle.key_counts.specs.Rising.{Shows, times_in}
use Rattle.trace_record.specs.Tally.{Tally, tally_of}
use Rattle.key_counts.proofs.KeyLemmas.{is_eq-pair}
use Rattle.key_counts.proofs.ShownLemmas.{Shows-same, Shows-occurrences, one_shown, times_in-map}
use Rattle.grid_live.specs.declared.cell.Cell.{Cell}
use Rattle.grid_live.specs.declared.line.Line.{Line}
use Rattle.grid_live.specs.declared.fold_count.FoldCount.{FoldCount}
use Rattle.window_counts.specs.Places.{cell_cmp}
use Rattle.grid_live.specs.Cells.{cell_with, line_with, fold_count_of, cells, histogram_of}
use Rattle.grid_live.specs.OfTally.{ShowsCells, ShowsInlines, ShowsCrosslines}
use Rattle.grid_live.specs.Laws.{FoldOfTally, CellsAreShown, InlinesAreShown, CrosslinesAreShown, HistogramIsShown, AtMostOneListOfCells, AtMostOneListOfInlines, AtMostOneListOfCrosslines, AtMostOneHistogram}

pub cell_total : IsTotalOrder cell_cmp
cell_total = then_total (on_total (λ (e : ℤ × ℤ). e.0) int_cmp_total) (on_total (λ (e : ℤ × ℤ). e.1) int_cmp_total)

pub exact_cells : CmpEqualImpliesEq cell_cmp
exact_cells = exact_pairs int_cmp int_cmp exact_signed exact_signed

-- entries and back
cells-back : (es : List ((ℤ × ℤ) × ℕ)) → map (λ (c : Cell). ((c.inline, c.crossline), c.fold)) (map cell_with es) ≡ es
cells-back [] = refl
cells-back (e ∷ es) = ap (λ r. e ∷ r) (cells-back es)

cells-forth : (cs : List Cell) → map cell_with (map (λ (c : Cell). ((c.inline, c.crossline), c.fold)) cs) ≡ cs
cells-forth [] = refl
cells-forth (c ∷ cs) = ap (λ r. c ∷ r) (cells-forth cs)

lines-back : (es : List (ℤ × ℕ)) → map (λ (l : Line). (l.number, l.traces)) (map line_with es) ≡ es
lines-back [] = refl
lines-back (e ∷ es) = ap (λ r. e ∷ r) (lines-back es)

lines-forth : (ls : List Line) → map line_with (map (λ (l : Line). (l.number, l.traces)) ls) ≡ ls
lines-forth [] = refl
lines-forth (l ∷ ls) = ap (λ r. l ∷ r) (lines-forth ls)

times-back : (es : List (ℕ × ℕ)) → map (λ (t : FoldCount). (t.fold, t.cells)) (map fold_count_of es) ≡ es
times-back [] = refl
times-back (e ∷ es) = ap (λ r. e ∷ r) (times-back es)

times-forth : (ts : List FoldCount) → map fold_count_of (map (λ (t : FoldCount). (t.fold, t.cells)) ts) ≡ ts
times-forth [] = refl
times-forth (t ∷ ts) = ap (λ r. t ∷ r) (times-forth ts)

-- the counts of the folds of cells show their histogram
pub histogram-shown : (cs : List Cell) (counts : List (ℕ × ℕ)) (ts : List FoldCount)
    → ((q : ℕ) → count_of nat_cmp counts q ≡ times_in nat_cmp (map (λ c. c.fold) cs) q)
    → Shows nat_cmp (count_of nat_cmp counts) (map (λ t. (t.fold, t.cells)) ts) → ts ≡ histogram_of cs
histogram-shown cs counts ts same shown =
    sym (times-forth ts)
    ∙ ap (map fold_count_of)
    (one_shown nat_cmp nat_cmp_total exact_unsigned _ _ _ (Shows-same nat_cmp _ _ _ same shown) (Shows-occurrences nat_cmp nat_cmp_total (map (λ c. c.fold) cs)))

-- entries that show the counts of cells, as cells; and the same of lines
pub ShowsCells-entries : (t : Tally) (es : List ((ℤ × ℤ) × ℕ)) → Shows cell_cmp (λ k. t.count (cell k.0 k.1)) es → ShowsCells t (map cell_with es)
ShowsCells-entries t es s = subst (λ qs. Shows cell_cmp (λ k. t.count (cell k.0 k.1)) qs) (sym (cells-back es)) s

pub ShowsInlines-entries : (t : Tally) (es : List (ℤ × ℕ)) → Shows int_cmp (λ i. t.count (inline i)) es → ShowsInlines t (map line_with es)
ShowsInlines-entries t es s = subst (λ qs. Shows int_cmp (λ i. t.count (inline i)) qs) (sym (lines-back es)) s

pub ShowsCrosslines-entries : (t : Tally) (es : List (ℤ × ℕ)) → Shows int_cmp (λ c. t.count (crossline c)) es → ShowsCrosslines t (map line_with es)
ShowsCrosslines-entries t es s = subst (λ qs. Shows int_cmp (λ c. t.count (crossline c)) qs) (sym (lines-back es)) s

pub fold_of_tally : FoldOfTally
fold_of_tally fs i c = refl

pub cells_are_shown : CellsAreShown
cells_are_shown fs =
    ShowsCells-entries (tally_of keys_of_grid fs) _
    (Shows-same cell_cmp _ _ _ (times_in-map cell_cmp (λ f. (f.inline, f.crossline)) (λ f k. int_eq f.inline k.0 && int_eq f.crossline k.1) (λ f k. is_eq-pair (int_cmp f.inline k.0) (int_cmp f.crossline k.1)) fs)
    (Shows-occurrences cell_cmp cell_total (map (λ f. (f.inline, f.crossline)) fs)))

pub inlines_are_shown : InlinesAreShown
inlines_are_shown fs =
    ShowsInlines-entries (tally_of keys_of_grid fs) _
    (Shows-same int_cmp _ _ _ (times_in-map int_cmp (λ f. f.inline) (λ f i. int_eq f.inline i) (λ f i. refl) fs)
    (Shows-occurrences int_cmp int_cmp_total (map (λ f. f.inline) fs)))

pub crosslines_are_shown : CrosslinesAreShown
crosslines_are_shown fs =
    ShowsCrosslines-entries (tally_of keys_of_grid fs) _
    (Shows-same int_cmp _ _ _ (times_in-map int_cmp (λ f. f.crossline) (λ f c. int_eq f.crossline c) (λ f c. refl) fs)
    (Shows-occurrences int_cmp int_cmp_total (map (λ f. f.crossline) fs)))

pub histogram_is_shown : HistogramIsShown
histogram_is_shown fs = (cells fs, cells_are_shown fs, refl)

pub one_list_of_cells : AtMostOneListOfCells
one_list_of_cells t u xs ys p a b =
    sym (cells-forth xs) ∙ ap (map cell_with) (one_shown cell_cmp cell_total exact_cells _ _ _ (Shows-same cell_cmp _ _ _ (λ k. p.count (cell k.0 k.1)) a) b) ∙ cells-forth ys

pub one_list_of_inlines : AtMostOneListOfInlines
one_list_of_inlines t u xs ys p a b =
    sym (lines-forth xs) ∙ ap (map line_with) (one_shown int_cmp int_cmp_total exact_signed _ _ _ (Shows-same int_cmp _ _ _ (λ k. p.count (inline k)) a) b) ∙ lines-forth ys

pub one_list_of_crosslines : AtMostOneListOfCrosslines
one_list_of_crosslines t u xs ys p a b =
    sym (lines-forth xs) ∙ ap (map line_with) (one_shown int_cmp int_cmp_total exact_signed _ _ _ (Shows-same int_cmp _ _ _ (λ k. p.count (crossline k)) a) b) ∙ lines-forth ys

pub one_histogram : AtMostOneHistogram
one_histogram t u xs ys p a b = a.2 ∙ ap histogram_of (one_list_of_cells t u a.0 b.0 p a.1 b.1) ∙ sym b.2
