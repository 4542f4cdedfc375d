-- The histogram of a survey counts no more cells than there are traces.
use Rattle.std.specs.Prelude.{◌≡◌, ℕ, ℤ, ◌≤◌, List, [], ◌∷◌, length, map, sum_by, refl}
use Rattle.std.proofs.Common.{arith}
use Rattle.std.specs.Ordering.{nat_cmp}
use Rattle.std.proofs.lemmas.Cmp.{nat_cmp_total}
use Rattle.std.proofs.lemmas.List.{length-map}
use Rattle.std.proofs.lemmas.List.Sums.{sum_by-cons}
use Rattle.window_counts.specs.Places.{cell_cmp}
use Rattle.trace_record.specs.Facts.{Facts}
use Rattle.key_counts.specs.Rising.{occurrences, rising, times_in}
use Rattle.grid_live.specs.Cells.{cell_with, cells, fold_count_of, histogram}
use Rattle.grid_live.proofs.GridLemmas.{cell_total}
use Rattle.grid_live.specs.declared.cell.Cell.{Cell}
use Rattle.grid_live.specs.declared.fold_count.FoldCount.{FoldCount}
use Rattle.line_problems.specs.FoldProblems.{cells_of}
use Rattle.problem_answers.proofs.FewLemmas.{few_keys, few_occurrences}

sum_cells : (es : List (ℕ × ℕ)) → cells_of (map fold_count_of es) ≡ sum_by (λ (e : ℕ × ℕ). e.1) es
sum_cells [] = refl
sum_cells (e ∷ es) =
    let own = sum_by-cons (λ (f : FoldCount). f.cells) (fold_count_of e) (map fold_count_of es) in
    let other = sum_by-cons (λ (d : ℕ × ℕ). d.1) e es in
    let rest = sum_cells es in
    omega arith

-- there are no more cells than traces
pub few_cells : (fs : List Facts) → length (cells fs) ≤ length fs
few_cells fs =
    let keys : List (ℤ × ℤ) = map (λ (f : Facts). (f.inline, f.crossline)) fs in
    let shown : length (cells fs) ≡ length (occurrences cell_cmp keys) = length-map (occurrences cell_cmp keys) cell_with in
    let counted : length (occurrences cell_cmp keys) ≡ length (rising cell_cmp keys) = length-map (rising cell_cmp keys) (λ (k : ℤ × ℤ). (k, times_in cell_cmp keys k)) in
    let each : length keys ≡ length fs = length-map fs (λ (f : Facts). (f.inline, f.crossline)) in
    let few : length (rising cell_cmp keys) ≤ length keys = few_keys cell_cmp cell_total keys in
    omega arith

pub few_counted : (fs : List Facts) → cells_of (histogram fs) ≤ length fs
few_counted fs =
    let folds : List ℕ = map (λ (c : Cell). c.fold) (cells fs) in
    let same : cells_of (histogram fs) ≡ sum_by (λ (e : ℕ × ℕ). e.1) (occurrences nat_cmp folds) = sum_cells (occurrences nat_cmp folds) in
    let few : sum_by (λ (e : ℕ × ℕ). e.1) (occurrences nat_cmp folds) ≤ length folds = few_occurrences nat_cmp nat_cmp_total folds in
    let each : length folds ≡ length (cells fs) = length-map (cells fs) (λ (c : Cell). c.fold) in
    let cells_few : length (cells fs) ≤ length fs = few_cells fs in
    omega arith
