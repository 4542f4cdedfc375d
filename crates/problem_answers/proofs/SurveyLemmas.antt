-- What the grid of the traces lists is what their records list from scratch.
use Rattle.std.specs.Prelude.{◌≡◌, ◌<◌, ◌^◌, List, length}
use Rattle.std.proofs.Common.{subst, sym, arith}
use Rattle.trace_record.specs.Facts.{Facts}
use Rattle.trace_record.specs.Tally.{Same, tally_of}
use Rattle.grid_live.specs.Cells.{crosslines, histogram, inlines}
use Rattle.grid_live.specs.GridKeys.{keys_of_grid}
use Rattle.grid_live.specs.OfGrid.{tally_of_grid}
use Rattle.grid_live.specs.OfTally.{ShowsCrosslines, ShowsHistogram, ShowsInlines}
use Rattle.grid_live.specs.declared.fold_count.FoldCount.{FoldCount}
use Rattle.grid_live.specs.declared.grid.Grid.{Grid}
use Rattle.grid_live.specs.declared.line.Line.{Line}
use Rattle.grid_live.proofs.GridLemmas.{crosslines_are_shown, histogram_is_shown, inlines_are_shown, one_histogram, one_list_of_crosslines, one_list_of_inlines}
use Rattle.line_problems.specs.FoldProblems.{cells_of}
use Rattle.problem_answers.proofs.CellLemmas.{few_counted}

module _ (grid : Grid) (fs : List Facts) (same : Same (tally_of_grid grid) (tally_of keys_of_grid fs)) where
  pub inlines_are : (ls : List Line) → ShowsInlines (tally_of_grid grid) ls → ls ≡ inlines fs
  inlines_are ls shown = one_list_of_inlines (tally_of_grid grid) (tally_of keys_of_grid fs) ls (inlines fs) same shown (inlines_are_shown fs)

  pub crosslines_are : (ls : List Line) → ShowsCrosslines (tally_of_grid grid) ls → ls ≡ crosslines fs
  crosslines_are ls shown = one_list_of_crosslines (tally_of_grid grid) (tally_of keys_of_grid fs) ls (crosslines fs) same shown (crosslines_are_shown fs)

  pub folds_are : (ts : List FoldCount) → ShowsHistogram (tally_of_grid grid) ts → ts ≡ histogram fs
  folds_are ts shown = one_histogram (tally_of_grid grid) (tally_of keys_of_grid fs) ts (histogram fs) same shown (histogram_is_shown fs)

  pub few_folds : (ts : List FoldCount) → ShowsHistogram (tally_of_grid grid) ts → length fs < 2 ^ 32 → cells_of ts < 2 ^ 64
  few_folds ts shown few =
      let counted = few_counted fs in
      subst (λ (l : List FoldCount). cells_of l < 2 ^ 64) (sym (folds_are ts shown)) (omega (arith, counted, few))
