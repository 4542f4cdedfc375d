-- Folds of small surveys, worked by hand.
use Rattle.std.specs.Prelude.{◌≡◌, ℕ, List, [], ◌∷◌, Some, None, refl}
use Rattle.grid_live.specs.declared.fold_count.FoldCount.{FoldCount}
use Rattle.line_problems.specs.FoldProblems.{cells_of, usual_fold, uneven_fold_of}

abbrev fold_count : ℕ → ℕ → FoldCount
fold_count f n = record { fold = f; cells = n }

-- of 20 cells 18 have fold 3, one has 1 and one has 5
abbrev uneven : List FoldCount
uneven = fold_count 1 1 ∷ fold_count 3 18 ∷ fold_count 5 1 ∷ []

pub cells_of-uneven : cells_of uneven ≡ 20
cells_of-uneven = refl

pub uneven_fold_of-uneven : uneven_fold_of uneven ≡ Some (record { cells = 20; usual = 3; less = 1; more = 1; least = 1; greatest = 5 })
uneven_fold_of-uneven = refl

-- 17 of 19 are fewer than nine of ten
pub uneven_fold_of-fewer : uneven_fold_of (fold_count 1 1 ∷ fold_count 3 17 ∷ fold_count 5 1 ∷ []) ≡ None
uneven_fold_of-fewer = refl

-- each cell has fold 3
pub uneven_fold_of-even : uneven_fold_of (fold_count 3 18 ∷ []) ≡ None
uneven_fold_of-even = refl

-- as many cells have fold 1 as have fold 2
pub usual_fold-first : usual_fold (fold_count 1 4 ∷ fold_count 2 4 ∷ []) ≡ Some (fold_count 1 4)
usual_fold-first = refl

pub uneven_fold_of-none : uneven_fold_of [] ≡ None
uneven_fold_of-none = refl
