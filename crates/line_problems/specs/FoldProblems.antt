-- What is doubtful in the folds of a survey.
use Rattle.std.specs.Prelude.{ℕ, Bool, ◌*◌, ◌&&◌, List, [], ◌∷◌, sum_by, filter, fold, map, Option, Some, None, option_and_then, nat_le, nat_lt, min, max, if◌then◌else◌}
use Rattle.std.specs.Option.{option_map_or}
use Rattle.grid_live.specs.declared.fold_count.FoldCount.{FoldCount}
use Rattle.line_problems.specs.declared.folds.UnevenFold.{UnevenFold}
use Rattle.line_problems.specs.declared.folds.TheConstants.{USUAL_OF_TEN}

-- how many cells have one of these folds
abbrev pub cells_of : List FoldCount → ℕ
cells_of fs = sum_by (λ f. f.cells) fs

-- of two folds the one that more cells have, and the first where as many have either
abbrev pub commoner_fold : FoldCount → FoldCount → FoldCount
commoner_fold f g = if nat_lt f.cells g.cells then g else f

-- the fold that the most cells have, and the first of several, which is the least as they rise
abbrev pub usual_fold : List FoldCount → Option FoldCount
usual_fold [] = None
usual_fold (f ∷ fs) = Some (option_map_or (commoner_fold f) (usual_fold fs) f)

-- at least nine cells of ten have the fold u, and not all
abbrev pub is_usual : FoldCount → List FoldCount → Bool
is_usual u fs = nat_le (USUAL_OF_TEN * cells_of fs) (10 * u.cells) && nat_lt u.cells (cells_of fs)

-- what is told of the fold u and the others
abbrev pub beside_usual : FoldCount → List FoldCount → UnevenFold
beside_usual u fs = record {
  cells = cells_of fs;
  usual = u.fold;
  less = cells_of (filter (λ f. nat_lt f.fold u.fold) fs);
  more = cells_of (filter (λ f. nat_lt u.fold f.fold) fs);
  least = fold min u.fold (map (λ f. f.fold) fs);
  greatest = fold max u.fold (map (λ f. f.fold) fs);
}

-- the usual fold, where at least nine cells of ten have it, and not all
abbrev pub uneven_fold_of : List FoldCount → Option UnevenFold
uneven_fold_of fs = option_and_then (λ u. if is_usual u fs then Some (beside_usual u fs) else None) (usual_fold fs)
