use Rattle.std.specs.Prelude.{◌≡◌, ◌∷◌, drop}
use Rattle.line_problems.specs.FoldProblems.{usual_fold}
use Rattle.line_problems.proofs.folds.find_usual.Given as goal

-- the usual fold so far stands for those that were passed
abbrev pub invariant-loop-fold : goal.invariant-loop-fold
invariant-loop-fold l = usual_fold (l.usual ∷ drop l.fold-index l.others) ≡ usual_fold l.fn.folds
