use Rattle.std.specs.Prelude.{◌≡◌, ◌∷◌}
use Rattle.position_differences.specs.Commonest.{oftenest}
use Rattle.survey_cells.proofs.times.oftenest.Given as goal

-- the most frequent so far stands for those that were passed
abbrev pub invariant-loop-difference : goal.invariant-loop-difference
invariant-loop-difference l = oftenest (l.most ∷ l.difference-iterator) ≡ oftenest l.fn.pairs
