use Rattle.std.specs.Prelude.{◌≡◌, ◌≤◌, drop}
use Rattle.position_differences.specs.declared.difference.Difference.{Difference}
use Rattle.survey_cells.specs.Lately.{held_in}
use Rattle.survey_cells.proofs.times.count_lately.Given as goal

-- those that are left and all so far count as at the start
abbrev pub invariant-loop-place : goal.invariant-loop-place
invariant-loop-place l = record {
  counts : (q : Difference) → held_in (drop l.place-index l.lately) l.times q ≡ held_in l.lately l.initial.times q;
  memory : l.initial.room ≤ l.room;
}
