use Rattle.std.specs.Prelude.{◌≡◌}
use Rattle.std.specs.List.{list_any}
use Rattle.position_differences.specs.Differences.{is_far}
use Rattle.survey_cells.proofs.jumps.any_far.Given as goal

-- one of all is far where one of those that are left is
abbrev pub invariant-loop-difference : goal.invariant-loop-difference
invariant-loop-difference l = list_any (λ e. is_far e.0 l.other) l.difference-iterator ≡ list_any (λ e. is_far e.0 l.other) l.fn.pairs
