-- Other numbers than the commonest, worked by hand.
use Rattle.std.specs.Prelude.{◌≡◌, ℕ, ℤ, pos, [], ◌∷◌, refl, Some}
use Rattle.common_numbers.specs.Commonest.{commonest}
use Rattle.trace_groups.specs.declared.problem.TraceProblem.TheVariants.{OtherDelay}
use Rattle.trace_groups.specs.declared.run.Run.{Run}
use Rattle.trace_groups.specs.Groups.{group_of}
use Rattle.trace_groups.specs.Others.{other_marks}

-- a run of traces with the delay d, where most have 8
abbrev beside_8 : ℕ → ℕ → ℤ → Run
beside_8 p q d = record { first = p; last = q; facts = (d, pos 8) }

pub delays-other : group_of OtherDelay (other_marks (pos 8 ∷ pos 0 ∷ pos 0 ∷ pos 8 ∷ pos 8 ∷ pos 4 ∷ [])) ≡ Some (record { problem = OtherDelay; traces = 3; runs = 2; first_runs = beside_8 2 3 (pos 0) ∷ beside_8 6 6 (pos 4) ∷ [] })
unfolding commonest
delays-other = refl

-- of two that are as common the lesser one counts
pub delays-tie : group_of OtherDelay (other_marks (pos 9 ∷ pos 8 ∷ [])) ≡ Some (record { problem = OtherDelay; traces = 1; runs = 1; first_runs = beside_8 1 1 (pos 9) ∷ [] })
unfolding commonest
delays-tie = refl
