-- Runs and groups, worked by hand.
use Rattle.std.specs.Prelude.{◌≡◌, ℕ, pos, [], ◌∷◌, List, refl, Some, None}
use Rattle.trace_groups.specs.declared.mark.Mark.{Mark}
use Rattle.trace_groups.specs.declared.problem.TraceProblem.TheVariants.{Sequence}
use Rattle.trace_groups.specs.declared.run.Run.{Run}
use Rattle.trace_groups.specs.Groups.{runs_of, group_of}

-- a trace whose number is so far off
abbrev off : ℕ → ℕ → Mark
off p by = record { position = p; facts = (pos by, pos 0) }

-- a run of such traces
abbrev run : ℕ → ℕ → ℕ → Run
run p q by = record { first = p; last = q; facts = (pos by, pos 0) }

-- a gap, and then other facts, end a run
abbrev marked : List Mark
marked = off 2 7 ∷ off 3 7 ∷ off 5 7 ∷ off 6 8 ∷ off 7 8 ∷ off 8 8 ∷ []

pub runs-marked : runs_of marked ≡ run 2 3 7 ∷ run 5 5 7 ∷ run 6 8 8 ∷ []
runs-marked = refl

pub group-marked : group_of Sequence marked ≡ Some (record { problem = Sequence; traces = 6; runs = 3; first_runs = run 2 3 7 ∷ run 5 5 7 ∷ run 6 8 8 ∷ [] })
group-marked = refl

pub group-none : group_of Sequence [] ≡ None
group-none = refl

-- of eleven runs the last is not shown
pub group-many : group_of Sequence (off 1 0 ∷ off 3 0 ∷ off 5 0 ∷ off 7 0 ∷ off 9 0 ∷ off 11 0 ∷ off 13 0 ∷ off 15 0 ∷ off 17 0 ∷ off 19 0 ∷ off 21 0 ∷ []) ≡ Some (record { problem = Sequence; traces = 11; runs = 11; first_runs = run 1 1 0 ∷ run 3 3 0 ∷ run 5 5 0 ∷ run 7 7 0 ∷ run 9 9 0 ∷ run 11 11 0 ∷ run 13 13 0 ∷ run 15 15 0 ∷ run 17 17 0 ∷ run 19 19 0 ∷ [] })
group-many = refl
