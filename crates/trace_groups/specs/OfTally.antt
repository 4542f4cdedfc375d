-- The marks that a tally of runs counted.
use Rattle.std.specs.Prelude.{◌≡◌, ℕ, ◌+◌, ◌≤◌, ◌==◌, ◌&&◌, nat_lt, Bool, List, [], ◌∷◌, ◌++◌, length, take, Option, Some, None, option_to_list, if◌then◌else◌}
use Rattle.trace_groups.specs.declared.mark.Mark.{Mark}
use Rattle.trace_groups.specs.declared.run.Run.{Run}
use Rattle.trace_groups.specs.declared.run_tally.RunTally.{RunTally}
use Rattle.trace_groups.specs.Groups.{shown_runs, same_pair, runs_of}

-- the trace stands right behind the run, with the same facts
abbrev pub trails : Run → Mark → Bool
trails r m = r.last + 1 == m.position && same_pair r.facts m.facts

-- the run with the trace at its end, where it stands right behind it
abbrev pub grown : Option Run → Mark → Option Run
grown None m = None
grown (Some r) m = if trails r m then Some (record r { last = m.position }) else None

-- a run more, where fewer are kept than a group shows
abbrev pub kept : List Run → List Run → List Run
kept rs [] = rs
kept rs (r ∷ _) = if nat_lt (length rs) shown_runs then rs ++ r ∷ [] else rs

-- So many traces make the runs of these marks: so many that are closed, of which the first are kept, and behind them the one that
-- may grow still.
pub record IsTally (marks : List Mark) (traces closed : ℕ) (kept : List Run) (current : Option Run) : Type 0 where
  pub before : List Run
  pub runs : runs_of marks ≡ before ++ option_to_list current
  pub same_traces : traces ≡ length marks
  pub same_closed : closed ≡ length before
  pub same_kept : kept ≡ take shown_runs before
  pub none : current ≡ None → marks ≡ []

-- the tally counted these marks
abbrev pub IsTallyOf : List Mark → RunTally → Type 0
IsTallyOf marks t = IsTally marks t.traces t.closed t.first_closed.items t.current

-- it has at most so many traces and closed runs
abbrev pub IsWithin : ℕ → RunTally → Type 0
IsWithin n t = (t.traces ≤ n) × (t.closed ≤ n)
