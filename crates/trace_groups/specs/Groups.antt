-- Traces with one problem: their marks, the runs that these make, and the group of a problem.
use Rattle.std.specs.Prelude.{ℕ, ℤ, ◌+◌, ◌==◌, ◌&&◌, Bool, List, [], ◌∷◌, ◌++◌, length, take, Option, Some, None, option_map, option_to_list, if◌then◌else◌}
use Rattle.std.specs.Ordering.{int_eq}
use Rattle.trace_groups.specs.declared.mark.Mark.{Mark}
use Rattle.trace_groups.specs.declared.problem.TraceProblem.{TraceProblem}
use Rattle.trace_groups.specs.declared.run.Run.{Run}
use Rattle.trace_groups.specs.declared.group.TraceGroup.{TraceGroup}

-- how many runs a group shows
abbrev pub shown_runs : ℕ
shown_runs = 10

-- two pairs of numbers are the same
abbrev pub same_pair : ℤ × ℤ → ℤ × ℤ → Bool
same_pair a b = int_eq a.0 b.0 && int_eq a.1 b.1

-- the run of one trace
abbrev pub run_of : Mark → Run
run_of m = record { first = m.position; last = m.position; facts = m.facts }

-- the trace stands right before the run, with the same facts
abbrev pub leads : Mark → Run → Bool
leads m r = m.position + 1 == r.first && same_pair m.facts r.facts

-- a trace in front of runs: it joins the first of them where it leads it, and else makes one of its own
abbrev pub in_front : Mark → List Run → List Run
in_front m [] = run_of m ∷ []
in_front m (r ∷ rs) = if leads m r then record r { first = m.position } ∷ rs else run_of m ∷ r ∷ rs

-- the runs of marked traces that follow one another with the same facts, each as long as can be
abbrev pub runs_of : List Mark → List Run
runs_of [] = []
runs_of (m ∷ ms) = in_front m (runs_of ms)

-- a group, its runs in a list
pub record Group : Type 0 where
  pub problem : TraceProblem
  pub traces : ℕ
  pub runs : ℕ
  pub first_runs : List Run

-- the group that the program's value is
abbrev pub group_in : TraceGroup → Group
group_in g = record { problem = g.problem; traces = g.traces; runs = g.runs; first_runs = g.first_runs.items }

-- the group of a problem that these traces have: none without any
abbrev pub group_of : TraceProblem → List Mark → Option Group
group_of problem [] = None
group_of problem (m ∷ ms) =
    Some (record {
      problem = problem;
      traces = length (m ∷ ms);
      runs = length (runs_of (m ∷ ms));
      first_runs = take shown_runs (runs_of (m ∷ ms));
    })

-- the mark of the trace at p, where there are facts of it
abbrev pub marks_at : ℕ → Option (ℤ × ℤ) → List Mark
marks_at p facts = option_to_list (option_map (λ f. record { position = p; facts = f }) facts)

-- the marks of those traces of which there are facts, the first of all at position p
abbrev pub marks_from : {A : Type 0} → (A → Option (ℤ × ℤ)) → ℕ → List A → List Mark
marks_from facts p [] = []
marks_from facts p (x ∷ xs) = marks_at p (facts x) ++ marks_from facts (p + 1) xs

-- the same, where positions count from 1
abbrev pub marks_of : {A : Type 0} → (A → Option (ℤ × ℤ)) → List A → List Mark
marks_of facts xs = marks_from facts 1 xs
