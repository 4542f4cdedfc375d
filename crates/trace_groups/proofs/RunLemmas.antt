-- Runs behind which a trace comes.
use Rattle.std.specs.Prelude.{◌≡◌, ◌≢◌, ℕ, ℤ, ◌+◌, ◌==◌, ◌&&◌, Bool, true, false, nat_lt, List, [], ◌∷◌, ◌++◌, length, take, Option, Some, None, option_to_list, if◌then◌else◌, refl}
use Rattle.std.proofs.Common.{arith, sym, ap, ◌∙◌, append_assoc, length-append, length-take, add-zero, min}
use Rattle.std.proofs.lemmas.Bool.{ltb-true, ltb-false}
use Rattle.std.proofs.lemmas.Bool.Decides.{Decides-int_eq}
use Rattle.std.proofs.lemmas.List.{take_all, take-append-le, append-nil}
use Rattle.std.specs.Ordering.{int_eq}
use Rattle.trace_groups.specs.declared.mark.Mark.{Mark}
use Rattle.trace_groups.specs.declared.run.Run.{Run}
use Rattle.trace_groups.specs.declared.problem.TraceProblem.{TraceProblem}
use Rattle.trace_groups.specs.Groups.{group_of, shown_runs, same_pair, run_of, leads, in_front, runs_of}
use Rattle.trace_groups.specs.OfTally.{trails, grown, kept, IsTally}

-- the runs with a trace behind them
abbrev pushed : List Run → Mark → List Run
pushed [] m = run_of m ∷ []
pushed (r ∷ []) m = if trails r m then record r { last = m.position } ∷ [] else r ∷ run_of m ∷ []
pushed (r ∷ s ∷ rs) m = r ∷ pushed (s ∷ rs) m

both : (a b : Bool) → (a && b) ≡ true → (a ≡ true) × (b ≡ true)
both true b h = (refl, h)
both false b h = absurd cc

-- facts that agree are the same
agree : (a b : ℤ × ℤ) → same_pair a b ≡ true → a ≡ b
agree a b h =
    let parts = both (int_eq a.0 b.0) (int_eq a.1 b.1) h in
    let one = (Decides-int_eq a.0 b.0).0 parts.0 in
    let two = (Decides-int_eq a.1 b.1).0 parts.1 in
    λ i. (one i, two i)

-- two traces make one run, from either side
two_traces : (x m : Mark) → in_front x (run_of m ∷ []) ≡ pushed (run_of x ∷ []) m
two_traces x m =
    elim (x.position + 1 == m.position && same_pair x.facts m.facts)
    as (λ b. (x.position + 1 == m.position && same_pair x.facts m.facts) ≡ b → (if b then record (run_of m) { first = x.position } ∷ [] else run_of x ∷ run_of m ∷ []) ≡ (if b then record (run_of x) { last = m.position } ∷ [] else run_of x ∷ run_of m ∷ [])) [
      | true ↦ λ h.
          let same = agree x.facts m.facts (both (x.position + 1 == m.position) (same_pair x.facts m.facts) h).1 in
          ap (λ f. record { first = x.position; last = m.position; facts = f } ∷ []) (sym same)
      | false ↦ λ h. refl
    ] refl

-- what a trace before or behind a run makes, at what its test gives
in_front-if : (x : Mark) (r : Run) (rs : List Run) (a : Bool) → leads x r ≡ a → in_front x (r ∷ rs) ≡ (if a then record r { first = x.position } ∷ rs else run_of x ∷ r ∷ rs)
in_front-if x r rs a e = ap (λ b. if b then record r { first = x.position } ∷ rs else run_of x ∷ r ∷ rs) e

pushed-if : (r : Run) (m : Mark) (b : Bool) → trails r m ≡ b → pushed (r ∷ []) m ≡ (if b then record r { last = m.position } ∷ [] else r ∷ run_of m ∷ [])
pushed-if r m b h = ap (λ c. if c then record r { last = m.position } ∷ [] else r ∷ run_of m ∷ []) h

-- a trace before one run and a trace behind it
around_one : (x : Mark) (r : Run) (m : Mark) (a b : Bool) → leads x r ≡ a → trails r m ≡ b → in_front x (pushed (r ∷ []) m) ≡ pushed (in_front x (r ∷ [])) m
around_one x r m true true e h =
    ap (in_front x) (pushed-if r m true h) ∙ in_front-if x (record r { last = m.position }) [] true e
    ∙ sym (ap (λ l. pushed l m) (in_front-if x r [] true e) ∙ pushed-if (record r { first = x.position }) m true h)
around_one x r m true false e h =
    ap (in_front x) (pushed-if r m false h) ∙ in_front-if x r (run_of m ∷ []) true e
    ∙ sym (ap (λ l. pushed l m) (in_front-if x r [] true e) ∙ pushed-if (record r { first = x.position }) m false h)
around_one x r m false true e h =
    ap (in_front x) (pushed-if r m true h) ∙ in_front-if x (record r { last = m.position }) [] false e
    ∙ sym (ap (λ l. pushed l m) (in_front-if x r [] false e) ∙ ap (λ l. run_of x ∷ l) (pushed-if r m true h))
around_one x r m false false e h =
    ap (in_front x) (pushed-if r m false h) ∙ in_front-if x r (run_of m ∷ []) false e
    ∙ sym (ap (λ l. pushed l m) (in_front-if x r [] false e) ∙ ap (λ l. run_of x ∷ l) (pushed-if r m false h))

-- a trace before runs and a trace behind more than one
around_more : (x : Mark) (r s : Run) (rs : List Run) (m : Mark) (a : Bool) → leads x r ≡ a → in_front x (pushed (r ∷ s ∷ rs) m) ≡ pushed (in_front x (r ∷ s ∷ rs)) m
around_more x r s rs m true e = in_front-if x r (pushed (s ∷ rs) m) true e ∙ sym (ap (λ l. pushed l m) (in_front-if x r (s ∷ rs) true e))
around_more x r s rs m false e = in_front-if x r (pushed (s ∷ rs) m) false e ∙ sym (ap (λ l. pushed l m) (in_front-if x r (s ∷ rs) false e))

-- it is the same which of the two comes first
around : (x : Mark) (rs : List Run) (m : Mark) → in_front x (pushed rs m) ≡ pushed (in_front x rs) m
around x [] m = two_traces x m
around x (r ∷ []) m = around_one x r m (leads x r) (trails r m) refl refl
around x (r ∷ s ∷ rs) m = around_more x r s rs m (leads x r) refl

runs_of-push : (ms : List Mark) (m : Mark) → runs_of (ms ++ m ∷ []) ≡ pushed (runs_of ms) m
runs_of-push [] m = refl
runs_of-push (x ∷ ms) m = ap (in_front x) (runs_of-push ms m) ∙ around x (runs_of ms) m

-- the last run alone changes
pushed-behind : (before : List Run) (r : Run) (m : Mark) → pushed (before ++ r ∷ []) m ≡ before ++ pushed (r ∷ []) m
pushed-behind [] r m = refl
pushed-behind (b ∷ []) r m = refl
pushed-behind (b ∷ c ∷ bs) r m = ap (λ l. b ∷ l) (pushed-behind (c ∷ bs) r m)

-- of the closed runs the first stay kept, with one run more
kept-more : (before : List Run) (r : Run) → kept (take shown_runs before) (r ∷ []) ≡ take shown_runs (before ++ r ∷ [])
kept-more before r =
    elim (nat_lt (length (take shown_runs before)) shown_runs) as (λ b. nat_lt (length (take shown_runs before)) shown_runs ≡ b → (if b then take shown_runs before ++ r ∷ [] else take shown_runs before) ≡ take shown_runs (before ++ r ∷ [])) [
      | true ↦ λ h.
          let few = ltb-true (length (take shown_runs before)) shown_runs h in
          let cut : length (take shown_runs before) ≡ min shown_runs (length before) = length-take shown_runs before in
          let behind = length-append before (r ∷ []) in
          ap (λ l. l ++ r ∷ []) (take_all shown_runs before (omega arith)) ∙ sym (take_all shown_runs (before ++ r ∷ []) (omega arith))
      | false ↦ λ h.
          let many = ltb-false (length (take shown_runs before)) shown_runs h in
          let cut : length (take shown_runs before) ≡ min shown_runs (length before) = length-take shown_runs before in
          sym (take-append-le shown_runs before (r ∷ []) (omega arith))
    ] refl

-- the trace ends the run that may grow
pub tally-grown : (marks : List Mark) (m : Mark) (traces closed : ℕ) (first : List Run) (current : Option Run) (r : Run)
    → IsTally marks traces closed first current → Some r ≡ grown current m → IsTally (marks ++ m ∷ []) (traces + 1) closed first (Some r)
tally-grown marks m traces closed first None r t e = absurd cc
tally-grown marks m traces closed first (Some q) r t e = by (trails q m) refl e
  where
    by : (b : Bool) → trails q m ≡ b → Some r ≡ (if b then Some (record q { last = m.position }) else None) → IsTally (marks ++ m ∷ []) (traces + 1) closed first (Some r)
    by true h e =
        record {
          before = t.before;
          runs =
              runs_of-push marks m ∙ ap (λ l. pushed l m) t.runs ∙ pushed-behind t.before q m
              ∙ ap (λ l. t.before ++ l) (pushed-if q m true h) ∙ ap (λ o. t.before ++ option_to_list o) (sym e);
          same_traces = ap (λ n. n + 1) t.same_traces ∙ sym (length-append marks (m ∷ []));
          same_closed = t.same_closed;
          same_kept = t.same_kept;
          none = λ bad. absurd cc;
        }
    by false h e = absurd cc

-- the trace makes a run of its own
pub tally-closed : (marks : List Mark) (m : Mark) (traces closed closed' : ℕ) (first first' : List Run) (current : Option Run)
    → IsTally marks traces closed first current → grown current m ≡ None → closed' ≡ closed + length (option_to_list current) → first' ≡ kept first (option_to_list current)
    → IsTally (marks ++ m ∷ []) (traces + 1) closed' first' (Some (run_of m))
tally-closed marks m traces closed closed' first first' None t e c k =
    let nothing : t.before ≡ [] = sym (append-nil t.before) ∙ sym t.runs ∙ ap runs_of (t.none refl) in
    record {
      before = [];
      runs = ap (λ l. runs_of (l ++ m ∷ [])) (t.none refl);
      same_traces = ap (λ n. n + 1) t.same_traces ∙ sym (length-append marks (m ∷ []));
      same_closed = c ∙ add-zero closed ∙ t.same_closed ∙ ap length nothing;
      same_kept = k ∙ t.same_kept ∙ ap (take shown_runs) nothing;
      none = λ bad. absurd cc;
    }
tally-closed marks m traces closed closed' first first' (Some q) t e c k = by (trails q m) refl e
  where
    by : (b : Bool) → trails q m ≡ b → (if b then Some (record q { last = m.position }) else None) ≡ None → IsTally (marks ++ m ∷ []) (traces + 1) closed' first' (Some (run_of m))
    by true h e = absurd cc
    by false h e =
        record {
          before = t.before ++ q ∷ [];
          runs =
              runs_of-push marks m ∙ ap (λ l. pushed l m) t.runs ∙ pushed-behind t.before q m
              ∙ ap (λ l. t.before ++ l) (pushed-if q m false h) ∙ sym (append_assoc t.before (q ∷ []) (run_of m ∷ []));
          same_traces = ap (λ n. n + 1) t.same_traces ∙ sym (length-append marks (m ∷ []));
          same_closed = c ∙ ap (λ n. n + 1) t.same_closed ∙ sym (length-append t.before (q ∷ []));
          same_kept = k ∙ ap (λ l. kept l (q ∷ [])) t.same_kept ∙ kept-more t.before q;
          none = λ bad. absurd cc;
        }

-- the group of what was counted, once the last run is closed
pub group-made : (problem : TraceProblem) (marks : List Mark) (traces closed closed' : ℕ) (first first' : List Run) (current : Option Run)
    → IsTally marks traces closed first current → traces ≢ 0 → closed' ≡ closed + length (option_to_list current) → first' ≡ kept first (option_to_list current)
    → Some (record { problem = problem; traces = traces; runs = closed'; first_runs = first' }) ≡ group_of problem marks
group-made problem [] traces closed closed' first first' current t some c k = absurd (some t.same_traces)
group-made problem (m ∷ ms) traces closed closed' first first' None t some c k = absurd (let bad = t.none refl in cc)
group-made problem (m ∷ ms) traces closed closed' first first' (Some r) t some c k =
    let count : closed' ≡ length (runs_of (m ∷ ms)) =
    c ∙ ap (λ n. n + 1) t.same_closed ∙ sym (length-append t.before (r ∷ [])) ∙ ap length (sym t.runs) in
    let shown : first' ≡ take shown_runs (runs_of (m ∷ ms)) =
    k ∙ ap (λ l. kept l (r ∷ [])) t.same_kept ∙ kept-more t.before r ∙ ap (take shown_runs) (sym t.runs) in
    λ i. Some (record { problem = problem; traces = t.same_traces i; runs = count i; first_runs = shown i })

-- no traces make no group
pub group-none : (problem : TraceProblem) (marks : List Mark) (closed : ℕ) (first : List Run) (current : Option Run) → IsTally marks 0 closed first current → None ≡ group_of problem marks
group-none problem [] closed first current t = refl
group-none problem (m ∷ ms) closed first current t = absurd (let bad = t.same_traces in cc)
