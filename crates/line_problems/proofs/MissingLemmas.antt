-- What is told of missing lines, gap by gap.
use Rattle.std.specs.Prelude.{◌≡◌, ℕ, ℤ, pos, ◌+◌, ◌<◌, ◌≤◌, ◌<ℤ◌, Bool, true, false, cond, ◌&&◌, List, [], ◌∷◌, ◌++◌, length, map, filter, take, sum_by, Option, int_lt, unsigned_abs, min, refl, zero, suc, FitsSigned}
use Rattle.std.proofs.Common.{arith, sym, ap, ◌∙◌, subst, length-append}
use Rattle.std.proofs.lemmas.Int.{ints}
use Rattle.std.proofs.lemmas.Bool.{and_parts}
use Rattle.std.proofs.lemmas.List.{take_all, take-append-le, length-map, map-append, length-take, append_assoc}
use Rattle.std.proofs.lemmas.List.Sums.{sum_by_push}
use Rattle.std.specs.List.Sorted.{IsStrictlySortedBy}
use Rattle.std.specs.Int.{w32}
use Rattle.std.specs.declared.cmp.Ordering.TheVariants.{Less, Equal, Greater}
use Rattle.grid_live.specs.declared.line.Line.{Line}
use Rattle.line_problems.specs.declared.missing.MissingRun.{MissingRun}
use Rattle.line_problems.specs.LineProblems.{LinesRise, distance}
use Rattle.line_problems.specs.MissingLines.{is_near, is_whole, is_gap, missing_between, run_between, Missing, missing_in}

module _ (s : ℤ) (gs : List (Line × Line)) (g : Line × Line) (missing runs : ℕ) (rs : List MissingRun) (h : record { missing = missing; runs = runs; first_runs = rs } ≡ missing_in s gs) where
  length-rs : length rs ≡ min 10 (length gs)
  length-rs = ap (λ (m : Missing). length m.first_runs) h ∙ (length-map (take 10 gs) (run_between s) ∙ length-take 10 gs)

  told_more : (all : List MissingRun) → all ≡ map (run_between s) (take 10 (gs ++ g ∷ [])) → record { missing = missing + missing_between s g; runs = runs + 1; first_runs = all } ≡ missing_in s (gs ++ g ∷ [])
  told_more all e =
      let sums : missing + missing_between s g ≡ sum_by (missing_between s) (gs ++ g ∷ []) = ap (λ (m : Missing). m.missing + missing_between s g) h ∙ sym (sum_by_push (missing_between s) gs g) in
      let count : runs + 1 ≡ length (gs ++ g ∷ []) = ap (λ (m : Missing). m.runs + 1) h ∙ sym (length-append gs (g ∷ [])) in
      cc

  -- one more run is told
  pub told_run : length rs < 10 → record { missing = missing + missing_between s g; runs = runs + 1; first_runs = rs ++ run_between s g ∷ [] } ≡ missing_in s (gs ++ g ∷ [])
  told_run few =
      let short : length gs < 10 = omega (arith, length-rs) in
      let one_more : length (gs ++ g ∷ []) ≤ 10 = omega (arith, length-append gs (g ∷ [])) in
      let here : rs ≡ map (run_between s) gs = ap (λ (m : Missing). m.first_runs) h ∙ ap (map (run_between s)) (take_all 10 gs (omega arith)) in
      told_more (rs ++ run_between s g ∷ []) (ap (λ (l : List MissingRun). l ++ run_between s g ∷ []) here ∙ (sym (map-append (run_between s) gs (g ∷ [])) ∙ ap (map (run_between s)) (sym (take_all 10 (gs ++ g ∷ []) one_more))))

  -- ten are told already
  pub told_no_run : 10 ≤ length rs → record { missing = missing + missing_between s g; runs = runs + 1; first_runs = rs } ≡ missing_in s (gs ++ g ∷ [])
  told_no_run many =
      let long : 10 ≤ length gs = omega (arith, length-rs) in
      told_more rs (ap (λ (m : Missing). m.first_runs) h ∙ ap (map (run_between s)) (sym (take-append-le 10 gs (g ∷ []) long)))

-- the next line of a rising list is above the last one
module _ (a b : Line) (ls : List Line) (h : LinesRise (a ∷ (b ∷ ls))) where
  pub next_above : a.number <ℤ b.number
  unfolding IsStrictlySortedBy
  next_above = by (int_lt a.number b.number) refl (h.0.0)
    where
      by : (r : Bool) → int_lt a.number b.number ≡ r → cond r Less (cond (int_lt b.number a.number) Greater Equal) ≡ Less → a.number <ℤ b.number
      by true e f = grind (arith, ints)
      by false e f = absurd (other (int_lt b.number a.number) f)
        where
          other : (q : Bool) → cond q Greater Equal ≡ Less → ⊥
          other true k = cc
          other false k = cc

  pub rest_rises : LinesRise (b ∷ ls)
  unfolding IsStrictlySortedBy
  rest_rises = h.1

-- between the lines of a gap the step fits
module _ (s : ℤ) (near : Option (ℤ × ℤ)) (p : Line × Line) (h : is_gap s near p ≡ true) where
  whole : is_whole s (distance p) ≡ true
  whole = (and_parts (is_near near p.0 && is_near near p.1) (is_whole s (distance p)) h).1

  pub gap_above : pos 0 <ℤ s
  gap_above = by ((and_parts (int_lt (pos 0) s) (int_lt s (distance p)) (and_parts (int_lt (pos 0) s && int_lt s (distance p)) _ whole).0).0)
    where
      by : int_lt (pos 0) s ≡ true → pos 0 <ℤ s
      by e = grind (arith, ints)

  pub gap_fits : s <ℤ distance p
  gap_fits = by (distance p) ((and_parts (int_lt (pos 0) s) (int_lt s (distance p)) (and_parts (int_lt (pos 0) s && int_lt s (distance p)) _ whole).0).1)
    where
      by : (d : ℤ) → int_lt s d ≡ true → s <ℤ d
      by d e = grind (arith, ints)

-- a distance above 0 is its own size
pub size_of : (d : ℤ) → pos 0 <ℤ d → pos (unsigned_abs d) ≡ d
size_of d h = grind (arith, ints)

-- the gaps so far and those that are left, where the next neighbours are a gap, and where they are none
pub gap_told : {X : Type 0} (p : X → Bool) (gs rest all : List X) (g : X) → gs ++ filter p (g ∷ rest) ≡ all → p g ≡ true → (gs ++ g ∷ []) ++ filter p rest ≡ all
gap_told p gs rest all g h e = append_assoc gs (g ∷ []) (filter p rest) ∙ (ap (λ b. gs ++ cond b (g ∷ filter p rest) (filter p rest)) (sym e) ∙ h)

pub no_gap_told : {X : Type 0} (p : X → Bool) (gs rest all : List X) (g : X) → gs ++ filter p (g ∷ rest) ≡ all → p g ≡ false → gs ++ filter p rest ≡ all
no_gap_told p gs rest all g h e = ap (λ b. gs ++ cond b (g ∷ filter p rest) (filter p rest)) (sym e) ∙ h

-- nothing is told of no gap
pub none_counted : (s : ℤ) (m r : ℕ) (rs : List MissingRun) → record { missing = m; runs = r; first_runs = rs } ≡ missing_in s [] → m + r ≡ 0
none_counted s m r rs h = let a : m ≡ 0 = ap (λ (q : Missing). q.missing) h in let b : r ≡ 0 = ap (λ (q : Missing). q.runs) h in omega arith

-- a list of no length has nothing
pub nothing_in : (ls : List Line) → length ls ≡ 0 → ls ≡ []
nothing_in [] e = refl
nothing_in (l ∷ ls) e = absurd (omega arith)

-- the first line fits once it was looked at
pub first_that_fits : (first last : Line) (i : ℕ) → (i ≡ 0 → last ≡ first) → (0 < i → FitsSigned w32 first.number) → FitsSigned w32 last.number → FitsSigned w32 first.number
first_that_fits first last zero begins fits h = subst (λ (l : Line). FitsSigned w32 l.number) (begins refl) h
first_that_fits first last (suc i) begins fits h = fits (omega arith)
