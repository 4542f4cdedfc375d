-- Traces at rising positions that are changed, one after another.
use Rattle.std.proofs.Common.{◌≡◌, ◌≢◌, ℕ, zero, suc, ◌+◌, ◌-◌, ◌<◌, ◌≤◌, List, [], ◌∷◌, length, set, get_or, refl, sym, ap, ◌∙◌, arith}
use Rattle.std.proofs.lemmas.List.{get_or-set_other, get_or-set_same, length-set, set-get_or, set_comm}
use Rattle.frame_cut.specs.Traces.{count_of, trace_at, with_trace}
use Rattle.frame_cut.specs.Volume.{Volume}
use Rattle.bench_rules.specs.Conditions.{AreRising}
use Rattle.bench_rules.specs.SwappedFields.{changed_each}
use Rattle.bench_rules.proofs.SwapLemmas.{rising_at}

set_over : (ts : List (List ℕ)) (i : ℕ) (t u : List ℕ) → set (set ts i t) i u ≡ set ts i u
set_over [] i t u = refl
set_over (s ∷ ts) zero t u = refl
set_over (s ∷ ts) (suc i) t u = ap (λ (us : List (List ℕ)). s ∷ us) (set_over ts i t u)

-- a trace in front of all that are changed is as it was
pub changed_later : (f : List ℕ → List ℕ) (v : Volume) (k n : ℕ) (ps : List ℕ) (q : ℕ) → AreRising k n ps → 1 ≤ q → q < k → trace_at (changed_each f v ps) q ≡ trace_at v q
changed_later f v k n [] q up first low = refl
changed_later f v k n (p ∷ ps) q up first low =
    changed_later f (with_trace v p (f (trace_at v p))) (p + 1) n ps q up.2 first (omega (arith, low, up.0))
    ∙ get_or-set_other v.traces (p - 1) (q - 1) (f (trace_at v p)) [] (λ e. omega (arith, e, first, low, up.0))

-- and may be replaced before or behind them
with_later : (f : List ℕ → List ℕ) (v : Volume) (k n : ℕ) (ps : List ℕ) (q : ℕ) (u : List ℕ) → AreRising k n ps → 1 ≤ q → q < k → with_trace (changed_each f v ps) q u ≡ changed_each f (with_trace v q u) ps
with_later f v k n [] q u up first low = refl
with_later f v k n (p ∷ ps) q u up first low =
    let away : p - 1 ≢ q - 1 = λ e. omega (arith, e, first, low, up.0) in
    let same : trace_at (with_trace v q u) p ≡ trace_at v p = get_or-set_other v.traces (q - 1) (p - 1) u [] away in
    with_later f (with_trace v p (f (trace_at v p))) (p + 1) n ps q u up.2 first (omega (arith, low, up.0))
    ∙ ap (λ (ts : List (List ℕ)). changed_each f (record v { traces = ts }) ps) (set_comm v.traces (p - 1) (q - 1) (f (trace_at v p)) u away)
    ∙ ap (λ (t : List ℕ). changed_each f (with_trace (with_trace v q u) p (f t)) ps) (sym same)

-- each of them is changed
pub each_changed : (f : List ℕ → List ℕ) (v : Volume) (k n : ℕ) (ps : List ℕ) (i : ℕ) → 1 ≤ k → AreRising k n ps → n ≤ count_of v → i < length ps
    → trace_at (changed_each f v ps) (get_or ps i 0) ≡ f (trace_at v (get_or ps i 0))
each_changed f v k n [] i low up most less = absurd (omega (arith, less))
each_changed f v k n (p ∷ ps) zero low up most less =
    changed_later f (with_trace v p (f (trace_at v p))) (p + 1) n ps p up.2 (omega (arith, low, up.0)) (omega arith)
    ∙ get_or-set_same v.traces (p - 1) (f (trace_at v p)) [] (omega (arith, low, up.0, up.1, most))
each_changed f v k n (p ∷ ps) (suc i) low up most less =
    let t : List ℕ = f (trace_at v p) in
    let at = rising_at (p + 1) n ps i up.2 (omega (arith, less)) in
    each_changed f (with_trace v p t) (p + 1) n ps i (omega arith) up.2 (omega (arith, most, length-set v.traces (p - 1) t)) (omega (arith, less))
    ∙ ap f (get_or-set_other v.traces (p - 1) (get_or ps i 0 - 1) t [] (λ e. omega (arith, e, at.0, low, up.0)))

-- changes that undo one another leave the volume as it was
pub restored : (f g : List ℕ → List ℕ) (v : Volume) (k n : ℕ) (ps : List ℕ) → 1 ≤ k → AreRising k n ps → n ≤ count_of v
    → ((i : ℕ) → i < length ps → g (f (trace_at v (get_or ps i 0))) ≡ trace_at v (get_or ps i 0)) → changed_each g (changed_each f v ps) ps ≡ v
restored f g v k n [] low up most undone = refl
restored f g v k n (p ∷ ps) low up most undone =
    let t : List ℕ = trace_at v p in
    let w : Volume = with_trace v p (f t) in
    let there : p - 1 < length v.traces = omega (arith, low, up.0, up.1, most) in
    let here : trace_at (changed_each f w ps) p ≡ f t = changed_later f w (p + 1) n ps p up.2 (omega (arith, low, up.0)) (omega arith) ∙ get_or-set_same v.traces (p - 1) (f t) [] there in
    let again : g (trace_at (changed_each f w ps) p) ≡ t = ap g here ∙ undone 0 (omega arith) in
    let old : set (set v.traces (p - 1) (f t)) (p - 1) t ≡ v.traces = set_over v.traces (p - 1) (f t) t ∙ set-get_or v.traces (p - 1) [] in
    let same : with_trace (changed_each f w ps) p (g (trace_at (changed_each f w ps) p)) ≡ changed_each f v ps =
    ap (λ (u : List ℕ). with_trace (changed_each f w ps) p u) again
    ∙ with_later f w (p + 1) n ps p t up.2 (omega (arith, low, up.0)) (omega arith)
    ∙ ap (λ (ts : List (List ℕ)). changed_each f (record v { traces = ts }) ps) old in
    ap (λ (u : Volume). changed_each g u ps) same
    ∙ restored f g v (p + 1) n ps (omega arith) up.2 most (λ i less. undone (suc i) (omega (arith, less)))
