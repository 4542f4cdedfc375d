-- One change of each of chosen traces, done in front of the file: the volume there, and once all are brought back.
use Rattle.std.proofs.Common.{◌≡◌, ℕ, zero, suc, ◌+◌, ◌-◌, ◌<◌, ◌≤◌, List, [], ◌∷◌, length, map, get_or, refl, sym, ap, subst, ◌∙◌, arith}
use Rattle.std.specs.List.{range_with_len}
use Rattle.frame_cut.specs.Traces.{count_of, trace_at, with_trace}
use Rattle.frame_cut.specs.Volume.{Volume}
use Rattle.trace_store.specs.Swapped.{with_swapped, with_places_swapped}
use Rattle.bench_rules.specs.Conditions.{AreRising}
use Rattle.bench_rules.specs.State.{State}
use Rattle.bench_rules.specs.SwappedFields.{changed_each}
use Rattle.bench_rules.proofs.ChosenLemmas.{rising-few}
use Rattle.bench_rules.proofs.ManyValueLemmas.{IsRead}
use Rattle.bench_rules.proofs.SwapLemmas.{StaysWhole, changed_cut}
use Rattle.chosen_traces.specs.Gathered.{pairs_from, pairs_back}
use Rattle.chosen_traces.proofs.FrontLemmas.{front-count, front-traces, read-front, with_front}
use Rattle.chosen_traces.proofs.GatheredLemmas.{changed, changed_in_front, firsts, in_front}
use Rattle.live_volume.specs.Held.{with_volume, IsCutAs}

-- ---- one change of each trace

-- the change at each position
abbrev pub changes : (List ℕ → List ℕ) → List ℕ → List (ℕ × (List ℕ → List ℕ))
changes change ps = map (λ p. (p, change)) ps

firsts-changes : (change : List ℕ → List ℕ) (ps : List ℕ) → firsts [] (changes change ps) ≡ ps
firsts-changes change [] = refl
firsts-changes change (p ∷ ps) = ap (λ (qs : List ℕ). p ∷ qs) (firsts-changes change ps)

-- those from a position on
front-changes : (change : List ℕ → List ℕ) (k : ℕ) (ps : List ℕ) → in_front [] k (changes change ps) ≡ changes change (range_with_len k (length ps))
front-changes change k [] = refl
front-changes change k (p ∷ ps) = ap (λ (es : List (ℕ × (List ℕ → List ℕ))). (k, change) ∷ es) (front-changes change (k + 1) ps)

changed-volume : (change : List ℕ → List ℕ) (v : Volume) (ps : List ℕ) → changed_each change v ps ≡ record v { traces = changed [] (changes change ps) v.traces }
changed-volume change v [] = refl
changed-volume change v (p ∷ ps) = changed-volume change (with_trace v p (change (trace_at v p))) ps

range-rising : (k m n : ℕ) → k + m ≤ n + 1 → AreRising k n (range_with_len k m)
range-rising k zero n within = tt
range-rising k (suc m) n within = (omega arith, omega (arith, within), range-rising (k + 1) m n (omega (arith, within)))

range-at : (k m i : ℕ) → i < m → get_or (range_with_len k m) i 0 ≡ k + i
range-at k zero i less = absurd (omega (arith, less))
range-at k (suc m) zero less = omega arith
range-at k (suc m) (suc i) less = range-at (k + 1) m i (omega (arith, less)) ∙ (let e : k + 1 + i ≡ k + suc i = omega arith in e)

range-long : (k m : ℕ) → length (range_with_len k m) ≡ m
range-long k zero = refl
range-long k (suc m) = ap suc (range-long (k + 1) m)

-- ---- the volume in front, and back

module _ (s : State) (ps : List ℕ) (up : AreRising 1 (count_of s.volume) ps) (some : 0 < length ps) where
  abbrev v : Volume
  v = s.volume

  abbrev n : ℕ
  n = length ps

  abbrev front : State
  front = with_front s ps

  few : n ≤ count_of v
  few = omega (arith, rising-few 1 (count_of v) ps (omega arith) up)

  pub front_room : 1 - 1 + n ≤ count_of front.volume
  front_room = omega (arith, few, front-count s ps up some)

  pub in_front_is : (k : ℕ) → k < n → get_or front.volume.traces (1 - 1 + k) [] ≡ trace_at v (get_or ps k 0)
  in_front_is k less = let place : 1 - 1 + k ≡ 1 + k - 1 = omega arith in ap (λ (i : ℕ). get_or front.volume.traces i []) place ∙ front-traces s ps up some k less

  -- these are the traces once those in front are changed
  module _ (change : List ℕ → List ℕ) (ts : List (List ℕ)) (laid : ts ≡ changed [] (in_front [] 1 (changes change ps)) front.volume.traces) where
    abbrev after : Volume
    after = record front.volume { traces = ts }

    -- they are those from the first on, changed
    laid-volume : after ≡ changed_each change front.volume (range_with_len 1 n)
    laid-volume =
        ap (λ (us : List (List ℕ)). let w : Volume = record front.volume { traces = us } in w)
        (laid ∙ ap (λ (es : List (ℕ × (List ℕ → List ℕ))). changed [] es front.volume.traces) (front-changes change 1 ps))
        ∙ sym (changed-volume change front.volume (range_with_len 1 n))

    pub laid_cut : IsRead s → ((k : ℕ) → k < n → StaysWhole v.head change (get_or front.volume.traces (1 - 1 + k) [])) → IsCutAs front after
    laid_cut read own =
        let stays : (i : ℕ) → i < length (range_with_len 1 n) → StaysWhole front.volume.head change (trace_at front.volume (get_or (range_with_len 1 n) i 0)) =
        λ i less.
        let here : i < n = omega (arith, less, range-long 1 n) in
        let place : 1 + i - 1 ≡ 1 - 1 + i = omega arith in
        let same : trace_at front.volume (get_or (range_with_len 1 n) i 0) ≡ get_or front.volume.traces (1 - 1 + i) [] =
        ap (λ (q : ℕ). trace_at front.volume q) (range-at 1 n i here) ∙ ap (λ (j : ℕ). get_or front.volume.traces j []) place in
        subst (StaysWhole v.head change) (sym same) (own i here) in
        subst (IsCutAs front) (sym laid-volume)
        (changed_cut s.reading s.limits change front.volume 1 (range_with_len 1 n) (omega arith) (read-front s ps read up) (range-rising 1 n (count_of front.volume) (omega (arith, front_room))) stays)

    -- once all are brought back
    laid-back : with_places_swapped after (pairs_back 1 ps) ≡ changed_each change v ps
    laid-back =
        let named : firsts [] (changes change ps) ≡ ps = firsts-changes change ps in
        let back : with_swapped (changed [] (in_front [] 1 (changes change ps)) front.volume.traces) (pairs_back 1 ps) ≡ changed [] (changes change ps) v.traces =
        ap (λ (qs : List ℕ). with_swapped (changed [] (in_front [] 1 (changes change ps)) (with_swapped v.traces (pairs_from 1 qs))) (pairs_back 1 qs)) (sym named)
        ∙ changed_in_front [] (changes change ps) v.traces 1 (omega arith) (subst (AreRising 1 (count_of v)) (sym named) up) in
        ap (λ (us : List (List ℕ)). let w : Volume = record v { traces = with_swapped us (pairs_back 1 ps) } in w) laid
        ∙ ap (λ (us : List (List ℕ)). let w : Volume = record v { traces = us } in w) back
        ∙ sym (changed-volume change v ps)

    -- the state behind the edit
    pub changed_state : (s2 s3 : State) → s2 ≡ with_volume front after → s3 ≡ record s2 { volume = with_places_swapped s2.volume (pairs_back 1 ps) } → s3 ≡ with_volume s (changed_each change v ps)
    changed_state s2 s3 done back =
        back
        ∙ ap (λ (u : State). let w : State = record u { volume = with_places_swapped u.volume (pairs_back 1 ps) } in w) done
        ∙ ap (λ (w : Volume). with_volume s w) laid-back
