-- An edit of the first traces of a file, to which chosen ones were brought, is the edit of the chosen traces once all are brought back.
use Rattle.std.proofs.Common.{◌≡◌, ℕ, ℤ, zero, suc, ◌+◌, ◌-◌, ◌<◌, ◌≤◌, true, false, List, [], ◌∷◌, ◌++◌, length, map, get_or, set, Option, Some, None, refl, sym, ap, ap₂, subst, ◌∙◌, arith}
use Rattle.std.specs.Prelude.{is_some}
use Rattle.std.specs.List.{swap}
use Rattle.std.specs.Option.{option_or}
use Rattle.std.proofs.lemmas.List.Edits.{length-swap}
use Rattle.field_map.specs.declared.place.Place.{Place}
use Rattle.frame_cut.specs.declared.file_head.Head.{Head}
use Rattle.frame_cut.specs.Cuts.{IsCut}
use Rattle.frame_cut.specs.Traces.{count_of, trace_at}
use Rattle.frame_cut.specs.Volume.{Volume}
use Rattle.frame_cut.proofs.OneCutLemmas.{at_most_one_cut}
use Rattle.trace_store.specs.Swapped.{with_swapped, with_places_swapped, ArePlaces}
use Rattle.bench_rules.specs.declared.chosen_edit.ChosenEdit.TheVariants as each
use Rattle.bench_rules.specs.declared.edit.Edit.TheVariants.{Renumber}
use Rattle.bench_rules.specs.declared.field.Field.{Field}
use Rattle.bench_rules.specs.declared.refusal.Refusal.{Refusal}
use Rattle.bench_rules.specs.ChosenEdits.{bytes_after_each, counted_each, refusal_of_edit}
use Rattle.bench_rules.specs.Conditions.{AreRising}
use Rattle.bench_rules.specs.Places.{place_in_trace}
use Rattle.bench_rules.specs.Refused.{first_refusal, first_refusal_among, set_refusal, with_value}
use Rattle.bench_rules.specs.State.{State}
use Rattle.bench_rules.specs.Steps.{IsAfter}
use Rattle.bench_rules.specs.TraceEdits.{bytes_after_renumber, counted, numbers}
use Rattle.bench_rules.proofs.ChosenLemmas.{counted_listed, rising-earlier, rising-few}
use Rattle.bench_rules.proofs.FirstLemmas.{by_traces}
use Rattle.bench_rules.proofs.ListedLemmas.{listed_cut, with_listed}
use Rattle.bench_rules.proofs.ManyValueLemmas.{IsRead, valued, values_cut, with_traces, with_values}
use Rattle.bench_rules.proofs.RenumberLemmas.{accepted_from}
use Rattle.bench_rules.proofs.SortLemmas.{cut_permuted}
use Rattle.many_traces.proofs.SortedTraceLemmas.{swapped-permutes}
use Rattle.chosen_traces.specs.Gathered.{pairs_from, pairs_back}
use Rattle.chosen_traces.proofs.GatheredLemmas.{at-first, changed, changed_in_front, elsewhere, firsts, in_front, swapped-long, swapped-read}

-- ---- what stands in front

-- the k-th of rising positions
pub rising-at : (m n : ℕ) (ps : List ℕ) (k : ℕ) → AreRising m n ps → k < length ps → (m ≤ get_or ps k 0) × (get_or ps k 0 ≤ n)
rising-at m n [] k up less = absurd (omega (arith, less))
rising-at m n (p ∷ ps) zero up less = (up.0, up.1)
rising-at m n (p ∷ ps) (suc k) up less = let rest = rising-at (p + 1) n ps k up.2 (omega (arith, less)) in (omega (arith, rest.0, up.0), rest.1)

module _ {T : Type 0} (d : T) where
  -- the k-th of them stands k places behind the first place
  pub front-at : (xs : List T) (a : ℕ) (ps : List ℕ) (k : ℕ) → 1 ≤ a → AreRising a (length xs) ps → k < length ps → get_or (with_swapped xs (pairs_from a ps)) (a - 1 + k) d ≡ get_or xs (get_or ps k 0 - 1) d
  front-at xs a [] k low up less = absurd (omega (arith, less))
  front-at xs a (p ∷ ps) zero low up less =
      let ys : List T = swap xs (a - 1) (p - 1) in
      let here : a - 1 + 0 ≡ a - 1 = omega arith in
      let rest : AreRising (a + 1) (length ys) ps = subst (λ n. AreRising (a + 1) n ps) (sym (length-swap xs (a - 1) (p - 1))) (rising-earlier (p + 1) (a + 1) (length xs) ps (omega (arith, up.0)) up.2) in
      ap (λ n. get_or (with_swapped ys (pairs_from (a + 1) ps)) n d) here
      ∙ swapped-read d ys (a - 1) (a + 1) ps (omega (arith, low)) rest
      ∙ at-first d xs (a - 1) (p - 1) (omega (arith, low, up.0, up.1)) (omega (arith, low, up.0, up.1))
  front-at xs a (p ∷ ps) (suc k) low up less =
      let ys : List T = swap xs (a - 1) (p - 1) in
      let next : a - 1 + suc k ≡ a + 1 - 1 + k = omega (arith, low) in
      let rest : AreRising (a + 1) (length ys) ps = subst (λ n. AreRising (a + 1) n ps) (sym (length-swap xs (a - 1) (p - 1))) (rising-earlier (p + 1) (a + 1) (length xs) ps (omega (arith, up.0)) up.2) in
      let at = rising-at (p + 1) (length xs) ps k up.2 (omega (arith, less)) in
      ap (λ n. get_or (with_swapped ys (pairs_from (a + 1) ps)) n d) next
      ∙ front-at ys (a + 1) ps k (omega arith) rest (omega (arith, less))
      ∙ elsewhere d xs (a - 1) (p - 1) (get_or ps k 0 - 1) (omega (arith, low, up.0, up.1)) (omega (arith, low, up.0, up.1)) (λ f. omega (arith, f, low, at.0, up.0)) (λ f. omega (arith, f, low, at.0, up.0))

-- ---- the volume with them in front

places-more : (n : ℕ) (pairs : List (ℕ × ℕ)) (p : ℕ × ℕ) → ArePlaces n pairs → 1 ≤ p.0 → p.0 ≤ n → 1 ≤ p.1 → p.1 ≤ n → ArePlaces n (pairs ++ p ∷ [])
places-more n [] p are a b c d = (a, b, c, d, tt)
places-more n (q ∷ pairs) p are a b c d = (are.0, are.1, are.2, are.3, places-more n pairs p are.4 a b c d)

pub places-front : (a n : ℕ) (ps : List ℕ) → 1 ≤ a → AreRising a n ps → ArePlaces n (pairs_from a ps)
places-front a n [] low up = tt
places-front a n (p ∷ ps) low up = (low, omega (arith, up.0, up.1), omega (arith, low, up.0), up.1, places-front (a + 1) n ps (omega arith) (rising-earlier (p + 1) (a + 1) n ps (omega (arith, up.0)) up.2))

pub places-back : (a n : ℕ) (ps : List ℕ) → 1 ≤ a → AreRising a n ps → ArePlaces n (pairs_back a ps)
places-back a n [] low up = tt
places-back a n (p ∷ ps) low up =
    places-more n (pairs_back (a + 1) ps) (a, p) (places-back (a + 1) n ps (omega arith) (rising-earlier (p + 1) (a + 1) n ps (omega (arith, up.0)) up.2)) low (omega (arith, up.0, up.1)) (omega (arith, low, up.0)) up.1

-- the state with the traces brought to the front
abbrev pub with_front : State → List ℕ → State
with_front s ps = record s { volume = with_places_swapped s.volume (pairs_from 1 ps) }

module _ (s : State) (ps : List ℕ) (read : IsRead s) (up : AreRising 1 (count_of s.volume) ps) where
  pub read-front : IsRead (with_front s ps)
  read-front =
      cut_permuted s.reading s.limits s.volume (with_swapped s.volume.traces (pairs_from 1 ps)) read
      (swapped-permutes s.volume.traces (pairs_from 1 ps) (places-front 1 (count_of s.volume) ps (omega arith) up))

-- ---- values

-- each trace with its value over the place
abbrev pub edits_of : Head → Place → List (ℕ × ℤ) → List (ℕ × (List ℕ → List ℕ))
edits_of h place ns = map (λ n. (n.0, λ t. with_value h t place n.1)) ns

pub listed-changed : (h : Head) (place : Place) (ns : List (ℕ × ℤ)) (ts : List (List ℕ)) → with_listed h place ns ts ≡ changed [] (edits_of h place ns) ts
listed-changed h place [] ts = refl
listed-changed h place (n ∷ ns) ts = listed-changed h place ns (set ts (n.0 - 1) (with_value h (get_or ts (n.0 - 1) []) place n.1))

-- ---- a field counted up

counted-firsts : (h : Head) (place : Place) (first step : ℤ) (k : ℕ) (ps : List ℕ) → firsts [] (edits_of h place (counted_each first step k ps)) ≡ ps
counted-firsts h place first step k [] = refl
counted-firsts h place first step k (p ∷ ps) = ap (λ qs. p ∷ qs) (counted-firsts h place first step (k + 1) ps)

-- the values of the first traces are those of the chosen ones
counted-front : (h : Head) (place : Place) (first step : ℤ) (k : ℕ) (ps : List ℕ) (ts : List (List ℕ))
    → with_values h place (λ p. counted first step (p - 1)) (k + 1) (length ps) ts ≡ changed [] (in_front [] (k + 1) (edits_of h place (counted_each first step k ps))) ts
counted-front h place first step k [] ts = refl
counted-front h place first step k (p ∷ ps) ts =
    let here : k + 1 - 1 ≡ k = omega arith in
    ap (λ (n : ℕ). with_values h place (λ p. counted first step (p - 1)) (k + 1 + 1) (length ps) (set ts (k + 1 - 1) (with_value h (get_or ts (k + 1 - 1) []) place (counted first step n)))) here
    ∙ counted-front h place first step (k + 1) ps (set ts (k + 1 - 1) (with_value h (get_or ts (k + 1 - 1) []) place (counted first step k)))

-- and they are refused as those
counted-refused : (v w : Volume) (place : Option Place) (first step : ℤ) (k : ℕ) (ps : List ℕ) → w.head ≡ v.head → ((i : ℕ) → i < length ps → trace_at w (k + 1 + i) ≡ trace_at v (get_or ps i 0))
    → first_refusal_among w place (valued (λ p. counted first step (p - 1)) (k + 1) (length ps)) ≡ first_refusal_among v place (counted_each first step k ps)
counted-refused v w place first step k [] same there = refl
counted-refused v w place first step k (p ∷ ps) same there =
    let here : k + 1 - 1 ≡ k = omega arith in
    let zeroth : k + 1 + 0 ≡ k + 1 = omega arith in
    let next : (i : ℕ) → k + 1 + suc i ≡ k + 1 + 1 + i = λ i. omega arith in
    let own : trace_at w (k + 1) ≡ trace_at v p = rw zeroth at (there 0 (omega arith)) in
    ap₂ (λ (o : Option Refusal) (r : Option Refusal). option_or o r)
    (ap (λ (n : ℕ). set_refusal w.head (trace_at w (k + 1)) place (counted first step n)) here
    ∙ ap₂ (λ (h : Head) (t : List ℕ). set_refusal h t place (counted first step k)) same own)
    (counted-refused v w place first step (k + 1) ps same (λ i less. rw (next i) at (there (suc i) (omega (arith, less)))))

module _ (s : State) (ps : List ℕ) (up : AreRising 1 (count_of s.volume) ps) (some : 0 < length ps) where
  abbrev n : ℕ
  n = length ps

  few : n ≤ count_of s.volume
  few = omega (arith, rising-few 1 (count_of s.volume) ps (omega arith) up)

  pub front-count : count_of (with_front s ps).volume ≡ count_of s.volume
  front-count = swapped-long [] s.volume.traces (pairs_from 1 ps)

  pub front-traces : (i : ℕ) → i < n → trace_at (with_front s ps).volume (1 + i) ≡ trace_at s.volume (get_or ps i 0)
  front-traces i less =
      let place : 1 + i - 1 ≡ 1 - 1 + i = omega arith in
      ap (λ (k : ℕ). get_or (with_front s ps).volume.traces k []) place ∙ front-at [] s.volume.traces 1 ps i (omega arith) up less

  -- the first refusal in front is what is refused of the chosen traces
  pub renumber-refused : (field : Field) (first step : ℤ) → first_refusal (with_front s ps) (Renumber 1 n field first step) ≡ refusal_of_edit s.volume s.fields (each.Renumber field first step) ps
  renumber-refused field first step =
      let long : n + 1 - 1 ≡ n = omega arith in
      by_traces (with_front s ps).volume 1 n (first_refusal_among (with_front s ps).volume (place_in_trace s.fields field) (numbers 1 n first step)) (omega arith) some (omega (arith, few, front-count))
      ∙ ap (λ (m : ℕ). first_refusal_among (with_front s ps).volume (place_in_trace s.fields field) (valued (λ p. counted first step (p - 1)) 1 m)) long
      ∙ counted-refused s.volume (with_front s ps).volume (place_in_trace s.fields field) first step 0 ps refl front-traces

  -- the volume in front, once all are brought back, is the cut of the bytes after the edit of the chosen traces
  pub renumber-back : (field : Field) (first step : ℤ) (new : State) → IsRead s → is_some (place_in_trace s.fields field) ≡ true → first_refusal (with_front s ps) (Renumber 1 n field first step) ≡ None
      → IsAfter (with_front s ps) (Renumber 1 n field first step) new
      → IsCut (bytes_after_each s.volume s.fields (each.Renumber field first step) ps) s.reading s.limits (with_places_swapped new.volume (pairs_back 1 ps))
  renumber-back field first step new read has none after = by (place_in_trace s.fields field) refl
    where
      by : (o : Option Place) → place_in_trace s.fields field ≡ o → IsCut (bytes_after_each s.volume s.fields (each.Renumber field first step) ps) s.reading s.limits (with_places_swapped new.volume (pairs_back 1 ps))
      by None e = let no : false ≡ true = rw e at has in absurd cc
      by (Some place) e =
          let f : State = with_front s ps in
          let h : Head = s.volume.head in
          let value : ℕ → ℤ = λ p. counted first step (p - 1) in
          let long : n + 1 - 1 ≡ n = omega arith in
          let ns : List (ℕ × ℤ) = counted_each first step 0 ps in
          let made = values_cut f place value 1 (n + 1 - 1) (read-front s ps read up) (accepted_from f 1 n field first step place e none) in
          let told : IsCut (bytes_after_renumber f.volume 1 n place first step) s.reading s.limits new.volume = rw e at after.volume in
          let same : new.volume ≡ (with_traces f (with_values h place value 1 (n + 1 - 1) f.volume.traces)).volume =
          at_most_one_cut (bytes_after_renumber f.volume 1 n place first step) s.reading s.limits new.volume (with_traces f (with_values h place value 1 (n + 1 - 1) f.volume.traces)).volume told made in
          let firsts-are : firsts [] (edits_of h place ns) ≡ ps = counted-firsts h place first step 0 ps in
          let back : with_swapped (with_values h place value 1 (n + 1 - 1) f.volume.traces) (pairs_back 1 ps) ≡ with_listed h place ns s.volume.traces =
          ap (λ (m : ℕ). with_swapped (with_values h place value 1 m f.volume.traces) (pairs_back 1 ps)) long
          ∙ ap (λ (ts : List (List ℕ)). with_swapped ts (pairs_back 1 ps)) (counted-front h place first step 0 ps f.volume.traces)
          ∙ ap (λ (qs : List ℕ). with_swapped (changed [] (in_front [] 1 (edits_of h place ns)) (with_swapped s.volume.traces (pairs_from 1 qs))) (pairs_back 1 qs)) (sym firsts-are)
          ∙ changed_in_front [] (edits_of h place ns) s.volume.traces 1 (omega arith) (subst (AreRising 1 (count_of s.volume)) (sym firsts-are) up)
          ∙ sym (listed-changed h place ns s.volume.traces) in
          let free : first_refusal_among s.volume (Some place) ns ≡ None = rw e at (sym (renumber-refused field first step) ∙ none) in
          let volume : with_places_swapped new.volume (pairs_back 1 ps) ≡ (with_traces s (with_listed h place ns s.volume.traces)).volume =
          ap (λ (v : Volume). with_places_swapped v (pairs_back 1 ps)) same ∙ ap (λ (ts : List (List ℕ)). let v : Volume = record s.volume { traces = ts } in v) back in
          subst (λ (v : Volume). IsCut (bytes_after_each s.volume s.fields (each.Renumber field first step) ps) s.reading s.limits v) (sym volume)
          (rw e (listed_cut s place 1 ns read (counted_listed s place first step 0 1 ps (omega arith) up free)))
