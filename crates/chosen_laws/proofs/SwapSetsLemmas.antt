-- Two fields of chosen traces that are swapped, as two sets of each trace.
use Rattle.std.proofs.Common.{◌≡◌, ℕ, ℤ, ◌+◌, ◌-◌, ◌≤◌, true, ◌&&◌, List, [], ◌∷◌, length, set, get_or, Option, Some, None, Ok, refl, sym, ap, subst, ◌∙◌, arith}
use Rattle.std.specs.Prelude.{option_map, option_and_then}
use Rattle.std.specs.Option.{option_map_or, option_or}
use Rattle.std.proofs.lemmas.Bool.{le-leb}
use Rattle.std.proofs.lemmas.List.{get_or-set_other, get_or-set_same, length-set, set-set}
use Rattle.field_map.specs.declared.place.Place.{Place}
use Rattle.frame_cut.specs.declared.file_head.Head.{Head}
use Rattle.frame_cut.specs.Cuts.{IsCut}
use Rattle.frame_cut.specs.Traces.{count_of, is_trace, trace_at, with_trace}
use Rattle.frame_cut.specs.Volume.{Volume, bytes_of}
use Rattle.trace_view.specs.Values.{has_place, value_at}
use Rattle.bench_rules.specs.declared.chosen_edit.ChosenEdit.{ChosenEdit}
use Rattle.bench_rules.specs.declared.chosen_edit.ChosenEdit.TheVariants.{Swap}
use Rattle.bench_rules.specs.declared.edit.Edit.TheVariants.{Set}
use Rattle.bench_rules.specs.declared.field.Field.{Field}
use Rattle.bench_rules.specs.declared.field.Field.TheVariants as field
use Rattle.bench_rules.specs.declared.refusal.Refusal.TheVariants.{NoPlace}
use Rattle.bench_rules.specs.ChosenEdits.{bytes_after_each, refusal_of_edit}
use Rattle.bench_rules.specs.Computed.{first_at}
use Rattle.bench_rules.specs.Conditions.{AreRising}
use Rattle.bench_rules.specs.Places.{place_in_trace}
use Rattle.bench_rules.specs.Refused.{first_refusal, no_trace, set_refusal, with_value}
use Rattle.bench_rules.specs.State.{State}
use Rattle.bench_rules.specs.Steps.{IsAfter, Step, Steps}
use Rattle.bench_rules.specs.SwappedFields.{changed_each, half_swapped, swap_refusal, swapped}
use Rattle.bench_rules.specs.TraceEdits.{put_in_trace}
use Rattle.bench_rules.proofs.ChosenLemmas.{chosen_accepted}
use Rattle.bench_rules.proofs.FirstLemmas.{both_none}
use Rattle.bench_rules.proofs.ManyValueLemmas.{IsRead, with_traces}
use Rattle.bench_rules.proofs.SetLemmas.{accepted, cut_again, is_after, refused_at, unless}
use Rattle.bench_rules.proofs.SwapLemmas.{swapped_cut}
use Rattle.chosen_laws.specs.EditLaws.{done_each}
use Rattle.chosen_laws.specs.SwapLaws.{SwapIsItsSets, swap_sets}
use Rattle.chosen_laws.proofs.StepLemmas.{accepted_traces, chosen_after, step_done}

-- ---- one set

-- the state with the value over the place of trace p
abbrev one_put : State → ℕ → Place → ℤ → State
one_put s p place x = record s { volume = with_trace s.volume p (with_value s.volume.head (trace_at s.volume p) place x) }

record IsPut (s : State) (p : ℕ) (name : Field) (place : Place) (x : ℤ) : Type 0 where
  step : Step {T = Option ℕ} s (Set p name x) (Ok None) (one_put s p place x)
  read : IsRead (one_put s p place x)

put_done : (s : State) (p : ℕ) (name : Field) (place : Place) (x : ℤ) → IsRead s → place_in_trace s.fields name ≡ Some place → 1 ≤ p → p ≤ count_of s.volume
    → set_refusal s.volume.head (trace_at s.volume p) (Some place) x ≡ None → IsPut s p name place x
put_done s p name place x cut e low high free =
    let v : Volume = s.volume in
    let new : State = one_put s p place x in
    let there : is_trace v p ≡ true = rw (le-leb 1 p low, le-leb p (count_of v) high) refl in
    let by_place : first_refusal s (Set p (field.Place place) x) ≡ None = refused_at s p place x there ∙ free in
    let none : first_refusal s (Set p name x) ≡ None = ap (λ (o : Option Place). option_or (no_trace v p) (set_refusal v.head (trace_at v p) o x)) e ∙ by_place in
    let same = is_after s p place x cut (accepted s p place x by_place) in
    let bytes = ap (λ (o : Option Place). option_map_or (λ q. put_in_trace v p q x (bytes_of v)) o (bytes_of v)) e in
    let after : IsAfter s (Set p name x) new =
    record {
      volume = subst (λ (file : List ℕ). IsCut file s.reading s.limits new.volume) (sym bytes) same.volume;
      fields = refl;
      reading = refl;
      limits = refl;
      on_disk = refl;
    } in
    record { step = step_done s new (Set p name x) none after; read = cut_again s p place x new.volume same }

-- ---- both sets of one trace

module _ (s : State) (first second : Field) (places : Place × Place) (one : place_in_trace s.fields first ≡ Some places.0) (two : place_in_trace s.fields second ≡ Some places.1) where
  abbrev h : Head
  h = s.volume.head

  -- the state with other traces, of which trace p is changed
  abbrev with_change : List (List ℕ) → ℕ → List ℕ → State
  with_change ts p u = with_traces s (set ts (p - 1) u)

  record AreBothPut (ts : List (List ℕ)) (p : ℕ) (t : List ℕ) : Type 0 where
    half : Step {T = Option ℕ} (with_traces s ts) (Set p first (value_at h t places.1)) (Ok None) (with_change ts p (half_swapped h places t))
    whole : Step {T = Option ℕ} (with_change ts p (half_swapped h places t)) (Set p second (value_at h t places.0)) (Ok None) (with_change ts p (swapped h places t))
    read : IsRead (with_change ts p (swapped h places t))

  both_put : (ts : List (List ℕ)) (p : ℕ) → IsRead (with_traces s ts) → 1 ≤ p → p ≤ length ts → swap_refusal h places (get_or ts (p - 1) []) ≡ None → AreBothPut ts p (get_or ts (p - 1) [])
  both_put ts p cut low high free =
      let t : List ℕ = get_or ts (p - 1) [] in
      let u : List ℕ = half_swapped h places t in
      let x : ℤ = value_at h t places.0 in
      let y : ℤ = value_at h t places.1 in
      let sets = both_none (set_refusal h t (Some places.0) y) (set_refusal h u (Some places.1) x) (unless (has_place h t places.0 && has_place h t places.1) NoPlace _ free).1 in
      let a = put_done (with_traces s ts) p first places.0 y cut one low high sets.0 in
      let mid : State = with_change ts p u in
      let here : trace_at mid.volume p ≡ u = get_or-set_same ts (p - 1) u [] (omega (arith, low, high)) in
      let many : count_of mid.volume ≡ length ts = length-set ts (p - 1) u in
      let b = put_done mid p second places.1 x a.read two low (omega (arith, high, many)) (ap (λ (w : List ℕ). set_refusal h w (Some places.1) x) here ∙ sets.1) in
      let made : set (set ts (p - 1) u) (p - 1) (with_value h (trace_at mid.volume p) places.1 x) ≡ set ts (p - 1) (swapped h places t) =
      set-set ts (p - 1) u (with_value h (trace_at mid.volume p) places.1 x) ∙ ap (λ (w : List ℕ). set ts (p - 1) (with_value h w places.1 x)) here in
      record {
        half = a.step;
        whole = subst (λ (us : List (List ℕ)). Step {T = Option ℕ} mid (Set p second x) (Ok None) (with_traces s us)) made b.step;
        read = subst (λ (us : List (List ℕ)). IsRead (with_traces s us)) made b.read;
      }

  -- ---- the sets of one trace after another

  -- the traces from trace k on are as they were
  abbrev AreAhead : (ts : List (List ℕ)) (k : ℕ) → Type 0
  AreAhead ts k = (q : ℕ) → k ≤ q → get_or ts (q - 1) [] ≡ trace_at s.volume q

  sets_from : (k : ℕ) (ps : List ℕ) (ts : List (List ℕ)) → IsRead (with_traces s ts) → length ts ≡ count_of s.volume → AreAhead ts k → 1 ≤ k → AreRising k (count_of s.volume) ps
      → first_at (λ p. swap_refusal h places (trace_at s.volume p)) ps ≡ None
      → Steps (with_traces s ts) (swap_sets s.volume first second places ps) (done_each (swap_sets s.volume first second places ps))
      (record s { volume = changed_each (swapped h places) (record s.volume { traces = ts }) ps })
  sets_from k [] ts cut many ahead low up free = refl
  sets_from k (p ∷ ps) ts cut many ahead low up free =
      let t : List ℕ = get_or ts (p - 1) [] in
      let old : List ℕ = trace_at s.volume p in
      let same : t ≡ old = ahead p up.0 in
      let split = both_none (swap_refusal h places old) (first_at (λ q. swap_refusal h places (trace_at s.volume q)) ps) free in
      let both = both_put ts p cut (omega (arith, low, up.0)) (omega (arith, up.1, many)) (ap (swap_refusal h places) same ∙ split.0) in
      let next : List (List ℕ) = set ts (p - 1) (swapped h places t) in
      let rest = sets_from (p + 1) ps next both.read (length-set ts (p - 1) (swapped h places t) ∙ many)
      (λ q le. get_or-set_other ts (p - 1) (q - 1) (swapped h places t) [] (λ e. omega (arith, e, le, low, up.0)) ∙ ahead q (omega (arith, le, up.0)))
      (omega arith) up.2 split.1 in
      subst (λ (w : List ℕ). Steps (with_traces s ts) (Set p first (value_at h w places.1) ∷ Set p second (value_at h w places.0) ∷ swap_sets s.volume first second places ps)
      (done_each (swap_sets s.volume first second places (p ∷ ps))) (record s { volume = changed_each (swapped h places) (record s.volume { traces = next }) ps }))
      same
      (with_change ts p (half_swapped h places t), both.half, (with_traces s next, both.whole, rest))

-- ---- the swap

found_both : (o q : Option Place) (places : Place × Place) → option_and_then {U = Place × Place} (λ a. option_map (λ b. (a, b)) q) o ≡ Some places → (o ≡ Some places.0) × (q ≡ Some places.1)
found_both None q places e = absurd cc
found_both (Some a) None places e = absurd cc
found_both (Some a) (Some b) places e = (ap (option_map (λ (p : Place × Place). p.0)) e, ap (option_map (λ (p : Place × Place). p.1)) e)

pub swap_is_its_sets : SwapIsItsSets
swap_is_its_sets s c first second places ps cut none found e =
    let edit : ChosenEdit = Swap first second in
    let a = chosen_accepted s c edit none in
    let same : a.traces ≡ ps = accepted_traces s c edit ps a e in
    let up : AreRising 1 (count_of s.volume) ps = subst (AreRising 1 (count_of s.volume)) same a.rising in
    let all : refusal_of_edit s.volume s.fields edit ps ≡ None = subst (λ (qs : List ℕ). refusal_of_edit s.volume s.fields edit qs ≡ None) same a.none in
    let free : first_at (λ p. swap_refusal s.volume.head places (trace_at s.volume p)) ps ≡ None = rw found at all in
    let w : Volume = changed_each (swapped s.volume.head places) s.volume ps in
    let made : IsCut (bytes_after_each s.volume s.fields edit ps) s.reading s.limits w = rw found (swapped_cut s places ps cut up free) in
    let there = found_both (place_in_trace s.fields first) (place_in_trace s.fields second) places found in
    (record s { volume = w }, sets_from s first second places there.0 there.1 1 ps s.volume.traces cut refl (λ q le. refl) (omega arith) up free, chosen_after s c edit ps w e made)
