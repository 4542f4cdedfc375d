-- A field computed for the first traces of a file, to which chosen ones were brought, is computed for the chosen traces once all are brought back.
use Rattle.std.proofs.Common.{◌≡◌, ℕ, ℤ, pos, zero, suc, ◌+◌, ◌-◌, ◌<◌, ◌≤◌, Bool, true, false, ◌&&◌, List, [], ◌∷◌, length, map, get_or, set, Option, Some, None, Ok, Err, refl, sym, ap, ap₂, subst, ◌∙◌, arith}
use Rattle.std.specs.Prelude.{is_some, not, option_map, Result, if◌then◌else◌}
use Rattle.std.specs.List.{range_with_len}
use Rattle.std.specs.Option.{option_or, option_map_or}
use Rattle.std.specs.Ordering.{int_eq}
use Rattle.num_order.specs.Number.{fits}
use Rattle.field_map.specs.declared.place.Place.{Place}
use Rattle.frame_cut.specs.declared.file_head.Head.{Head}
use Rattle.frame_cut.specs.Cuts.{IsCut}
use Rattle.frame_cut.specs.Traces.{count_of, trace_at}
use Rattle.frame_cut.specs.Volume.{Volume, bytes_of}
use Rattle.frame_cut.proofs.OneCutLemmas.{at_most_one_cut}
use Rattle.trace_store.specs.Swapped.{with_swapped, with_places_swapped}
use Rattle.trace_view.specs.Values.{has_place}
use Rattle.bench_rules.specs.declared.chosen_edit.ChosenEdit.TheVariants as each
use Rattle.bench_rules.specs.declared.edit.Edit.TheVariants.{Compute}
use Rattle.bench_rules.specs.declared.field.Field.{Field}
use Rattle.bench_rules.specs.declared.operand.Operand.{Operand}
use Rattle.bench_rules.specs.declared.operator.Operator.{Operator}
use Rattle.bench_rules.specs.declared.refusal.Refusal.{Refusal}
use Rattle.bench_rules.specs.declared.refusal.Refusal.TheVariants as refusals
use Rattle.bench_rules.specs.ChosenEdits.{bytes_after_each, refusal_of_edit}
use Rattle.bench_rules.specs.Computed.{Formula, applied, chained, chained_from, compute_refusal, compute_refusal_in, computed_in, computed_numbers, divides, first_at, formula_of, is_in_range, refusal_of_result, stepped, steps_in, term_in, unless_refused}
use Rattle.bench_rules.specs.ComputedBytes.{bytes_after_compute}
use Rattle.bench_rules.specs.Conditions.{AreRising}
use Rattle.bench_rules.specs.Refused.{changes_length, first_refusal, set_refusal, with_value}
use Rattle.bench_rules.specs.State.{State}
use Rattle.bench_rules.specs.Steps.{IsAfter}
use Rattle.bench_rules.specs.TraceEdits.{put_each}
use Rattle.bench_rules.proofs.ChosenLemmas.{computed_listed, rising-few}
use Rattle.bench_rules.proofs.ComputeLemmas.{accepted_numbers, compute_accepted, compute_first, number_of, number_or_zero, numbers_are}
use Rattle.bench_rules.proofs.ListedLemmas.{listed_cut, with_listed}
use Rattle.bench_rules.proofs.ManyValueLemmas.{IsRead, valued, values_cut, with_traces, with_values}
use Rattle.chosen_traces.specs.Gathered.{pairs_from, pairs_back}
use Rattle.chosen_traces.specs.Retold.{retold}
use Rattle.chosen_traces.proofs.GatheredLemmas.{changed, changed_in_front, firsts, in_front}
use Rattle.chosen_traces.proofs.FrontLemmas.{edits_of, front-count, front-traces, listed-changed, read-front, with_front}

-- ---- a trace by another number

-- E13 told of trace p
abbrev renamed : ℕ → Refusal → Refusal
renamed p (refusals.ZeroDivisor q) = refusals.ZeroDivisor p
renamed p refusal = refusal

abbrev renamed-result : ℕ → Result ℤ Refusal → Result ℤ Refusal
renamed-result p (Ok x) = Ok x
renamed-result p (Err refusal) = Err (renamed p refusal)

stepped-renamed : (p q : ℕ) (o : Operator) (a b : ℤ) → stepped p o a b ≡ renamed-result p (stepped q o a b)
stepped-renamed p q o a b = by (divides o && int_eq b (pos 0)) (is_in_range (applied o a b))
  where
    by : (nought within : Bool) → (if nought then Err (refusals.ZeroDivisor p) else (if within then Ok (applied o a b) else Err refusals.DoesNotFit))
        ≡ renamed-result p (if nought then Err (refusals.ZeroDivisor q) else (if within then Ok (applied o a b) else Err refusals.DoesNotFit))
    by true within = refl
    by false true = refl
    by false false = refl

chained-renamed : (p q : ℕ) (a : ℤ) (ss : List (Operator × ℤ)) → chained p a ss ≡ renamed-result p (chained q a ss)
chained-renamed p q a [] = refl
chained-renamed p q a (s ∷ ss) =
    ap (λ (r : Result ℤ Refusal). unless_refused r (λ b. chained p b ss)) (stepped-renamed p q s.0 a s.1) ∙ by (λ b. chained-renamed p q b ss) (stepped q s.0 a s.1)
  where
    by : ((b : ℤ) → chained p b ss ≡ renamed-result p (chained q b ss)) → (r : Result ℤ Refusal) → unless_refused (renamed-result p r) (λ b. chained p b ss) ≡ renamed-result p (unless_refused r (λ b. chained q b ss))
    by again (Ok b) = again b
    by again (Err refusal) = refl

computed-renamed : (h : Head) (f : Formula) (p q : ℕ) (t : List ℕ) → computed_in h f p t ≡ renamed-result p (computed_in h f q t)
computed-renamed h f p q t = by (has_place h t f.place) (term_in h t f.source) (steps_in h t f.steps)
  where
    from : (x : Option ℤ) (ss : Option (List (Operator × ℤ))) → chained_from p x ss ≡ renamed-result p (chained_from q x ss)
    from None ss = refl
    from (Some a) None = refl
    from (Some a) (Some ss) = chained-renamed p q a ss

    by : (has : Bool) (x : Option ℤ) (ss : Option (List (Operator × ℤ))) → (if not has then Err refusals.NoPlace else chained_from p x ss) ≡ renamed-result p (if not has then Err refusals.NoPlace else chained_from q x ss)
    by false x ss = refl
    by true x ss = from x ss

same-number : (p : ℕ) (r : Result ℤ Refusal) → number_or_zero (renamed-result p r) ≡ number_or_zero r
same-number p (Ok x) = refl
same-number p (Err refusal) = refl

-- a set names no trace
set-renamed : (p : ℕ) (h : Head) (t : List ℕ) (place : Place) (x : ℤ) → set_refusal h t (Some place) x ≡ option_map (renamed p) (set_refusal h t (Some place) x)
set-renamed p h t place x = by (has_place h t place) (fits place.kind x) (changes_length h t place x)
  where
    by : (has fit long : Bool) → (if not has then Some refusals.NoPlace else if not fit then Some refusals.DoesNotFit else if long then Some refusals.Frame else None)
        ≡ option_map (renamed p) (if not has then Some refusals.NoPlace else if not fit then Some refusals.DoesNotFit else if long then Some refusals.Frame else None)
    by false fit long = refl
    by true false long = refl
    by true true true = refl
    by true true false = refl

refusal-renamed : (h : Head) (f : Formula) (p q : ℕ) (t : List ℕ) → refusal_of_result h t f.place (computed_in h f p t) ≡ option_map (renamed p) (refusal_of_result h t f.place (computed_in h f q t))
refusal-renamed h f p q t = ap (refusal_of_result h t f.place) (computed-renamed h f p q t) ∙ by (computed_in h f q t)
  where
    by : (r : Result ℤ Refusal) → refusal_of_result h t f.place (renamed-result p r) ≡ option_map (renamed p) (refusal_of_result h t f.place r)
    by (Ok x) = set-renamed p h t f.place x
    by (Err refusal) = refl

-- ---- the first refusal

retold-renamed : (ps : List ℕ) (i : ℕ) (r : Refusal) → i < length ps → retold ps (renamed (1 + i) r) ≡ renamed (get_or ps i 0) r
retold-renamed ps i (refusals.ZeroDivisor q) less =
    let place : 1 + i - 1 ≡ i = omega arith in
    ap (λ (n : ℕ). refusals.ZeroDivisor n) (ap (λ (k : ℕ). get_or ps k (1 + i)) place ∙ get_or_any ps i (1 + i) 0 less)
  where
    get_or_any : (xs : List ℕ) (k d e : ℕ) → k < length xs → get_or xs k d ≡ get_or xs k e
    get_or_any [] k d e l = absurd (omega (arith, l))
    get_or_any (x ∷ xs) zero d e l = refl
    get_or_any (x ∷ xs) (suc k) d e l = get_or_any xs k d e (omega (arith, l))
retold-renamed ps i (refusals.NoTrace p n) less = refl
retold-renamed ps i refusals.NoField less = refl
retold-renamed ps i refusals.NoPlace less = refl
retold-renamed ps i refusals.DoesNotFit less = refl
retold-renamed ps i (refusals.NoSample k n) less = refl
retold-renamed ps i refusals.Frame less = refl
retold-renamed ps i (refusals.Text t) less = refl
retold-renamed ps i (refusals.Map m) less = refl
retold-renamed ps i refusals.TooLarge less = refl
retold-renamed ps i refusals.TooManyTraces less = refl
retold-renamed ps i refusals.OutOfMemory less = refl
retold-renamed ps i refusals.NoValues less = refl
retold-renamed ps i refusals.ReadFailed less = refl
retold-renamed ps i refusals.FileChanged less = refl

map-through : (f g : Refusal → Refusal) (h : Refusal → Refusal) (o : Option Refusal) → ((r : Refusal) → f (g r) ≡ h r) → option_map f (option_map g o) ≡ option_map h o
map-through f g h None e = refl
map-through f g h (Some r) e = ap (λ (x : Refusal). let o : Option Refusal = Some x in o) (e r)

-- what trace i in front is refused, told of the trace that was brought there
one-retold : (v w : Volume) (f : Formula) (ps : List ℕ) (i : ℕ) → w.head ≡ v.head → i < length ps → trace_at w (1 + i) ≡ trace_at v (get_or ps i 0)
    → option_map (retold ps) (compute_refusal w f (1 + i)) ≡ compute_refusal v f (get_or ps i 0)
one-retold v w f ps i same less there =
    let p : ℕ = get_or ps i 0 in
    let r : Option Refusal = refusal_of_result v.head (trace_at v p) f.place (computed_in v.head f (1 + i) (trace_at v p)) in
    ap (option_map (retold ps)) (ap₂ (λ (h : Head) (t : List ℕ). refusal_of_result h t f.place (computed_in h f (1 + i) t)) same there)
    ∙ ap (option_map (retold ps)) (refusal-renamed v.head f (1 + i) (1 + i) (trace_at v p))
    ∙ map-through (retold ps) (renamed (1 + i)) (renamed p) r (λ x. retold-renamed ps i x less)
    ∙ sym (refusal-renamed v.head f p (1 + i) (trace_at v p))

first-retold : (told : Refusal → Refusal) (mine other : ℕ → Option Refusal) (k : ℕ) (ps : List ℕ) → ((i : ℕ) → i < length ps → option_map told (other (k + i)) ≡ mine (get_or ps i 0))
    → option_map told (first_at other (range_with_len k (length ps))) ≡ first_at mine ps
first-retold told mine other k [] e = refl
first-retold told mine other k (p ∷ ps) e =
    let zeroth : k + 0 ≡ k = omega arith in
    let next : (i : ℕ) → k + suc i ≡ k + 1 + i = λ i. omega arith in
    by (other k) (first_at other (range_with_len (k + 1) (length ps)))
    ∙ ap₂ (λ (a : Option Refusal) (b : Option Refusal). option_or a b) (rw zeroth at (e 0 (omega arith))) (first-retold told mine other (k + 1) ps (λ i less. rw (next i) at (e (suc i) (omega (arith, less)))))
  where
    by : (a b : Option Refusal) → option_map told (option_or a b) ≡ option_or (option_map told a) (option_map told b)
    by None b = refl
    by (Some x) b = refl

-- ---- values

-- the values of the first traces are those of the chosen ones
values-front : (h : Head) (place : Place) (value other : ℕ → ℤ) (k : ℕ) (ps : List ℕ) (ts : List (List ℕ)) → ((i : ℕ) → i < length ps → other (k + i) ≡ value (get_or ps i 0))
    → with_values h place other k (length ps) ts ≡ changed [] (in_front [] k (edits_of h place (map (λ p. (p, value p)) ps))) ts
values-front h place value other k [] ts e = refl
values-front h place value other k (p ∷ ps) ts e =
    let zeroth : k + 0 ≡ k = omega arith in
    let next : (i : ℕ) → k + suc i ≡ k + 1 + i = λ i. omega arith in
    ap (λ (x : ℤ). with_values h place other (k + 1) (length ps) (set ts (k - 1) (with_value h (get_or ts (k - 1) []) place x))) (rw zeroth at (e 0 (omega arith)))
    ∙ values-front h place value other (k + 1) ps (set ts (k - 1) (with_value h (get_or ts (k - 1) []) place (value p))) (λ i less. rw (next i) at (e (suc i) (omega (arith, less))))

listed-firsts : (h : Head) (place : Place) (value : ℕ → ℤ) (ps : List ℕ) → firsts [] (edits_of h place (map (λ p. (p, value p)) ps)) ≡ ps
listed-firsts h place value [] = refl
listed-firsts h place value (p ∷ ps) = ap (λ qs. p ∷ qs) (listed-firsts h place value ps)

-- ---- a computed field

module _ (s : State) (ps : List ℕ) (up : AreRising 1 (count_of s.volume) ps) (some : 0 < length ps) where
  abbrev m : ℕ
  m = length ps

  abbrev front : State
  front = with_front s ps

  long : m + 1 - 1 ≡ m
  long = omega arith

  fits-in : m ≤ count_of front.volume
  fits-in = omega (arith, rising-few 1 (count_of s.volume) ps (omega arith) up, front-count s ps up some)

  -- the first refusal in front, told of the chosen traces, is what is refused of them
  pub compute-refused : (field : Field) (source : Operand) (steps : List (Operator × Operand)) → is_some (formula_of s.fields field source steps) ≡ true
      → option_map (retold ps) (first_refusal front (Compute 1 m field source steps)) ≡ refusal_of_edit s.volume s.fields (each.Compute field source steps) ps
  compute-refused field source steps has =
      ap (option_map (retold ps)) (compute_first front 1 m field source steps (omega arith) some fits-in)
      ∙ by (formula_of s.fields field source steps) has
    where
      by : (o : Option Formula) → is_some o ≡ true → option_map (retold ps) (compute_refusal_in front.volume o 1 m) ≡ option_map_or (λ f. first_at (compute_refusal s.volume f) ps) o None
      by None e = absurd cc
      by (Some f) e =
          ap (λ (n : ℕ). option_map (retold ps) (first_at (compute_refusal front.volume f) (range_with_len 1 n))) long
          ∙ first-retold (retold ps) (compute_refusal s.volume f) (compute_refusal front.volume f) 1 ps (λ i less. one-retold s.volume front.volume f ps i refl less (front-traces s ps up some i less))

  none-told : (o : Option Refusal) → o ≡ None → option_map (retold ps) o ≡ None
  none-told None e = refl
  none-told (Some r) e = absurd cc

  -- the volume in front, once all are brought back, is the cut of the bytes after the edit of the chosen traces
  pub compute-back : (field : Field) (source : Operand) (steps : List (Operator × Operand)) (new : State) → IsRead s → first_refusal front (Compute 1 m field source steps) ≡ None → IsAfter front (Compute 1 m field source steps) new
      → IsCut (bytes_after_each s.volume s.fields (each.Compute field source steps) ps) s.reading s.limits (with_places_swapped new.volume (pairs_back 1 ps))
  compute-back field source steps new read none after =
      let c = compute_accepted front 1 m field source steps none in
      let f : Formula = c.formula in
      let h : Head = s.volume.head in
      let ns : List (ℕ × ℤ) = map (λ p. (p, number_of s.volume f p)) ps in
      let made = values_cut front f.place (number_of front.volume f) 1 (m + 1 - 1) (read-front s ps read up) (accepted_numbers front 1 m field source steps c) in
      let numbers : computed_numbers front.volume f 1 m ≡ valued (number_of front.volume f) 1 (m + 1 - 1) = numbers_are front.volume f 1 (m + 1 - 1) c.none in
      let file : List ℕ = put_each front.volume f.place (valued (number_of front.volume f) 1 (m + 1 - 1)) (bytes_of front.volume) in
      let made-of : IsCut (bytes_after_compute front.volume f 1 m) s.reading s.limits new.volume = rw c.found at after.volume in
      let told : IsCut file s.reading s.limits new.volume = subst (λ (xs : List (ℕ × ℤ)). IsCut (put_each front.volume f.place xs (bytes_of front.volume)) s.reading s.limits new.volume) numbers made-of in
      let same : new.volume ≡ (with_traces front (with_values h f.place (number_of front.volume f) 1 (m + 1 - 1) front.volume.traces)).volume =
      at_most_one_cut file s.reading s.limits new.volume (with_traces front (with_values h f.place (number_of front.volume f) 1 (m + 1 - 1) front.volume.traces)).volume told made in
      let firsts-are : firsts [] (edits_of h f.place ns) ≡ ps = listed-firsts h f.place (number_of s.volume f) ps in
      let each-number : (i : ℕ) → i < m → number_of front.volume f (1 + i) ≡ number_of s.volume f (get_or ps i 0) =
      λ i less.
      ap (λ (t : List ℕ). number_or_zero (computed_in h f (1 + i) t)) (front-traces s ps up some i less)
      ∙ ap number_or_zero (computed-renamed h f (1 + i) (get_or ps i 0) (trace_at s.volume (get_or ps i 0)))
      ∙ same-number (1 + i) (computed_in h f (get_or ps i 0) (trace_at s.volume (get_or ps i 0))) in
      let back : with_swapped (with_values h f.place (number_of front.volume f) 1 (m + 1 - 1) front.volume.traces) (pairs_back 1 ps) ≡ with_listed h f.place ns s.volume.traces =
      ap (λ (k : ℕ). with_swapped (with_values h f.place (number_of front.volume f) 1 k front.volume.traces) (pairs_back 1 ps)) long
      ∙ ap (λ (ts : List (List ℕ)). with_swapped ts (pairs_back 1 ps)) (values-front h f.place (number_of s.volume f) (number_of front.volume f) 1 ps front.volume.traces each-number)
      ∙ ap (λ (qs : List ℕ). with_swapped (changed [] (in_front [] 1 (edits_of h f.place ns)) (with_swapped s.volume.traces (pairs_from 1 qs))) (pairs_back 1 qs)) (sym firsts-are)
      ∙ changed_in_front [] (edits_of h f.place ns) s.volume.traces 1 (omega arith) (subst (AreRising 1 (count_of s.volume)) (sym firsts-are) up)
      ∙ sym (listed-changed h f.place ns s.volume.traces) in
      let has : is_some (formula_of s.fields field source steps) ≡ true = rw c.found refl in
      let free : first_at (compute_refusal s.volume f) ps ≡ None = rw c.found at (sym (compute-refused field source steps has) ∙ none-told (first_refusal front (Compute 1 m field source steps)) none) in
      let listed = computed_listed s f 1 ps (omega arith) up free in
      let volume : with_places_swapped new.volume (pairs_back 1 ps) ≡ (with_traces s (with_listed h f.place ns s.volume.traces)).volume =
      ap (λ (v : Volume). with_places_swapped v (pairs_back 1 ps)) same ∙ ap (λ (ts : List (List ℕ)). let v : Volume = record s.volume { traces = ts } in v) back in
      subst (λ (v : Volume). IsCut (bytes_after_each s.volume s.fields (each.Compute field source steps) ps) s.reading s.limits v) (sym volume)
      (rw (c.found, listed.numbers) (listed_cut s f.place 1 ns read listed.listed))
