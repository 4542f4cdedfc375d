-- Traces that are chosen: they rise; and what an edit of them leaves is the cut of its bytes.
use Rattle.std.proofs.Common.{◌≡◌, ℕ, ℤ, zero, suc, ◌+◌, ◌-◌, ◌<◌, ◌≤◌, Bool, true, false, ◌&&◌, leb, List, [], ◌∷◌, length, map, filter, Option, Some, None, refl, sym, ap, subst, ◌∙◌, arith}
use Rattle.std.specs.Prelude.{not, is_some, option_map, option_and_then, filter_map, Ok, Err, Result, if◌then◌else◌}
use Rattle.std.specs.List.{enumerate_from, range_with_len, cons_option}
use Rattle.std.specs.Option.{option_or, option_map_or}
use Rattle.std.proofs.lemmas.Bool.{le-leb}
use Rattle.std.proofs.lemmas.List.Edits.{length-remove}
use Rattle.field_map.specs.declared.place.Place.{Place}
use Rattle.field_map.specs.Pairs.{Pairs}
use Rattle.frame_cut.specs.Cuts.{IsCut}
use Rattle.frame_cut.specs.Parts.{without}
use Rattle.frame_cut.specs.Traces.{count_of, is_trace, trace_at}
use Rattle.frame_cut.specs.Volume.{Volume, bytes_of}
use Rattle.frame_cut.proofs.EditLemmas.{cut_with_removed}
use Rattle.bench_rules.specs.declared.chosen.Chosen.{Chosen}
use Rattle.bench_rules.specs.declared.chosen_edit.ChosenEdit.{ChosenEdit}
use Rattle.bench_rules.specs.declared.chosen_edit.ChosenEdit.TheVariants.{Nothing, Renumber, Compute, Delete, Swap, Fill}
use Rattle.bench_rules.specs.declared.edit.Edit.TheVariants.{OfChosen}
use Rattle.bench_rules.specs.declared.field.Field.{Field}
use Rattle.bench_rules.specs.declared.operand.Operand.{Operand}
use Rattle.bench_rules.specs.declared.operator.Operator.{Operator}
use Rattle.bench_rules.specs.declared.refusal.Refusal.{Refusal}
use Rattle.bench_rules.specs.declared.refusal.Refusal.TheVariants as refusals
use Rattle.bench_rules.specs.declared.test.Test.{Test}
use Rattle.bench_rules.specs.After.{bytes_after}
use Rattle.bench_rules.specs.ChosenEdits.{bytes_after_each, bytes_with, chosen_refusal, computed_each, counted_each, has_fields, refusal_of_chosen, refusal_of_edit, refusal_under, without_each}
use Rattle.bench_rules.specs.Computed.{Formula, formula_of, computed_in, compute_refusal, first_at, number_at}
use Rattle.bench_rules.specs.Conditions.{AreRising, asked_tests, chosen, chosen_among, judged, lacks_values, meets, range_of, tests_of}
use Rattle.bench_rules.specs.FilledSamples.{filled}
use Rattle.bench_rules.specs.ManyTraces.{each_of, positions}
use Rattle.bench_rules.specs.Places.{place_in_trace}
use Rattle.bench_rules.specs.RangeRefusals.{no_trace, no_trace_from, range_refusal}
use Rattle.bench_rules.specs.Refused.{first_refusal, first_refusal_among, set_refusal}
use Rattle.bench_rules.specs.State.{State}
use Rattle.bench_rules.specs.SwappedFields.{changed_each, swap_refusal, swapped, two_places}
use Rattle.bench_rules.specs.TraceEdits.{counted, put_each}
use Rattle.bench_rules.proofs.ComputeLemmas.{number_of, number_there}
use Rattle.bench_rules.proofs.FillLemmas.{filled_cut}
use Rattle.bench_rules.proofs.FirstLemmas.{AreTraces, are_traces, both_none}
use Rattle.bench_rules.proofs.ListedLemmas.{AreListed, listed_cut, with_listed}
use Rattle.bench_rules.proofs.ManyValueLemmas.{IsRead, with_traces}
use Rattle.bench_rules.proofs.SetLemmas.{Accepted, accepted, refused_at}
use Rattle.bench_rules.proofs.SwapLemmas.{head-changed, swapped_cut}

-- ---- rising positions

-- positions that rise from one on rise from an earlier one on
pub rising-earlier : (k m n : ℕ) (qs : List ℕ) → m ≤ k → AreRising k n qs → AreRising m n qs
rising-earlier k m n [] less u = tt
rising-earlier k m n (q ∷ qs) less u = (omega (arith, less, u.0), u.1, u.2)

-- under a greater bound
pub rising-wider : (k n m : ℕ) (qs : List ℕ) → n ≤ m → AreRising k n qs → AreRising k m qs
rising-wider k n m [] less u = tt
rising-wider k n m (q ∷ qs) less u = (u.0, omega (arith, less, u.1), rising-wider (q + 1) n m qs less u.2)

-- they are no more than there are between
pub rising-few : (k n : ℕ) (qs : List ℕ) → k ≤ n + 1 → AreRising k n qs → k + length qs ≤ n + 1
rising-few k n [] less u = omega (arith, less)
rising-few k n (q ∷ qs) less u = omega (arith, rising-few (q + 1) n qs (omega (arith, u.1)) u.2, u.0)

-- those that are chosen of traces that follow one another rise
chosen-from : (v : Volume) (tests : List Test) (a m n : ℕ) (ps : List ℕ) → a + m ≤ n + 1 → chosen_among v tests (range_with_len a m) ≡ Some ps → AreRising a n ps
chosen-from v tests a zero n ps within e = subst (AreRising a n) (some-same e) tt
  where
    some-same : {X : Type 0} {x y : X} → (let o : Option X = Some x in o) ≡ Some y → x ≡ y
    some-same e = cc
chosen-from v tests a (suc m) n ps within e = by (meets v.head (trace_at v a) tests) (judged v tests (range_with_len (a + 1) m)) (λ qs h. chosen-from v tests (a + 1) m n qs (omega (arith, within)) h) e
  where
    pick : List (ℕ × Bool) → List ℕ
    pick js = map (λ j. j.0) (filter (λ j. j.1) js)

    here : (b : Bool) (js : List (ℕ × Bool)) → AreRising (a + 1) n (pick js) → AreRising a n (pick ((a, b) ∷ js))
    here true js rest = (omega arith, omega (arith, within), rest)
    here false js rest = rising-earlier (a + 1) a n (pick js) (omega arith) rest

    by : (o : Option Bool) (rest : Option (List (ℕ × Bool))) → ((qs : List ℕ) → option_map pick rest ≡ Some qs → AreRising (a + 1) n qs)
        → option_map pick (option_and_then (λ y. option_map (λ ys. y ∷ ys) rest) (option_map (λ b. (a, b)) o)) ≡ Some ps → AreRising a n ps
    by None rest again f = absurd cc
    by (Some b) None again f = absurd cc
    by (Some b) (Some js) again f =
        let is : pick ((a, b) ∷ js) ≡ ps = cc in
        subst (AreRising a n) is (here b js (again (pick js) refl))

-- ---- values of listed traces

module _ (s : State) where
  accept : (p : ℕ) (place : Place) (x : ℤ) → 1 ≤ p → p ≤ count_of s.volume → set_refusal s.volume.head (trace_at s.volume p) (Some place) x ≡ None → Accepted s.volume p place x
  accept p place x low high none =
      let here : is_trace s.volume p ≡ true = rw (le-leb 1 p low, le-leb p (count_of s.volume) high) refl in
      accepted s p place x (refused_at s p place x here ∙ none)

  -- values that are counted up and not refused are accepted
  pub counted_listed : (place : Place) (first step : ℤ) (k m : ℕ) (ps : List ℕ) → 1 ≤ m → AreRising m (count_of s.volume) ps
      → first_refusal_among s.volume (Some place) (counted_each first step k ps) ≡ None → AreListed s.volume place m (counted_each first step k ps)
  counted_listed place first step k m [] low up none = tt
  counted_listed place first step k m (p ∷ ps) low up none =
      let both = both_none _ _ none in
      (up.0, accept p place (counted first step k) (omega (arith, low, up.0)) up.1 both.0, counted_listed place first step (k + 1) (p + 1) ps (omega arith) up.2 both.1)

  -- the numbers that are computed and not refused are there, and accepted
  pub record ComputedListed (f : Formula) (m : ℕ) (ps : List ℕ) : Type 0 where
    pub numbers : computed_each s.volume f ps ≡ map (λ p. (p, number_of s.volume f p)) ps
    pub listed : AreListed s.volume f.place m (map (λ p. (p, number_of s.volume f p)) ps)

  pub computed_listed : (f : Formula) (m : ℕ) (ps : List ℕ) → 1 ≤ m → AreRising m (count_of s.volume) ps → first_at (compute_refusal s.volume f) ps ≡ None → ComputedListed f m ps
  computed_listed f m [] low up none = record { numbers = refl; listed = tt }
  computed_listed f m (p ∷ ps) low up none =
      let v : Volume = s.volume in
      let both = both_none _ _ none in
      let there = number_there v.head (trace_at v p) f.place (computed_in v.head f p (trace_at v p)) both.0 in
      let rest = computed_listed f (p + 1) ps (omega arith) up.2 both.1 in
      record {
        numbers = ap (λ (r : Result ℤ Refusal). cons_option (number_at p r) (computed_each v f ps)) there.0 ∙ ap (λ (ns : List (ℕ × ℤ)). (p, number_of v f p) ∷ ns) rest.numbers;
        listed = (up.0, accept p f.place (number_of v f p) (omega (arith, low, up.0)) up.1 there.1, rest.listed);
      }

  -- ---- traces taken out

  pub record IsWithout (ps : List ℕ) : Type 0 where
    pub count : count_of (without_each s.volume ps) + length ps ≡ count_of s.volume
    pub cut : IsRead s → IsCut (bytes_of (without_each s.volume ps)) s.reading s.limits (without_each s.volume ps)

  pub without_cut : (m : ℕ) (ps : List ℕ) → 1 ≤ m → AreRising m (count_of s.volume) ps → IsWithout ps
  without_cut m [] low up = record { count = omega arith; cut = λ read. read }
  without_cut m (p ∷ ps) low up =
      let w : Volume = without_each s.volume ps in
      let rest = without_cut (p + 1) ps (omega arith) up.2 in
      let few : p + 1 + length ps ≤ count_of s.volume + 1 = rising-few (p + 1) (count_of s.volume) ps (omega (arith, up.1)) up.2 in
      let there : p - 1 < length w.traces = omega (arith, few, rest.count, low, up.0) in
      record {
        count = omega (arith, length-remove w.traces (p - 1) there, rest.count);
        cut = λ read. cut_with_removed s.reading s.limits w (p - 1) (rest.cut read) there;
      }

-- ---- where the edit is not refused

-- the traces that are chosen, which rise, and what the edit does not refuse of them
pub record ChosenAccepted (s : State) (c : Chosen) (edit : ChosenEdit) : Type 0 where
  pub traces : List ℕ
  pub found : chosen s.volume s.fields c ≡ Some traces
  pub rising : AreRising 1 (count_of s.volume) traces
  pub has : has_fields s.fields edit ≡ true
  pub none : refusal_of_edit s.volume s.fields edit traces ≡ None

range-there : (s : State) (range : Option (ℕ × ℕ)) (tests : List Test) (ps : List ℕ) → range_refusal s.volume range ≡ None → chosen_among s.volume tests (range_of range) ≡ Some ps → AreRising 1 (count_of s.volume) ps
range-there s None tests ps free e = let none : [] ≡ ps = cc in subst (AreRising 1 (count_of s.volume)) none tt
range-there s (Some r) tests ps free e =
    let none = both_none (no_trace s.volume r.0) (no_trace_from s.volume r.0 r.1) free in
    let t : AreTraces s.volume r.0 r.1 None = are_traces s.volume r.0 r.1 None (rw (none.0, none.1) refl) in
    rising-earlier r.0 1 (count_of s.volume) ps t.low (chosen-from s.volume tests r.0 (r.1 + 1 - r.0) (count_of s.volume) ps (omega (arith, t.low, t.high, t.last)) e)

-- chosen traces rise, where those of the range are there
pub chosen_rising : (s : State) (c : Chosen) (ps : List ℕ) → range_refusal s.volume c.traces ≡ None → chosen s.volume s.fields c ≡ Some ps → AreRising 1 (count_of s.volume) ps
chosen_rising s c ps free e = by (asked_tests s.volume.head.format s.fields c.conditions) e
  where
    by : (o : Option (List Test)) → option_and_then (λ tests. chosen_among s.volume tests (range_of c.traces)) o ≡ Some ps → AreRising 1 (count_of s.volume) ps
    by None f = absurd cc
    by (Some tests) f = range-there s c.traces tests ps free f

-- where the range is there, the edit's fields have places and these are chosen, what the edit refuses of them is its first refusal
pub chosen_first : (s : State) (c : Chosen) (edit : ChosenEdit) (ps : List ℕ) → range_refusal s.volume c.traces ≡ None → has_fields s.fields edit ≡ true → chosen s.volume s.fields c ≡ Some ps
    → first_refusal s (OfChosen c edit) ≡ refusal_of_edit s.volume s.fields edit ps
chosen_first s c edit ps free has e = rw (free, has) (by (tests_of s.fields c.conditions) e)
  where
    among : List Test → Option (List ℕ)
    among tests = chosen_among s.volume tests (range_of c.traces)

    asked : (tests : List Test) (lacks : Bool) → option_and_then among (if lacks then None else Some tests) ≡ Some ps
        → (if lacks then Some refusals.NoValues else refusal_of_chosen s.volume s.fields edit (among tests)) ≡ refusal_of_edit s.volume s.fields edit ps
    asked tests true f = absurd cc
    asked tests false f = ap (λ (o : Option (List ℕ)). refusal_of_chosen s.volume s.fields edit o) f

    by : (o : Option (List Test)) → option_and_then among (option_and_then (λ tests. if lacks_values s.volume.head.format tests then None else Some tests) o) ≡ Some ps
        → refusal_under s.volume s.fields c.traces edit o ≡ refusal_of_edit s.volume s.fields edit ps
    by None f = absurd cc
    by (Some tests) f = asked tests (lacks_values s.volume.head.format tests) f

unless-not : (b : Bool) (r : Refusal) (o : Option Refusal) → (if not b then Some r else o) ≡ None → (b ≡ true) × (o ≡ None)
unless-not true r o e = (refl, e)
unless-not false r o e = absurd cc

pub chosen_accepted : (s : State) (c : Chosen) (edit : ChosenEdit) → first_refusal s (OfChosen c edit) ≡ None → ChosenAccepted s c edit
chosen_accepted s c edit e =
    let free = both_none _ _ e in
    let has = unless-not (has_fields s.fields edit) refusals.NoField _ free.1 in
    by-tests (tests_of s.fields c.conditions) refl free.0 has.0 has.1
  where
    by-traces : (tests : List Test) (o : Option (List ℕ)) → asked_tests s.volume.head.format s.fields c.conditions ≡ Some tests → chosen_among s.volume tests (range_of c.traces) ≡ o → range_refusal s.volume c.traces ≡ None → has_fields s.fields edit ≡ true
        → refusal_of_chosen s.volume s.fields edit o ≡ None → ChosenAccepted s c edit
    by-traces tests None t f free has none = absurd cc
    by-traces tests (Some ps) t f free has none =
        let found : chosen s.volume s.fields c ≡ Some ps = rw t f in
        record { traces = ps; found = found; rising = chosen_rising s c ps free found; has = has; none = none }

    asks : List Test → Option (List Test)
    asks tests = if lacks_values s.volume.head.format tests then None else Some tests

    asked : (tests : List Test) (lacks : Bool) → lacks_values s.volume.head.format tests ≡ lacks → asked_tests s.volume.head.format s.fields c.conditions ≡ asks tests → range_refusal s.volume c.traces ≡ None
        → has_fields s.fields edit ≡ true → (if lacks then Some refusals.NoValues else refusal_of_chosen s.volume s.fields edit (chosen_among s.volume tests (range_of c.traces))) ≡ None → ChosenAccepted s c edit
    asked tests true l t free has none = absurd cc
    asked tests false l t free has none =
        by-traces tests (chosen_among s.volume tests (range_of c.traces)) (t ∙ ap (λ (b : Bool). let o : Option (List Test) = if b then None else Some tests in o) l) refl free has none

    by-tests : (o : Option (List Test)) → tests_of s.fields c.conditions ≡ o → range_refusal s.volume c.traces ≡ None → has_fields s.fields edit ≡ true
        → refusal_under s.volume s.fields c.traces edit o ≡ None → ChosenAccepted s c edit
    by-tests None t free has none = absurd cc
    by-tests (Some tests) t free has none = asked tests (lacks_values s.volume.head.format tests) refl (ap (λ (o : Option (List Test)). option_and_then asks o) t) free has none

-- ---- the volume behind the edit

head-without : (v : Volume) (ps : List ℕ) → (without_each v ps).head ≡ v.head
head-without v [] = refl
head-without v (p ∷ ps) = head-without v ps

-- what it leaves of these traces, where it is not refused
pub record LeavesCut (s : State) (edit : ChosenEdit) (ps : List ℕ) : Type 0 where
  pub volume : Volume
  pub cut : IsCut (bytes_after_each s.volume s.fields edit ps) s.reading s.limits volume
  pub head : volume.head ≡ s.volume.head

pub each_cut : (s : State) (edit : ChosenEdit) (ps : List ℕ) → IsRead s → AreRising 1 (count_of s.volume) ps → has_fields s.fields edit ≡ true → refusal_of_edit s.volume s.fields edit ps ≡ None → LeavesCut s edit ps
each_cut s (Nothing names) ps read up has none = record { volume = s.volume; cut = read; head = refl }
each_cut s (Renumber field first step) ps read up has none = by (place_in_trace s.fields field) refl
  where
    by : (o : Option Place) → place_in_trace s.fields field ≡ o → LeavesCut s (Renumber field first step) ps
    by None e = let no : false ≡ true = rw e at has in absurd cc
    by (Some place) e =
        let ns : List (ℕ × ℤ) = counted_each first step 0 ps in
        let free : first_refusal_among s.volume (Some place) ns ≡ None = rw e at none in
        record {
          volume = (with_traces s (with_listed s.volume.head place ns s.volume.traces)).volume;
          cut = rw e (listed_cut s place 1 ns read (counted_listed s place first step 0 1 ps (omega arith) up free));
          head = refl;
        }
each_cut s (Compute field source steps) ps read up has none = by (formula_of s.fields field source steps) refl
  where
    by : (o : Option Formula) → formula_of s.fields field source steps ≡ o → LeavesCut s (Compute field source steps) ps
    by None e = let no : false ≡ true = rw e at has in absurd cc
    by (Some f) e =
        let free : first_at (compute_refusal s.volume f) ps ≡ None = rw e at none in
        let c = computed_listed s f 1 ps (omega arith) up free in
        let ns : List (ℕ × ℤ) = map (λ p. (p, number_of s.volume f p)) ps in
        record {
          volume = (with_traces s (with_listed s.volume.head f.place ns s.volume.traces)).volume;
          cut = rw (e, c.numbers) (listed_cut s f.place 1 ns read c.listed);
          head = refl;
        }
each_cut s Delete ps read up has none = record { volume = without_each s.volume ps; cut = (without_cut s 1 ps (omega arith) up).cut read; head = head-without s.volume ps }
each_cut s (Swap first second) ps read up has none = by (two_places s.fields first second) refl
  where
    by : (o : Option (Place × Place)) → two_places s.fields first second ≡ o → LeavesCut s (Swap first second) ps
    by None e = let no : false ≡ true = rw e at has in absurd cc
    by (Some places) e =
        let free : first_at (λ p. swap_refusal s.volume.head places (trace_at s.volume p)) ps ≡ None = rw e at none in
        record {
          volume = changed_each (swapped s.volume.head places) s.volume ps;
          cut = rw e (swapped_cut s places ps read up free);
          head = head-changed (swapped s.volume.head places) s.volume ps;
        }
each_cut s (Fill first last x) ps read up has none =
    record {
      volume = changed_each (filled s.volume.head first last x) s.volume ps;
      cut = filled_cut s first last x ps read up none;
      head = head-changed (filled s.volume.head first last x) s.volume ps;
    }

-- an edit that is not refused leaves a file that is cut
pub chosen_cut : (s : State) (c : Chosen) (edit : ChosenEdit) → IsRead s → first_refusal s (OfChosen c edit) ≡ None → (v : Volume) × IsCut (bytes_after s (OfChosen c edit)) s.reading s.limits v × (v.head ≡ s.volume.head)
chosen_cut s c edit read e =
    let a = chosen_accepted s c edit e in
    let l = each_cut s edit a.traces read a.rising a.has a.none in
    (l.volume, rw a.found l.cut, l.head)
