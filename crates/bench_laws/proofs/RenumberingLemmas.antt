-- A field of many traces counted up or computed is what the sets of each trace's value make, each of them done.
use Rattle.std.proofs.Common.{◌≡◌, ℕ, ℤ, zero, suc, ◌+◌, ◌-◌, ◌<◌, List, Option, Some, None, Ok, refl, sym, ap, subst, ◌∙◌, arith}
use Rattle.std.specs.Prelude.{option_map, option_and_then}
use Rattle.field_map.specs.Pairs.{Pairs}
use Rattle.field_map.specs.declared.place.Place.{Place}
use Rattle.frame_cut.specs.Cuts.{IsCut}
use Rattle.frame_cut.specs.Volume.{Volume}
use Rattle.bench_rules.specs.declared.edit.Edit.TheVariants.{Set, Renumber, Compute}
use Rattle.bench_rules.specs.declared.field.Field.{Field}
use Rattle.bench_rules.specs.declared.operand.Operand.{Operand}
use Rattle.bench_rules.specs.declared.operator.Operator.{Operator}
use Rattle.bench_rules.specs.declared.field.Field.TheVariants as field
use Rattle.bench_rules.specs.declared.refusal.Refusal.{Refusal}
use Rattle.bench_rules.specs.declared.refusal.Refusal.TheVariants as refusals
use Rattle.bench_rules.specs.Computed.{Formula, formula_of, steps_of, term_of}
use Rattle.bench_rules.specs.declared.term.Term.{Term}
use Rattle.bench_rules.specs.Places.{place_in_trace}
use Rattle.bench_rules.specs.Refused.{first_refusal}
use Rattle.bench_rules.specs.State.{State}
use Rattle.bench_rules.specs.Steps.{IsAfter, StepUnless, Step, Steps}
use Rattle.bench_rules.specs.TraceEdits.{counted, numbers, bytes_after_renumber}
use Rattle.bench_rules.proofs.HeaderEditLemmas.{same_refused, same_after}
use Rattle.bench_rules.proofs.ManyValueLemmas.{IsRead, IsAlike, alike_first, with_traces, with_one, one_value, with_values, valued, values_cut}
use Rattle.bench_rules.proofs.RenumberLemmas.{accepted_from, renumber_accepted, renumber_no_field}
use Rattle.bench_rules.proofs.ComputeLemmas.{ComputeAccepted, accepted_numbers, compute_accepted, compute_is_after, number_of, numbers_are}
use Rattle.bench_rules.proofs.SetLemmas.{Accepted, not_refused}
use Rattle.bench_laws.specs.NumberLaws.{RenumberIsItsSets, ComputeIsItsSets, numbers_of, sets_of, all_done}

-- ---- one set

-- the set is done
pub record OneSet (s : State) (ts : List (List ℕ)) (k : ℕ) (f : Field) (place : Place) (x : ℤ) : Type 0 where
  pub none : first_refusal (with_traces s ts) (Set k f x) ≡ None
  pub after : IsAfter (with_traces s ts) (Set k f x) (with_traces s (with_one s.volume.head ts k place x))
  pub step : Step {T = Option ℕ} (with_traces s ts) (Set k f x) (Ok None) (with_traces s (with_one s.volume.head ts k place x))

pub one_set : (s : State) (ts : List (List ℕ)) (k : ℕ) (f : Field) (place : Place) (x : ℤ) → place_in_trace s.fields f ≡ Some place → Accepted (with_traces s ts).volume k place x
    → IsAfter (with_traces s ts) (Set k (field.Place place) x) (with_traces s (with_one s.volume.head ts k place x)) → OneSet s ts k f place x
one_set s ts k f place x e ok after =
    let mid : State = with_traces s ts in
    let new : State = with_traces s (with_one s.volume.head ts k place x) in
    let none : first_refusal mid (Set k f x) ≡ None = same_refused mid k f place x e ∙ not_refused mid k place x ok in
    let same : IsAfter mid (Set k f x) new = same_after mid k f place x new e after in
    record {
      none = none;
      after = same;
      step = subst (λ (o : Option Refusal). StepUnless {T = Option ℕ} o mid (Set k f x) (Ok None) new) (sym none) same;
    }

-- ---- one set after another

steps_from : (s : State) (f : Field) (place : Place) (value : ℕ → ℤ) (k n : ℕ) (ts : List (List ℕ)) → place_in_trace s.fields f ≡ Some place → IsAlike s.volume.traces ts k → IsRead (with_traces s ts)
    → ((i : ℕ) → i < n → Accepted s.volume (k + i) place (value (k + i)))
    → Steps (with_traces s ts) (sets_of f (valued value k n)) (all_done (valued value k n)) (with_traces s (with_values s.volume.head place value k n ts))
steps_from s f place value k zero ts e a cut ok = refl
steps_from s f place value k (suc n) ts e a cut ok =
    let here : k + 0 ≡ k = omega arith in
    let next : (i : ℕ) → k + suc i ≡ k + 1 + i = λ i. omega arith in
    let zeroth : Accepted s.volume k place (value k) = rw here at (ok 0 (omega arith)) in
    let one = one_value s ts k place (value k) a cut zeroth in
    let set = one_set s ts k f place (value k) e one.accepted one.after in
    let mid : List (List ℕ) = with_one s.volume.head ts k place (value k) in
    (with_traces s mid, set.step, steps_from s f place value (k + 1) n mid e one.alike one.read (λ i less. rw (next i) at (ok (suc i) (omega (arith, less)))))

-- ---- all of them

-- a field without a place is refused
pub unplaced : (s : State) (a b : ℕ) (f : Field) (first step : ℤ) → place_in_trace s.fields f ≡ None → first_refusal s (Renumber a b f first step) ≡ None → ⊥
unplaced s a b f first step e none =
    let r = renumber_accepted s a b f first step none in
    let refused : first_refusal s (Renumber a b f first step) ≡ Some refusals.NoField = renumber_no_field s a b f first step r.low r.high r.last e in
    let no : (let o : Option Refusal = None in o) ≡ Some refusals.NoField = sym none ∙ refused in
    absurd cc

-- the traces with each value over the place
abbrev pub counted_traces : State → (a b : ℕ) → Place → (first step : ℤ) → List (List ℕ)
counted_traces s a b place first step = with_values s.volume.head place (λ p. counted first step (p - a)) a (b + 1 - a) s.volume.traces

-- their volume is the cut of the bytes after the edit
pub cut_counted : (s : State) (a b : ℕ) (f : Field) (first step : ℤ) (place : Place) → IsRead s → place_in_trace s.fields f ≡ Some place → first_refusal s (Renumber a b f first step) ≡ None
    → IsAfter s (Renumber a b f first step) (with_traces s (counted_traces s a b place first step))
cut_counted s a b f first step place cut e none =
    let w : Volume = (with_traces s (counted_traces s a b place first step)).volume in
    let volume : IsCut (bytes_after_renumber s.volume a b place first step) s.reading s.limits w =
    values_cut s place (λ p. counted first step (p - a)) a (b + 1 - a) cut (accepted_from s a b f first step place e none) in
    record { volume = rw e volume; fields = refl; reading = refl; limits = refl; on_disk = refl }

pub renumber_is_its_sets : RenumberIsItsSets
renumber_is_its_sets s a b f first step cut none = by (place_in_trace s.fields f) refl
  where
    by : (o : Option Place) → place_in_trace s.fields f ≡ o
        → (new : State) × Steps s (sets_of f (numbers a b first step)) (all_done (numbers a b first step)) new × IsAfter s (Renumber a b f first step) new
    by None e = absurd (unplaced s a b f first step e none)
    by (Some place) e =
        let steps = steps_from s f place (λ p. counted first step (p - a)) a (b + 1 - a) s.volume.traces e (alike_first s.volume.traces a) cut (accepted_from s a b f first step place e none).each in
        (with_traces s (counted_traces s a b place first step), steps, cut_counted s a b f first step place cut e none)

-- ---- a computed field

-- the traces with each number over the place
abbrev pub computed_traces : State → (a b : ℕ) → Formula → List (List ℕ)
computed_traces s a b f = with_values s.volume.head f.place (number_of s.volume f) a (b + 1 - a) s.volume.traces

-- their volume is the cut of the bytes after the edit
pub cut_computed : (s : State) (a b : ℕ) (field : Field) (source : Operand) (steps : List (Operator × Operand)) → IsRead s → (c : ComputeAccepted s a b field source steps)
    → IsAfter s (Compute a b field source steps) (with_traces s (computed_traces s a b c.formula))
cut_computed s a b field source steps cut c =
    compute_is_after s a b field source steps (with_traces s (computed_traces s a b c.formula)).volume c
    (values_cut s c.formula.place (number_of s.volume c.formula) a (b + 1 - a) cut (accepted_numbers s a b field source steps c))

place_of : (fields : Pairs) (field : Field) (source : Operand) (steps : List (Operator × Operand)) (f : Formula) → formula_of fields field source steps ≡ Some f → place_in_trace fields field ≡ Some f.place
place_of fields field source steps f e = by (place_in_trace fields field) (term_of fields source) (steps_of fields steps) e
  where
    from : (place : Place) (g : Formula) → g.place ≡ place → (let o : Option Formula = Some g in o) ≡ Some f → (let o : Option Place = Some place in o) ≡ Some f.place
    from place g same e = let is : g ≡ f = cc in ap (λ (p : Place). let o : Option Place = Some p in o) (sym same ∙ ap (λ (h : Formula). h.place) is)

    by : (o : Option Place) (t : Option Term) (ss : Option (List (Operator × Term)))
        → option_and_then (λ place. option_and_then (λ term. option_map (λ ss. record { place = place; source = term; steps = ss }) ss) t) o ≡ Some f → o ≡ Some f.place
    by None t ss e = absurd cc
    by (Some place) None ss e = absurd cc
    by (Some place) (Some term) None e = absurd cc
    by (Some place) (Some term) (Some ss) e = from place (record { place = place; source = term; steps = ss }) refl e

-- the field's place is that of the computation
pub computed_place : (s : State) (a b : ℕ) (field : Field) (source : Operand) (steps : List (Operator × Operand)) → (c : ComputeAccepted s a b field source steps) → place_in_trace s.fields field ≡ Some c.formula.place
computed_place s a b field source steps c = place_of s.fields field source steps c.formula c.found

pub compute_is_its_sets : ComputeIsItsSets
compute_is_its_sets s a b field source steps cut none =
    let c = compute_accepted s a b field source steps none in
    let f : Formula = c.formula in
    let ns : List (ℕ × ℤ) = numbers_of s.volume (formula_of s.fields field source steps) a b in
    let same : ns ≡ valued (number_of s.volume f) a (b + 1 - a) = ap (λ (o : Option Formula). numbers_of s.volume o a b) c.found ∙ numbers_are s.volume f a (b + 1 - a) c.none in
    let new : State = with_traces s (computed_traces s a b f) in
    let done = steps_from s field f.place (number_of s.volume f) a (b + 1 - a) s.volume.traces (computed_place s a b field source steps c) (alike_first s.volume.traces a) cut (accepted_numbers s a b field source steps c).each in
    (new, subst (λ (ms : List (ℕ × ℤ)). Steps s (sets_of field ms) (all_done ms) new) (sym same) done, cut_computed s a b field source steps cut c)
