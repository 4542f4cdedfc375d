-- The slices whose numbers are kept after a field of many traces is counted up or computed are as they were.
use Rattle.std.proofs.Common.{◌≡◌, ℕ, ℤ, zero, suc, ◌+◌, ◌-◌, ◌<◌, Bool, true, false, cond, eqb, List, [], ◌∷◌, Option, Some, None, refl, sym, ap, ◌∙◌, arith}
use Rattle.std.specs.List.{list_any}
use Rattle.field_map.specs.declared.place.Place.{Place}
use Rattle.frame_cut.specs.declared.file_head.Head.{Head}
use Rattle.frame_cut.specs.Cuts.{IsCut}
use Rattle.frame_cut.specs.Traces.{trace_at}
use Rattle.frame_cut.specs.Volume.{Volume, bytes_of}
use Rattle.frame_cut.proofs.OneCutLemmas.{at_most_one_cut}
use Rattle.bench_rules.specs.declared.edit.Edit.TheVariants.{Set, Renumber, Compute}
use Rattle.bench_rules.specs.declared.field.Field.{Field}
use Rattle.bench_rules.specs.declared.operand.Operand.{Operand}
use Rattle.bench_rules.specs.declared.operator.Operator.{Operator}
use Rattle.bench_rules.specs.After.{bytes_after}
use Rattle.bench_rules.specs.Computed.{Formula}
use Rattle.bench_rules.specs.Kept.{same_cell, kept_after_compute, kept_after_set, kept_after_sets, kept_after_edit}
use Rattle.bench_rules.specs.Places.{place_in_trace}
use Rattle.bench_rules.specs.Refused.{first_refusal, with_value}
use Rattle.bench_rules.specs.Reports.{slice_in}
use Rattle.bench_rules.specs.State.{State}
use Rattle.bench_rules.specs.Steps.{IsAfter}
use Rattle.bench_rules.specs.TraceEdits.{counted}
use Rattle.bench_rules.proofs.ManyValueLemmas.{IsRead, IsAlike, alike_first, with_traces, with_one, one_value, with_values, valued}
use Rattle.bench_rules.proofs.RenumberLemmas.{accepted_from}
use Rattle.bench_rules.proofs.ComputeLemmas.{accepted_numbers, compute_accepted, number_of, numbers_are}
use Rattle.bench_rules.proofs.SetLemmas.{Accepted}
use Rattle.bench_laws.proofs.KeptSetLemmas.{Has, slice_after, set_stays}
use Rattle.bench_laws.proofs.RenumberingLemmas.{one_set, unplaced, counted_traces, cut_counted, computed_place, computed_traces, cut_computed}

-- ---- a number that is kept

-- a number that is kept where a condition holds was kept before
kept_before : (b : Bool) (kept : List ℕ) (j : ℕ) → Has j (cond b kept []) → Has j kept
kept_before true kept j e = e
kept_before false kept j e = absurd cc

-- a number that is kept after all the values was kept before them
kept_before_sets : (s : State) (place : Place) (ns : List (ℕ × ℤ)) (kept : List ℕ) (j : ℕ) → Has j (kept_after_sets s (Some place) ns kept) → Has j kept
kept_before_sets s place [] kept j e = e
kept_before_sets s place (n ∷ ns) kept j e =
    let h : Head = s.volume.head in
    let t : List ℕ = trace_at s.volume n.0 in
    kept_before (same_cell h s.fields t (with_value h t place n.1)) kept j (kept_before_sets s place ns (kept_after_set h s.fields t (Some place) n.1 kept) j e)

-- a set of trace k keeps what its value keeps in the old state
kept_alike : (s : State) (ts : List (List ℕ)) (k : ℕ) (f : Field) (place : Place) (x : ℤ) (kept : List ℕ) → place_in_trace s.fields f ≡ Some place → IsAlike s.volume.traces ts k
    → kept_after_edit (with_traces s ts) (Set k f x) kept ≡ kept_after_set s.volume.head s.fields (trace_at s.volume k) (Some place) x kept
kept_alike s ts k f place x kept e a =
    ap (λ (o : Option Place). kept_after_set s.volume.head s.fields (trace_at (with_traces s ts).volume k) o x kept) e
    ∙ ap (λ (t : List ℕ). kept_after_set s.volume.head s.fields t (Some place) x kept) (a.ahead k (omega arith))

-- ---- one value after another

slices_from : (s : State) (f : Field) (place : Place) (value : ℕ → ℤ) (k n : ℕ) (ts : List (List ℕ)) → place_in_trace s.fields f ≡ Some place → IsAlike s.volume.traces ts k → IsRead (with_traces s ts)
    → ((i : ℕ) → i < n → Accepted s.volume (k + i) place (value (k + i))) → (kept : List ℕ) (j : ℕ) → Has j (kept_after_sets s (Some place) (valued value k n) kept)
    → slice_in (with_traces s (with_values s.volume.head place value k n ts)) j ≡ slice_in (with_traces s ts) j
slices_from s f place value k zero ts e a cut ok kept j any = refl
slices_from s f place value k (suc n) ts e a cut ok kept j any =
    let here : k + 0 ≡ k = omega arith in
    let next : (i : ℕ) → k + suc i ≡ k + 1 + i = λ i. omega arith in
    let x : ℤ = value k in
    let zeroth : Accepted s.volume k place x = rw here at (ok 0 (omega arith)) in
    let one = one_value s ts k place x a cut zeroth in
    let set = one_set s ts k f place x e one.accepted one.after in
    let mid : List (List ℕ) = with_one s.volume.head ts k place x in
    let left : List ℕ = kept_after_set s.volume.head s.fields (trace_at s.volume k) (Some place) x kept in
    let before : Has j left = kept_before_sets s place (valued value (k + 1) n) left j any in
    let there : Has j (kept_after_edit (with_traces s ts) (Set k f x) kept) = ap (λ (l : List ℕ). list_any (λ i. eqb i j) l) (kept_alike s ts k f place x kept e a) ∙ before in
    slices_from s f place value (k + 1) n mid e one.alike one.read (λ i less. rw (next i) at (ok (suc i) (omega (arith, less)))) left j any
    ∙ set_stays (with_traces s ts) (with_traces s mid) k f x kept j cut set.none set.after there

-- ---- all of them

pub renumber_stays : (old new : State) (a b : ℕ) (f : Field) (first step : ℤ) (kept : List ℕ) (j : ℕ) → IsCut (bytes_of old.volume) old.reading old.limits old.volume → first_refusal old (Renumber a b f first step) ≡ None
    → IsAfter old (Renumber a b f first step) new → Has j (kept_after_edit old (Renumber a b f first step) kept) → slice_in new j ≡ slice_in old j
renumber_stays old new a b f first step kept j cut none after any = by (place_in_trace old.fields f) refl
  where
    by : (o : Option Place) → place_in_trace old.fields f ≡ o → slice_in new j ≡ slice_in old j
    by None e = absurd (unplaced old a b f first step e none)
    by (Some place) e =
        let w : Volume = (with_traces old (counted_traces old a b place first step)).volume in
        let one : new.volume ≡ w =
        at_most_one_cut (bytes_after old (Renumber a b f first step)) old.reading old.limits new.volume w after.volume (cut_counted old a b f first step place cut e none).volume in
        slice_after old new j w one after.fields
        ∙ slices_from old f place (λ p. counted first step (p - a)) a (b + 1 - a) old.volume.traces e (alike_first old.volume.traces a) cut (accepted_from old a b f first step place e none).each kept j (rw e at any)

pub compute_stays : (old new : State) (a b : ℕ) (field : Field) (source : Operand) (steps : List (Operator × Operand)) (kept : List ℕ) (j : ℕ) → IsCut (bytes_of old.volume) old.reading old.limits old.volume
    → first_refusal old (Compute a b field source steps) ≡ None → IsAfter old (Compute a b field source steps) new → Has j (kept_after_edit old (Compute a b field source steps) kept) → slice_in new j ≡ slice_in old j
compute_stays old new a b field source steps kept j cut none after any =
    let c = compute_accepted old a b field source steps none in
    let f : Formula = c.formula in
    let n : ℕ = b + 1 - a in
    let w : Volume = (with_traces old (computed_traces old a b f)).volume in
    let one : new.volume ≡ w =
    at_most_one_cut (bytes_after old (Compute a b field source steps)) old.reading old.limits new.volume w after.volume (cut_computed old a b field source steps cut c).volume in
    let left : kept_after_edit old (Compute a b field source steps) kept ≡ kept_after_sets old (Some f.place) (valued (number_of old.volume f) a n) kept =
    ap (λ (o : Option Formula). kept_after_compute old o a b kept) c.found
    ∙ ap (λ (ns : List (ℕ × ℤ)). kept_after_sets old (Some f.place) ns kept) (numbers_are old.volume f a n c.none) in
    slice_after old new j w one after.fields
    ∙ slices_from old field f.place (number_of old.volume f) a n old.volume.traces (computed_place old a b field source steps c) (alike_first old.volume.traces a) cut (accepted_numbers old a b field source steps c).each kept j
    (ap (λ (l : List ℕ). list_any (λ i. eqb i j) l) (sym left) ∙ any)
