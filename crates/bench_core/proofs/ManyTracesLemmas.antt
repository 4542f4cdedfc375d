-- A field of many traces counted up or computed leaves the numbers of the kept slices that it should: none, where a trace has another inline or crossline.
use Rattle.std.proofs.Common.{◌≡◌, ℕ, ℤ, zero, suc, ◌+◌, ◌-◌, ◌<◌, ◌≤◌, Bool, true, false, cond, ◌||◌, eqb, List, [], length, get_or, Option, Some, None, refl, sym, ap, subst, ◌∙◌, arith}
use Rattle.std.specs.Prelude.{not}
use Rattle.std.specs.List.{list_any, range_with_len}
use Rattle.std.proofs.lemmas.Bool.{eqb-true, eqb-false}
use Rattle.std.proofs.lemmas.List.{length-set, get_or-set_same, get_or-set_other}
use Rattle.field_map.specs.declared.place.Place.{Place}
use Rattle.frame_cut.specs.declared.file_head.Head.{Head}
use Rattle.frame_cut.specs.Cuts.{IsCut}
use Rattle.frame_cut.specs.Traces.{trace_at}
use Rattle.frame_cut.specs.Volume.{Volume, bytes_of}
use Rattle.frame_cut.proofs.OneCutLemmas.{at_most_one_cut}
use Rattle.bench_rules.specs.declared.edit.Edit.TheVariants.{Renumber, Compute}
use Rattle.bench_rules.specs.declared.field.Field.{Field}
use Rattle.bench_rules.specs.declared.operand.Operand.{Operand}
use Rattle.bench_rules.specs.declared.operator.Operator.{Operator}
use Rattle.bench_rules.specs.Computed.{Formula, computed_numbers}
use Rattle.bench_rules.specs.ComputedBytes.{bytes_after_compute}
use Rattle.bench_rules.specs.Kept.{same_cell, kept_after_compute, kept_after_edit, kept_after_sets}
use Rattle.bench_rules.specs.Places.{place_in_trace}
use Rattle.bench_rules.specs.Refused.{first_refusal, with_value}
use Rattle.bench_rules.specs.State.{State}
use Rattle.bench_rules.specs.Steps.{IsAfter}
use Rattle.bench_rules.specs.TraceEdits.{counted, bytes_after_renumber}
use Rattle.bench_rules.specs.TraceEdits.{put_each}
use Rattle.bench_rules.proofs.ComputeLemmas.{accepted_numbers, compute_accepted, number_of, numbers_are}
use Rattle.bench_rules.proofs.ManyValueLemmas.{AreAccepted, IsRead, valued, values_cut, with_values, with_one, with_traces}
use Rattle.bench_rules.proofs.RenumberLemmas.{accepted_from, renumber_accepted, renumber_no_field}
use Rattle.live_volume.specs.Held.{any_moves}

-- ---- the traces

-- those in front of the first that is changed stay
trace-before : (h : Head) (place : Place) (value : ℕ → ℤ) (k n : ℕ) (ts : List (List ℕ)) (p : ℕ) → 1 ≤ p → p < k → get_or (with_values h place value k n ts) (p - 1) [] ≡ get_or ts (p - 1) []
trace-before h place value k zero ts p low less = refl
trace-before h place value k (suc n) ts p low less =
    trace-before h place value (k + 1) n (with_one h ts k place (value k)) p low (omega (arith, less))
    ∙ get_or-set_other ts (k - 1) (p - 1) (with_value h (get_or ts (k - 1) []) place (value k)) [] (λ e. omega (arith, e, low, less))

-- each that is changed has its value
trace-with_value : (h : Head) (place : Place) (value : ℕ → ℤ) (k n : ℕ) (ts : List (List ℕ)) (p : ℕ) → 1 ≤ k → k ≤ p → p < k + n → k - 1 + n ≤ length ts
    → get_or (with_values h place value k n ts) (p - 1) [] ≡ with_value h (get_or ts (p - 1) []) place (value p)
trace-with_value h place value k zero ts p low from less last = absurd (omega (arith, from, less))
trace-with_value h place value k (suc n) ts p low from less last =
    by (λ behind. trace-with_value h place value (k + 1) n (with_one h ts k place (value k)) p (omega arith) behind (omega (arith, less)) (omega (arith, low, last, length-set ts (k - 1) (with_value h (get_or ts (k - 1) []) place (value k)))))
    (eqb k p) refl
  where
    u : List ℕ
    u = with_value h (get_or ts (k - 1) []) place (value k)

    -- what holds of the rest
    Again : Type 0
    Again = k + 1 ≤ p → get_or (with_values h place value (k + 1) n (with_one h ts k place (value k))) (p - 1) [] ≡ with_value h (get_or (with_one h ts k place (value k)) (p - 1) []) place (value p)

    by : Again → (b : Bool) → eqb k p ≡ b → get_or (with_values h place value (k + 1) n (with_one h ts k place (value k))) (p - 1) [] ≡ with_value h (get_or ts (p - 1) []) place (value p)
    by again true e =
        let same : k ≡ p = eqb-true k p e in
        subst (λ (q : ℕ). get_or (with_values h place value (k + 1) n (with_one h ts k place (value k))) (q - 1) [] ≡ with_value h (get_or ts (q - 1) []) place (value q)) same
        (trace-before h place value (k + 1) n (with_one h ts k place (value k)) k low (omega arith)
        ∙ get_or-set_same ts (k - 1) u [] (omega (arith, low, last)))
    by again false e =
        let other : k ≡ p → ⊥ = eqb-false k p e in
        let behind : k + 1 ≤ p = omega (arith, from, other) in
        again behind
        ∙ ap (λ (t : List ℕ). with_value h t place (value p)) (get_or-set_other ts (k - 1) (p - 1) u [] (λ e. omega (arith, e, low, behind)))

-- ---- the numbers

-- two tests that agree on a range find the same in it
any_alike : (f g : ℕ → Bool) (k n : ℕ) → ((p : ℕ) → k ≤ p → p < k + n → f p ≡ g p) → list_any f (range_with_len k n) ≡ list_any g (range_with_len k n)
any_alike f g k zero same = refl
any_alike f g k (suc n) same =
    rw (same k (omega arith) (omega arith), any_alike f g (k + 1) n (λ p low less. same p (omega (arith, low)) (omega (arith, less)))) refl

-- the value of trace p gives it another inline or crossline
abbrev moved_by : State → Place → (ℕ → ℤ) → ℕ → Bool
moved_by s place value p = not (same_cell s.volume.head s.fields (trace_at s.volume p) (with_value s.volume.head (trace_at s.volume p) place (value p)))

none_of_none : (b : Bool) → (let none : List ℕ = cond b [] [] in none) ≡ []
none_of_none true = refl
none_of_none false = refl

-- one such trace is enough that none stays
kept_sets : (s : State) (place : Place) (value : ℕ → ℤ) (k n : ℕ) (kept : List ℕ)
    → kept_after_sets s (Some place) (valued value k n) kept ≡ cond (list_any (moved_by s place value) (range_with_len k n)) [] kept
kept_sets s place value k zero kept = refl
kept_sets s place value k (suc n) kept =
    by (kept_sets s place value (k + 1) n) (same_cell s.volume.head s.fields (trace_at s.volume k) (with_value s.volume.head (trace_at s.volume k) place (value k)))
  where
    moved : Bool
    moved = list_any (moved_by s place value) (range_with_len (k + 1) n)

    by : ((kept : List ℕ) → kept_after_sets s (Some place) (valued value (k + 1) n) kept ≡ cond moved [] kept) → (b : Bool)
        → kept_after_sets s (Some place) (valued value (k + 1) n) (cond b kept []) ≡ cond (not b || moved) [] kept
    by again true = again kept
    by again false = again [] ∙ none_of_none moved

-- ---- the edits

-- values over a place of many traces, of which one moves its trace or none does
values_keep : (old new : State) (place : Place) (value : ℕ → ℤ) (a b : ℕ) (kept : List ℕ) → a ≤ b → IsRead old → AreAccepted old.volume place value a (b + 1 - a)
    → IsCut (put_each old.volume place (valued value a (b + 1 - a)) (bytes_of old.volume)) old.reading old.limits new.volume
    → cond (any_moves old new a b) [] kept ≡ kept_after_sets old (Some place) (valued value a (b + 1 - a)) kept
values_keep old new place value a b kept high cut ok there =
    let v : Volume = old.volume in
    let h : Head = v.head in
    let n : ℕ = b + 1 - a in
    let file : List ℕ = put_each v place (valued value a n) (bytes_of v) in
    let w : Volume = (with_traces old (with_values h place value a n v.traces)).volume in
    let same : new.volume ≡ w = at_most_one_cut file old.reading old.limits new.volume w there (values_cut old place value a n cut ok) in
    let each : (p : ℕ) → a ≤ p → p < a + n → trace_at new.volume p ≡ with_value h (trace_at v p) place (value p) =
    λ p low less. ap (λ (u : Volume). trace_at u p) same ∙ trace-with_value h place value a n v.traces p ok.low low less ok.last in
    let moved : any_moves old new a b ≡ list_any (moved_by old place value) (range_with_len a n) =
    any_alike _ _ a n (λ p low less. ap (λ (t : List ℕ). not (same_cell h old.fields (trace_at v p) t)) (each p low less)) in
    ap (λ (c : Bool). cond c [] kept) moved ∙ sym (kept_sets old place value a n kept)

pub numbers_of_many : (old new : State) (a b : ℕ) (f : Field) (first step : ℤ) (kept : List ℕ) → IsCut (bytes_of old.volume) old.reading old.limits old.volume
    → first_refusal old (Renumber a b f first step) ≡ None → IsAfter old (Renumber a b f first step) new
    → cond (any_moves old new a b) [] kept ≡ kept_after_edit old (Renumber a b f first step) kept
numbers_of_many old new a b f first step kept cut none after = by (place_in_trace old.fields f) refl
  where
    by : (o : Option Place) → place_in_trace old.fields f ≡ o → cond (any_moves old new a b) [] kept ≡ kept_after_edit old (Renumber a b f first step) kept
    by None e =
        let r = renumber_accepted old a b f first step none in
        let refused = renumber_no_field old a b f first step r.low r.high r.last e in
        let bad : None ≡ Some _ = sym none ∙ refused in
        absurd cc
    by (Some place) e =
        let r = renumber_accepted old a b f first step none in
        let there : IsCut (bytes_after_renumber old.volume a b place first step) old.reading old.limits new.volume = rw e at after.volume in
        rw e (values_keep old new place (λ p. counted first step (p - a)) a b kept r.high cut (accepted_from old a b f first step place e none) there)

pub numbers_of_computed : (old new : State) (a b : ℕ) (field : Field) (source : Operand) (steps : List (Operator × Operand)) (kept : List ℕ) → IsCut (bytes_of old.volume) old.reading old.limits old.volume
    → first_refusal old (Compute a b field source steps) ≡ None → IsAfter old (Compute a b field source steps) new
    → cond (any_moves old new a b) [] kept ≡ kept_after_edit old (Compute a b field source steps) kept
numbers_of_computed old new a b field source steps kept cut none after =
    let c = compute_accepted old a b field source steps none in
    let f : Formula = c.formula in
    let n : ℕ = b + 1 - a in
    let numbers : computed_numbers old.volume f a b ≡ valued (number_of old.volume f) a n = numbers_are old.volume f a n c.none in
    let made : IsCut (bytes_after_compute old.volume f a b) old.reading old.limits new.volume = rw c.found at after.volume in
    let there : IsCut (put_each old.volume f.place (valued (number_of old.volume f) a n) (bytes_of old.volume)) old.reading old.limits new.volume =
    subst (λ (ns : List (ℕ × ℤ)). IsCut (put_each old.volume f.place ns (bytes_of old.volume)) old.reading old.limits new.volume) numbers made in
    let left : kept_after_edit old (Compute a b field source steps) kept ≡ kept_after_sets old (Some f.place) (valued (number_of old.volume f) a n) kept =
    ap (λ (o : Option Formula). kept_after_compute old o a b kept) c.found
    ∙ ap (λ (ns : List (ℕ × ℤ)). kept_after_sets old (Some f.place) ns kept) numbers in
    values_keep old new f.place (number_of old.volume f) a b kept c.high cut (accepted_numbers old a b field source steps c) there ∙ sym left
