-- A field of many traces computed: what is known where its bytes are laid over the traces.
use Rattle.std.proofs.Common.{◌≡◌, ◌⊎◌, ℕ, ℤ, ◌+◌, ◌-◌, ◌*◌, ◌<◌, ◌≤◌, List, Option, Some, None, inl, inr, refl, sym, ap, subst, ◌∙◌, arith}
use Rattle.std.specs.Prelude.{option_map, option_and_then, Result, Err}
use Rattle.std.proofs.lemmas.Bool.{le-leb}
use Rattle.std.specs.List.{flat_map}
use Rattle.std.specs.Option.{option_or}
use Rattle.num_order.specs.Number.{bytes}
use Rattle.field_map.specs.declared.place.Place.{Place}
use Rattle.field_map.specs.Pairs.{Pairs}
use Rattle.field_map.specs.Places.{offset_of}
use Rattle.frame_cut.specs.Parts.{with_each}
use Rattle.frame_cut.specs.Traces.{count_of}
use Rattle.frame_cut.specs.Volume.{Volume}
use Rattle.edit_overlay.specs.CountedVolume.{RisesAtMost}
use Rattle.bench_rules.specs.declared.edit.Edit.TheVariants.{Compute}
use Rattle.bench_rules.specs.declared.field.Field.{Field}
use Rattle.bench_rules.specs.declared.operand.Operand.{Operand}
use Rattle.bench_rules.specs.declared.operator.Operator.{Operator}
use Rattle.bench_rules.specs.declared.refusal.Refusal.{Refusal}
use Rattle.bench_rules.specs.declared.term.Term.{Term}
use Rattle.bench_rules.specs.Computed.{Formula, compute_refusal_in, formula_of, steps_of, term_of}
use Rattle.bench_rules.specs.Looks.{edit_looks, looks_at, range_looks}
use Rattle.bench_rules.specs.Places.{place_in_trace}
use Rattle.bench_rules.specs.ReadFaults.{IsReadRefusal}
use Rattle.bench_rules.specs.Refused.{first_refusal, no_trace, no_trace_from}
use Rattle.bench_rules.specs.State.{State}
use Rattle.bench_rules.specs.Steps.{IsAfter, Step}
use Rattle.bench_rules.proofs.ComputeLemmas.{accepted_numbers, compute_accepted, compute_done, compute_first, number_of, numbers_are}
use Rattle.bench_rules.proofs.FirstLemmas.{AreTraces, are_traces, both_none}
use Rattle.bench_rules.proofs.ManyValueLemmas.{IsRead, ValuesFitIn, bytes_from, values_fit_in}
use Rattle.many_traces.specs.Formulas.{formula_at, number_bytes, IsRefusalFor}
use Rattle.many_traces.proofs.NumbersLemmas.{of_valued}
use Rattle.live_volume.proofs.HeldLemmas.{told_for, told_of_read}

-- traces a to b are there, where nothing refuses them
pub in_range : (v : Volume) (a b : ℕ) → None ≡ option_or (no_trace v a) (no_trace_from v a b) → AreTraces v a b None
in_range v a b e =
    let none = both_none (no_trace v a) (no_trace_from v a b) (sym e) in
    are_traces v a b None (rw (none.0, none.1) refl)

-- the computation over the field's place
formula_is : (s : State) (field : Field) (source : Operand) (steps : List (Operator × Operand)) (place : Place) → Some place ≡ place_in_trace s.fields field → formula_of s.fields field source steps ≡ formula_at s.fields place source steps
formula_is s field source steps place e = rw (← e) refl

first_is : (s : State) (a b : ℕ) (field : Field) (source : Operand) (steps : List (Operator × Operand)) (place : Place) → AreTraces s.volume a b None → Some place ≡ place_in_trace s.fields field
    → first_refusal s (Compute a b field source steps) ≡ compute_refusal_in s.volume (formula_at s.fields place source steps) a b
first_is s a b field source steps place t e =
    compute_first s a b field source steps t.low t.high t.last ∙ ap (λ (o : Option Formula). compute_refusal_in s.volume o a b) (formula_is s field source steps place e)

place_of_formula : (fields : Pairs) (place : Place) (source : Operand) (steps : List (Operator × Operand)) (f : Formula) → formula_at fields place source steps ≡ Some f → f.place ≡ place
place_of_formula fields place source steps f e = by (term_of fields source) (steps_of fields steps) e
  where
    from : (g : Formula) → g.place ≡ place → (let o : Option Formula = Some g in o) ≡ Some f → f.place ≡ place
    from g same e = let is : g ≡ f = cc in ap (λ (h : Formula). h.place) (sym is) ∙ same

    by : (o : Option Term) (ss : Option (List (Operator × Term))) → option_and_then (λ term. option_map (λ ss. record { place = place; source = term; steps = ss }) ss) o ≡ Some f → f.place ≡ place
    by None ss e = absurd cc
    by (Some term) None e = absurd cc
    by (Some term) (Some ss) e = from (record { place = place; source = term; steps = ss }) refl e

-- the bytes may be laid over the traces, and the volume with them is the one behind the edit
pub record Lays (s : State) (a b : ℕ) (field : Field) (source : Operand) (steps : List (Operator × Operand)) (place : Place) (at size : ℕ) (bs : List ℕ) : Type 0 where
  pub none : first_refusal s (Compute a b field source steps) ≡ None
  pub fits : ValuesFitIn s a (b + 1 - a) at size bs
  pub done : IsAfter s (Compute a b field source steps) (record s { volume = with_each s.volume a at size bs })

pub lays : (s : State) (a b : ℕ) (field : Field) (source : Operand) (steps : List (Operator × Operand)) (place : Place) (at size : ℕ) (bs : List ℕ) → IsRead s → AreTraces s.volume a b None → Some place ≡ place_in_trace s.fields field
    → compute_refusal_in s.volume (formula_at s.fields place source steps) a b ≡ None → at ≡ offset_of place → size ≡ place.kind.size → bs ≡ number_bytes s.volume (formula_at s.fields place source steps) a b
    → Lays s a b field source steps place at size bs
lays s a b field source steps place at size bs cut t e none g h is =
    let first : first_refusal s (Compute a b field source steps) ≡ None = first_is s a b field source steps place t e ∙ none in
    let c = compute_accepted s a b field source steps first in
    let v : Volume = s.volume in
    let f : Formula = c.formula in
    let found : formula_at s.fields place source steps ≡ Some f = sym (formula_is s field source steps place e) ∙ c.found in
    let same : f.place ≡ place = place_of_formula s.fields place source steps f found in
    let n : ℕ = b + 1 - a in
    let there : bs ≡ bytes_from v.head.order f.place.kind (number_of v f) a n =
    is
    ∙ ap (λ (o : Option Formula). number_bytes v o a b) found
    ∙ ap (λ (ns : List (ℕ × ℤ)). flat_map (λ (m : ℕ × ℤ). bytes v.head.order f.place.kind m.1) ns) (numbers_are v f a n c.none)
    ∙ of_valued v.head.order f.place.kind (number_of v f) a n in
    let at_is : at ≡ offset_of f.place = g ∙ ap offset_of (sym same) in
    let size_is : size ≡ f.place.kind.size = h ∙ ap (λ (p : Place). p.kind.size) (sym same) in
    record {
      none = first;
      fits = values_fit_in s f.place (number_of v f) a n at size bs cut (accepted_numbers s a b field source steps c) at_is size_is there;
      done = compute_done s a b field source steps at size bs (with_each v a at size bs) cut c at_is size_is there refl;
    }

-- ---- looks, and what is told

-- all traces of the range are there, so each may be looked at
pub all_looks : (v : Volume) (a b : ℕ) → AreTraces v a b None → range_looks v a b ≡ b + 1 - a
all_looks v a b t = rw (le-leb 1 a t.low, le-leb a (count_of v) (omega (arith, t.high, t.last)), le-leb a b t.high, le-leb b (count_of v) t.last) refl

more_looks : {X : Type 0} (o : Option X) (n : ℕ) → 0 < looks_at o n → 0 < looks_at o (2 * n)
more_looks None n some = absurd (omega (arith, some))
more_looks (Some x) n some = omega (arith, some)

-- as many looks again are within the looks of the edit
looks_twice : {X : Type 0} (o : Option X) (n : ℕ) → 0 < looks_at o n → looks_at o n + n ≤ looks_at o (2 * n)
looks_twice None n some = absurd (omega (arith, some))
looks_twice (Some x) n some = omega arith

pub computed_twice : (s : State) (a b : ℕ) (field : Field) (source : Operand) (steps : List (Operator × Operand)) (place : Place) (old mid new : ℕ) → AreTraces s.volume a b None → Some place ≡ place_in_trace s.fields field
    → 0 < looks_at (formula_at s.fields place source steps) (b + 1 - a) → RisesAtMost old mid (looks_at (formula_at s.fields place source steps) (b + 1 - a)) → RisesAtMost mid new (b - a + 1)
    → RisesAtMost old new (edit_looks s (Compute a b field source steps))
computed_twice s a b field source steps place old mid new t e some first second =
    let all : edit_looks s (Compute a b field source steps) ≡ looks_at (formula_at s.fields place source steps) (2 * (b + 1 - a)) =
    ap (λ (o : Option Formula). looks_at o (2 * range_looks s.volume a b)) (formula_is s field source steps place e) ∙ ap (λ (n : ℕ). looks_at (formula_at s.fields place source steps) (2 * n)) (all_looks s.volume a b t) in
    let twice = looks_twice (formula_at s.fields place source steps) (b + 1 - a) some in
    (omega (arith, first, second), omega (arith, first, second, all, twice, t.high))

-- a computation that nothing refuses may look
pub computed_looks : (s : State) (a b : ℕ) (field : Field) (source : Operand) (steps : List (Operator × Operand)) → AreTraces s.volume a b None → first_refusal s (Compute a b field source steps) ≡ None
    → 0 < edit_looks s (Compute a b field source steps)
computed_looks s a b field source steps t none =
    let c = compute_accepted s a b field source steps none in
    rw (c.found, all_looks s.volume a b t) (omega (arith, t.high))

-- a refusal that is told is a step
pub compute_told : (T : Type 0) (s new : State) (a b : ℕ) (field : Field) (source : Operand) (steps : List (Operator × Operand)) (place : Place) (refusal : Refusal) → AreTraces s.volume a b None → Some place ≡ place_in_trace s.fields field
    → (IsReadRefusal s.on_disk refusal × (0 < looks_at (formula_at s.fields place source steps) (b + 1 - a))) ⊎ IsRefusalFor refusal (compute_refusal_in s.volume (formula_at s.fields place source steps) a b) → new ≡ s
    → (let r : Result T Refusal = Err refusal in Step s (Compute a b field source steps) r new)
compute_told T s new a b field source steps place refusal t e (inl read) same =
    let may : 0 < edit_looks s (Compute a b field source steps) =
    subst (λ (o : Option Formula). 0 < looks_at o (2 * range_looks s.volume a b)) (sym (formula_is s field source steps place e))
    (subst (λ (n : ℕ). 0 < looks_at (formula_at s.fields place source steps) (2 * n)) (sym (all_looks s.volume a b t)) (more_looks (formula_at s.fields place source steps) (b + 1 - a) read.1)) in
    told_of_read T s new (Compute a b field source steps) refusal may read.0 same
compute_told T s new a b field source steps place refusal t e (inr is) same =
    told_for T s new (Compute a b field source steps) refusal (record {}) (subst (λ (o : Option Refusal). IsRefusalFor refusal o) (sym (first_is s a b field source steps place t e)) is) same
