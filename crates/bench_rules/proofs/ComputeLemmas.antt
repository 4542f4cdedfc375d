-- A field of many traces computed: its refusals, and where it is not refused, the volume that it gives.
use Rattle.std.proofs.Common.{◌≡◌, ℕ, ℤ, pos, zero, suc, ◌+◌, ◌-◌, ◌<◌, ◌≤◌, true, List, ◌∷◌, Option, Some, None, Ok, Err, refl, sym, ap, subst, ◌∙◌, arith}
use Rattle.std.specs.List.{cons_option}
use Rattle.std.specs.Prelude.{Result, filter_map}
use Rattle.std.specs.List.{range_with_len}
use Rattle.std.proofs.lemmas.Bool.{le-leb}
use Rattle.field_map.specs.declared.place.Place.{Place}
use Rattle.field_map.specs.Places.{offset_of}
use Rattle.frame_cut.specs.declared.file_head.Head.{Head}
use Rattle.frame_cut.specs.Cuts.{IsCut}
use Rattle.frame_cut.specs.Parts.{with_each}
use Rattle.frame_cut.specs.Traces.{count_of, is_trace, trace_at}
use Rattle.frame_cut.specs.Volume.{Volume, bytes_of}
use Rattle.bench_rules.specs.declared.edit.Edit.TheVariants.{Compute}
use Rattle.bench_rules.specs.declared.field.Field.{Field}
use Rattle.bench_rules.specs.declared.operand.Operand.{Operand}
use Rattle.bench_rules.specs.declared.operator.Operator.{Operator}
use Rattle.bench_rules.specs.declared.refusal.Refusal.{Refusal}
use Rattle.bench_rules.specs.declared.refusal.Refusal.TheVariants as refusals
use Rattle.bench_rules.specs.Computed.{Formula, formula_of, computed_in, compute_refusal, compute_refusal_in, computed_numbers, first_at, refusal_of_result, number_at}
use Rattle.bench_rules.specs.ComputedBytes.{bytes_after_compute}
use Rattle.bench_rules.specs.Refused.{set_refusal, first_refusal}
use Rattle.bench_rules.specs.State.{State}
use Rattle.bench_rules.specs.Steps.{IsAfter}
use Rattle.bench_rules.specs.TraceEdits.{put_each}
use Rattle.bench_rules.proofs.FirstLemmas.{AreTraces, are_traces, by_traces, none_at}
use Rattle.bench_rules.proofs.ManyValueLemmas.{AreAccepted, IsRead, valued, bytes_from, values_laid}
use Rattle.bench_rules.proofs.SetLemmas.{Accepted, accepted, refused_at}

-- ---- the numbers

-- the number that is computed, or 0
abbrev pub number_or_zero : Result ℤ Refusal → ℤ
number_or_zero (Ok x) = x
number_or_zero (Err refusal) = pos 0

-- that of trace p
abbrev pub number_of : Volume → Formula → ℕ → ℤ
number_of v f p = number_or_zero (computed_in v.head f p (trace_at v p))

-- none of n traces from trace a on is refused
abbrev pub NoneRefused : Volume → Formula → (a n : ℕ) → Type 0
NoneRefused v f a n = (i : ℕ) → i < n → compute_refusal v f (a + i) ≡ None

-- a number that is not refused is there, and so is its set
pub number_there : (h : Head) (t : List ℕ) (place : Place) (r : Result ℤ Refusal) → refusal_of_result h t place r ≡ None
    → (r ≡ Ok (number_or_zero r)) × (set_refusal h t (Some place) (number_or_zero r) ≡ None)
number_there h t place (Ok x) e = (refl, e)
number_there h t place (Err refusal) e = absurd cc

-- traces that are not refused have their numbers
pub numbers_are : (v : Volume) (f : Formula) (a n : ℕ) → NoneRefused v f a n → filter_map (λ p. number_at p (computed_in v.head f p (trace_at v p))) (range_with_len a n) ≡ valued (number_of v f) a n
numbers_are v f a zero none = refl
numbers_are v f a (suc n) none =
    let here : a + 0 ≡ a = omega arith in
    let next : (i : ℕ) → a + suc i ≡ a + 1 + i = λ i. omega arith in
    let own : compute_refusal v f a ≡ None = rw here at (none 0 (omega arith)) in
    let rest = numbers_are v f (a + 1) n (λ i less. rw (next i) at (none (suc i) (omega (arith, less)))) in
    let there = (number_there v.head (trace_at v a) f.place (computed_in v.head f a (trace_at v a)) own).0 in
    ap (λ (r : Result ℤ Refusal). cons_option (number_at a r) (filter_map (λ p. number_at p (computed_in v.head f p (trace_at v p))) (range_with_len (a + 1) n))) there
    ∙ ap (λ (ns : List (ℕ × ℤ)). (a, number_of v f a) ∷ ns) rest

-- ---- the first refusal

-- where traces a to b are there, their numbers decide
pub compute_first : (s : State) (a b : ℕ) (field : Field) (source : Operand) (steps : List (Operator × Operand)) → 1 ≤ a → a ≤ b → b ≤ count_of s.volume
    → first_refusal s (Compute a b field source steps) ≡ compute_refusal_in s.volume (formula_of s.fields field source steps) a b
compute_first s a b field source steps low high last = by_traces s.volume a b (compute_refusal_in s.volume (formula_of s.fields field source steps) a b) low high last

-- ---- what is known where it is not refused

pub record ComputeAccepted (s : State) (a b : ℕ) (field : Field) (source : Operand) (steps : List (Operator × Operand)) : Type 0 where
  pub low : 1 ≤ a
  pub high : a ≤ b
  pub last : b ≤ count_of s.volume
  pub formula : Formula
  pub found : formula_of s.fields field source steps ≡ Some formula
  pub none : NoneRefused s.volume formula a (b + 1 - a)

pub compute_accepted : (s : State) (a b : ℕ) (field : Field) (source : Operand) (steps : List (Operator × Operand)) → first_refusal s (Compute a b field source steps) ≡ None → ComputeAccepted s a b field source steps
compute_accepted s a b field source steps e = by (formula_of s.fields field source steps) refl
  where
    there : AreTraces s.volume a b (compute_refusal_in s.volume (formula_of s.fields field source steps) a b)
    there = are_traces s.volume a b (compute_refusal_in s.volume (formula_of s.fields field source steps) a b) e

    by : (o : Option Formula) → formula_of s.fields field source steps ≡ o → ComputeAccepted s a b field source steps
    by None f = let no : Some refusals.NoField ≡ None = rw f at there.none in absurd cc
    by (Some formula) f =
        let all : first_at (compute_refusal s.volume formula) (range_with_len a (b + 1 - a)) ≡ None = rw f at there.none in
        record {
          low = there.low;
          high = there.high;
          last = there.last;
          formula = formula;
          found = f;
          none = λ i less. none_at (compute_refusal s.volume formula) a (b + 1 - a) i all less;
        }

-- traces that are not refused accept their numbers
pub numbers_accepted : (s : State) (f : Formula) (a n : ℕ) → 1 ≤ a → 0 < n → a - 1 + n ≤ count_of s.volume → NoneRefused s.volume f a n → AreAccepted s.volume f.place (number_of s.volume f) a n
numbers_accepted s f a n low some last none = record { low = low; some = some; last = last; each = one }
  where
    one : (i : ℕ) → i < n → Accepted s.volume (a + i) f.place (number_of s.volume f (a + i))
    one i less =
        let v : Volume = s.volume in
        let p : ℕ = a + i in
        let here : is_trace v p ≡ true = rw (le-leb 1 p (omega (arith, low)), le-leb p (count_of v) (omega (arith, low, last, less))) refl in
        let free = (number_there v.head (trace_at v p) f.place (computed_in v.head f p (trace_at v p)) (none i less)).1 in
        accepted s p f.place (number_of v f p) (refused_at s p f.place (number_of v f p) here ∙ free)

pub accepted_numbers : (s : State) (a b : ℕ) (field : Field) (source : Operand) (steps : List (Operator × Operand)) → (c : ComputeAccepted s a b field source steps)
    → AreAccepted s.volume c.formula.place (number_of s.volume c.formula) a (b + 1 - a)
accepted_numbers s a b field source steps c =
    numbers_accepted s c.formula a (b + 1 - a) c.low (omega (arith, c.high)) (omega (arith, c.low, c.high, c.last)) c.none

-- ---- the volume behind the edit

-- it is the cut of the new bytes, where it is that of the numbers one after another
pub compute_is_after : (s : State) (a b : ℕ) (field : Field) (source : Operand) (steps : List (Operator × Operand)) (w : Volume) → (c : ComputeAccepted s a b field source steps)
    → IsCut (put_each s.volume c.formula.place (valued (number_of s.volume c.formula) a (b + 1 - a)) (bytes_of s.volume)) s.reading s.limits w → IsAfter s (Compute a b field source steps) (record s { volume = w })
compute_is_after s a b field source steps w c cut =
    let numbers : computed_numbers s.volume c.formula a b ≡ valued (number_of s.volume c.formula) a (b + 1 - a) = numbers_are s.volume c.formula a (b + 1 - a) c.none in
    let volume : IsCut (bytes_after_compute s.volume c.formula a b) s.reading s.limits w =
    subst (λ (ns : List (ℕ × ℤ)). IsCut (put_each s.volume c.formula.place ns (bytes_of s.volume)) s.reading s.limits w) (sym numbers) cut in
    record { volume = rw c.found volume; fields = refl; reading = refl; limits = refl; on_disk = refl }

-- the edit is done where the overlay lays the numbers' bytes over the traces
pub compute_done : (s : State) (a b : ℕ) (field : Field) (source : Operand) (steps : List (Operator × Operand)) (at size : ℕ) (bs : List ℕ) (w : Volume) → IsRead s → (c : ComputeAccepted s a b field source steps)
    → at ≡ offset_of c.formula.place → size ≡ c.formula.place.kind.size → bs ≡ bytes_from s.volume.head.order c.formula.place.kind (number_of s.volume c.formula) a (b + 1 - a)
    → w ≡ with_each s.volume a at size bs → IsAfter s (Compute a b field source steps) (record s { volume = w })
compute_done s a b field source steps at size bs w cut c g h is same =
    compute_is_after s a b field source steps w c
    (values_laid s c.formula.place (number_of s.volume c.formula) a (b + 1 - a) at size bs w cut (accepted_numbers s a b field source steps c) g h is same)
