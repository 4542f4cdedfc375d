-- A field of many traces that is computed from a number alone is counted up by 0 from it.
use Rattle.std.proofs.Common.{◌≡◌, ℕ, ℤ, pos, zero, suc, ◌+◌, ◌-◌, ◌*◌, ◌<◌, ◌≤◌, Bool, true, false, ◌&&◌, leb, ◌+ℤ◌, List, [], ◌∷◌, Option, Some, None, Ok, Err, refl, sym, ap, ◌∙◌, arith}
use Rattle.std.specs.List.{range_with_len}
use Rattle.std.specs.Option.{option_or}
use Rattle.std.proofs.lemmas.Int.{ints}
use Rattle.field_map.specs.declared.place.Place.{Place}
use Rattle.frame_cut.specs.Traces.{count_of, is_trace, trace_at}
use Rattle.frame_cut.specs.Volume.{Volume, bytes_of}
use Rattle.trace_view.specs.Values.{has_place}
use Rattle.bench_rules.specs.declared.edit.Edit.TheVariants.{Renumber, Compute}
use Rattle.bench_rules.specs.declared.field.Field.{Field}
use Rattle.bench_rules.specs.declared.operand.Operand.TheVariants.{Number}
use Rattle.bench_rules.specs.declared.refusal.Refusal.{Refusal}
use Rattle.bench_rules.specs.declared.refusal.Refusal.TheVariants as refusals
use Rattle.bench_rules.specs.declared.term.Term.TheVariants as terms
use Rattle.bench_rules.specs.After.{bytes_after}
use Rattle.bench_rules.specs.Computed.{Formula, compute_refusal, compute_refusal_in, computed_in, computed_numbers, first_at, formula_of, refusal_of_result}
use Rattle.bench_rules.specs.Places.{place_in_trace}
use Rattle.bench_rules.specs.Refused.{first_refusal, first_refusal_among, no_trace, no_trace_from, set_refusal}
use Rattle.bench_rules.specs.State.{State}
use Rattle.bench_rules.specs.TraceEdits.{counted, numbers, put_each}
use Rattle.bench_rules.proofs.ComputeLemmas.{NoneRefused, number_of, numbers_are}
use Rattle.bench_rules.proofs.FirstLemmas.{AreTraces, among_first, are_traces, none_at}
use Rattle.bench_rules.proofs.ManyValueLemmas.{valued}
use Rattle.bench_laws.specs.NumberLaws.{ComputeOfANumberIsRenumber}

-- the computation
abbrev just : Place → ℤ → Formula
just place x = record { place = place; source = terms.Number x; steps = [] }

-- no step leads away from the number
no_steps : (x : ℤ) (k : ℕ) → counted x (pos 0) k ≡ x
no_steps x k = let none : 0 * k ≡ 0 = omega arith in ap (λ (n : ℕ). x +ℤ pos n) none ∙ omega (arith, ints)

-- ---- the first refusal

one_refusal : (v : Volume) (place : Place) (x : ℤ) (p : ℕ) → compute_refusal v (just place x) p ≡ set_refusal v.head (trace_at v p) (Some place) x
one_refusal v place x p = by (has_place v.head (trace_at v p) place) refl
  where
    by : (has : Bool) → has_place v.head (trace_at v p) place ≡ has → compute_refusal v (just place x) p ≡ set_refusal v.head (trace_at v p) (Some place) x
    by true e =
        let number : computed_in v.head (just place x) p (trace_at v p) ≡ Ok x = rw e refl in
        ap (refusal_of_result v.head (trace_at v p) place) number
    by false e =
        let none : computed_in v.head (just place x) p (trace_at v p) ≡ Err refusals.NoPlace = rw e refl in
        let refused : set_refusal v.head (trace_at v p) (Some place) x ≡ Some refusals.NoPlace = rw e refl in
        ap (refusal_of_result v.head (trace_at v p) place) none ∙ sym refused

first_alike : (f g : ℕ → Option Refusal) (ps : List ℕ) → ((p : ℕ) → f p ≡ g p) → first_at f ps ≡ first_at g ps
first_alike f g [] same = refl
first_alike f g (p ∷ ps) same = ap (λ (o : Option Refusal). option_or o (first_at f ps)) (same p) ∙ ap (λ (o : Option Refusal). option_or (g p) o) (first_alike f g ps same)

-- what is asked of traces that are there decides
in_range : (v : Volume) (a b : ℕ) (o q : Option Refusal) → (a ≤ b → o ≡ q) → option_or (no_trace v a) (option_or (no_trace_from v a b) o) ≡ option_or (no_trace v a) (option_or (no_trace_from v a b) q)
in_range v a b o q same = by (is_trace v a) (leb a b && leb b (count_of v)) refl refl
  where
    by : (one two : Bool) → is_trace v a ≡ one → (leb a b && leb b (count_of v)) ≡ two → option_or (no_trace v a) (option_or (no_trace_from v a b) o) ≡ option_or (no_trace v a) (option_or (no_trace_from v a b) q)
    by false two e f = rw e refl
    by true false e f = rw (e, f) refl
    by true true e f =
        let t : AreTraces v a b None = are_traces v a b None (rw (e, f) refl) in
        ap (λ (r : Option Refusal). option_or (no_trace v a) (option_or (no_trace_from v a b) r)) (same t.high)

same_refusals : (v : Volume) (a b : ℕ) (place : Place) (x : ℤ) → compute_refusal_in v (Some (just place x)) a b ≡ first_refusal_among v (Some place) (numbers a b x (pos 0))
same_refusals v a b place x =
    first_alike (compute_refusal v (just place x)) (λ p. set_refusal v.head (trace_at v p) (Some place) (counted x (pos 0) (p - a))) (range_with_len a (b + 1 - a))
    (λ p. one_refusal v place x p ∙ ap (λ (y : ℤ). set_refusal v.head (trace_at v p) (Some place) y) (sym (no_steps x (p - a))))
    ∙ sym (among_first v (Some place) (λ p. counted x (pos 0) (p - a)) a (b + 1 - a))

no_field : (v : Volume) (a b : ℕ) (x : ℤ) → a ≤ b → (let r : Option Refusal = Some refusals.NoField in r) ≡ first_refusal_among v None (numbers a b x (pos 0))
no_field v a b x high = let more : b + 1 - a ≡ suc (b - a) = omega arith in rw more refl

same_first : (s : State) (a b : ℕ) (field : Field) (x : ℤ) → first_refusal s (Compute a b field (Number x) []) ≡ first_refusal s (Renumber a b field x (pos 0))
same_first s a b field x =
    in_range s.volume a b (compute_refusal_in s.volume (formula_of s.fields field (Number x) []) a b) (first_refusal_among s.volume (place_in_trace s.fields field) (numbers a b x (pos 0)))
    (λ high. by (place_in_trace s.fields field) high refl)
  where
    by : (o : Option Place) → a ≤ b → place_in_trace s.fields field ≡ o
        → compute_refusal_in s.volume (formula_of s.fields field (Number x) []) a b ≡ first_refusal_among s.volume (place_in_trace s.fields field) (numbers a b x (pos 0))
    by None high e = rw e (no_field s.volume a b x high)
    by (Some place) high e = rw e (same_refusals s.volume a b place x)

-- ---- the bytes

number_is : (v : Volume) (place : Place) (x : ℤ) (p : ℕ) → compute_refusal v (just place x) p ≡ None → number_of v (just place x) p ≡ x
number_is v place x p none = by (has_place v.head (trace_at v p) place) refl
  where
    by : (has : Bool) → has_place v.head (trace_at v p) place ≡ has → number_of v (just place x) p ≡ x
    by true e = rw e refl
    by false e = let no : (let r : Option Refusal = Some refusals.NoPlace in r) ≡ None = rw e at none in absurd cc

same_values : (value other : ℕ → ℤ) (k n : ℕ) → ((i : ℕ) → i < n → value (k + i) ≡ other (k + i)) → valued value k n ≡ valued other k n
same_values value other k zero same = refl
same_values value other k (suc n) same =
    let here : k + 0 ≡ k = omega arith in
    let next : (i : ℕ) → k + suc i ≡ k + 1 + i = λ i. omega arith in
    let own : value k ≡ other k = rw here at (same 0 (omega arith)) in
    ap (λ (x : ℤ). (k, x) ∷ valued value (k + 1) n) own
    ∙ ap (λ (ns : List (ℕ × ℤ)). (k, other k) ∷ ns) (same_values value other (k + 1) n (λ i less. rw (next i) at (same (suc i) (omega (arith, less)))))

same_numbers : (v : Volume) (a b : ℕ) (place : Place) (x : ℤ) → NoneRefused v (just place x) a (b + 1 - a) → computed_numbers v (just place x) a b ≡ numbers a b x (pos 0)
same_numbers v a b place x none =
    numbers_are v (just place x) a (b + 1 - a) none
    ∙ same_values (number_of v (just place x)) (λ p. counted x (pos 0) (p - a)) a (b + 1 - a) (λ i less. number_is v place x (a + i) (none i less) ∙ sym (no_steps x (a + i - a)))

same_bytes : (s : State) (a b : ℕ) (field : Field) (x : ℤ) → first_refusal s (Compute a b field (Number x) []) ≡ None
    → bytes_after s (Compute a b field (Number x) []) ≡ bytes_after s (Renumber a b field x (pos 0))
same_bytes s a b field x first = by (place_in_trace s.fields field) refl
  where
    t : AreTraces s.volume a b (compute_refusal_in s.volume (formula_of s.fields field (Number x) []) a b)
    t = are_traces s.volume a b (compute_refusal_in s.volume (formula_of s.fields field (Number x) []) a b) first

    by : (o : Option Place) → place_in_trace s.fields field ≡ o → bytes_after s (Compute a b field (Number x) []) ≡ bytes_after s (Renumber a b field x (pos 0))
    by None e = rw e refl
    by (Some place) e =
        let all : first_at (compute_refusal s.volume (just place x)) (range_with_len a (b + 1 - a)) ≡ None = rw e at t.none in
        let none : NoneRefused s.volume (just place x) a (b + 1 - a) = λ i less. none_at (compute_refusal s.volume (just place x)) a (b + 1 - a) i all less in
        rw e (ap (λ (ns : List (ℕ × ℤ)). put_each s.volume place ns (bytes_of s.volume)) (same_numbers s.volume a b place x none))

pub compute_of_a_number_is_renumber : ComputeOfANumberIsRenumber
compute_of_a_number_is_renumber s a b field x = (same_first s a b field x, same_bytes s a b field x)
