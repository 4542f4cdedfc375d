-- The first refusal among those of traces that follow one another.
use Rattle.std.proofs.Common.{◌≡◌, ℕ, ℤ, zero, suc, ◌+◌, ◌<◌, ◌≤◌, true, ◌&&◌, leb, Option, Some, None, refl, ap, arith}
use Rattle.std.specs.List.{range_with_len}
use Rattle.std.specs.Option.{option_or}
use Rattle.std.proofs.lemmas.Bool.{leb-true, le-leb}
use Rattle.field_map.specs.declared.place.Place.{Place}
use Rattle.frame_cut.specs.Traces.{count_of, is_trace, trace_at}
use Rattle.frame_cut.specs.Volume.{Volume}
use Rattle.bench_rules.specs.declared.refusal.Refusal.{Refusal}
use Rattle.bench_rules.specs.declared.refusal.Refusal.TheVariants as refusals
use Rattle.bench_rules.specs.Computed.{first_at}
use Rattle.bench_rules.specs.Refused.{set_refusal, first_refusal_among, no_trace, no_trace_from}
use Rattle.bench_rules.proofs.ManyValueLemmas.{valued}
use Rattle.bench_rules.proofs.SetLemmas.{both, none_of_either}

-- ---- the range

-- traces a to b are there
within_traces : (v : Volume) (a b : ℕ) → 1 ≤ a → a ≤ b → b ≤ count_of v → (is_trace v a ≡ true) × ((leb a b && leb b (count_of v)) ≡ true)
within_traces v a b low high last = (rw (le-leb 1 a low, le-leb a (count_of v) (omega arith)) refl, rw (le-leb a b high, le-leb b (count_of v) last) refl)

-- where they are, what is asked of them decides
pub by_traces : (v : Volume) (a b : ℕ) (o : Option Refusal) → 1 ≤ a → a ≤ b → b ≤ count_of v → option_or (no_trace v a) (option_or (no_trace_from v a b) o) ≡ o
by_traces v a b o low high last = let ok = within_traces v a b low high last in rw (ok.0, ok.1) refl

-- and where nothing is refused, they are there
pub record AreTraces (v : Volume) (a b : ℕ) (o : Option Refusal) : Type 0 where
  pub low : 1 ≤ a
  pub high : a ≤ b
  pub last : b ≤ count_of v
  pub none : o ≡ None

pub are_traces : (v : Volume) (a b : ℕ) (o : Option Refusal) → option_or (no_trace v a) (option_or (no_trace_from v a b) o) ≡ None → AreTraces v a b o
are_traces v a b o e =
    let one = none_of_either (is_trace v a) (refusals.NoTrace a (count_of v)) _ e in
    let two = none_of_either (leb a b && leb b (count_of v)) (refusals.NoTrace b (count_of v)) _ one.1 in
    let range = both _ _ two.0 in
    record { low = leb-true 1 a (both _ _ one.0).0; high = leb-true a b range.0; last = leb-true b (count_of v) range.1; none = two.1 }

-- ---- the first refusal

-- the first that is refused decides
pub first_is : (refusal : ℕ → Option Refusal) (k n j : ℕ) (r : Refusal) → ((i : ℕ) → i < j → refusal (k + i) ≡ None) → j < n → refusal (k + j) ≡ Some r → first_at refusal (range_with_len k n) ≡ Some r
first_is refusal k zero j r before there is = absurd (omega arith)
first_is refusal k (suc n) zero r before there is =
    let here : k + 0 ≡ k = omega arith in
    rw (rw here at is) refl
first_is refusal k (suc n) (suc j) r before there is =
    let here : k + 0 ≡ k = omega arith in
    let next : (i : ℕ) → k + suc i ≡ k + 1 + i = λ i. omega arith in
    rw (rw here at (before 0 (omega arith)))
    (first_is refusal (k + 1) n j r (λ i less. rw (next i) at (before (suc i) (omega (arith, less)))) (omega arith) (rw (next j) at is))

-- and where none is refused, there is no refusal
pub first_none : (refusal : ℕ → Option Refusal) (k n : ℕ) → ((i : ℕ) → i < n → refusal (k + i) ≡ None) → first_at refusal (range_with_len k n) ≡ None
first_none refusal k zero before = refl
first_none refusal k (suc n) before =
    let here : k + 0 ≡ k = omega arith in
    let next : (i : ℕ) → k + suc i ≡ k + 1 + i = λ i. omega arith in
    rw (rw here at (before 0 (omega arith))) (first_none refusal (k + 1) n (λ i less. rw (next i) at (before (suc i) (omega (arith, less)))))

pub both_none : {X : Type 0} (a b : Option X) → option_or a b ≡ None → (a ≡ None) × (b ≡ None)
both_none None b e = (refl, e)
both_none (Some x) b e = absurd cc

-- where there is no refusal, none is refused
pub none_at : (refusal : ℕ → Option Refusal) (k n i : ℕ) → first_at refusal (range_with_len k n) ≡ None → i < n → refusal (k + i) ≡ None
none_at refusal k zero i e there = absurd (omega arith)
none_at refusal k (suc n) zero e there =
    let here : k + 0 ≡ k = omega arith in
    rw here (both_none _ _ e).0
none_at refusal k (suc n) (suc i) e there =
    let next : k + suc i ≡ k + 1 + i = omega arith in
    rw next (none_at refusal (k + 1) n i (both_none _ _ e).1 (omega arith))

-- values over a place are refused as their traces are
pub among_first : (v : Volume) (place : Option Place) (value : ℕ → ℤ) (k n : ℕ) → first_refusal_among v place (valued value k n) ≡ first_at (λ p. set_refusal v.head (trace_at v p) place (value p)) (range_with_len k n)
among_first v place value k zero = refl
among_first v place value k (suc n) = ap (λ (o : Option Refusal). option_or (set_refusal v.head (trace_at v k) place (value k)) o) (among_first v place value (k + 1) n)
