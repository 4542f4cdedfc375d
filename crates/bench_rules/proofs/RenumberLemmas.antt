-- A field of many traces counted up: its refusals, and where it is not refused, the volume that it gives.
use Rattle.std.proofs.Common.{◌≡◌, ℕ, ℤ, zero, suc, ◌+◌, ◌-◌, ◌<◌, ◌≤◌, Bool, true, false, List, ◌++◌, Option, Some, None, inl, inr, refl, sym, ap, subst, ◌∙◌, arith}
use Rattle.std.specs.List.{range_with_len}
use Rattle.std.proofs.lemmas.Bool.{le-leb}
use Rattle.std.proofs.lemmas.Int.{ints}
use Rattle.std.specs.Int.{w128}
use mir.Val.{SFits}
use Rattle.num_order.specs.declared.kind.Kind.{Kind}
use Rattle.num_order.specs.declared.order.Order.{Order}
use Rattle.num_order.specs.Number.{bytes, fits, IsSize, IsBetween}
use Rattle.num_order.proofs.InRangeLemmas.{in_range}
use Rattle.field_map.specs.declared.place.Place.{Place}
use Rattle.field_map.specs.Places.{offset_of}
use Rattle.frame_cut.specs.declared.file_head.Head.{Head}
use Rattle.frame_cut.specs.Cuts.{IsCut}
use Rattle.frame_cut.specs.Parts.{with_each}
use Rattle.frame_cut.specs.Traces.{count_of, is_trace, trace_at}
use Rattle.frame_cut.specs.Volume.{Volume}
use Rattle.trace_view.specs.Values.{has_place}
use Rattle.bench_rules.specs.declared.edit.Edit.TheVariants.{Renumber}
use Rattle.bench_rules.specs.declared.field.Field.{Field}
use Rattle.bench_rules.specs.declared.refusal.Refusal.{Refusal}
use Rattle.bench_rules.specs.declared.refusal.Refusal.TheVariants as refusals
use Rattle.bench_rules.specs.Computed.{first_at}
use Rattle.bench_rules.specs.Places.{place_in_trace}
use Rattle.bench_rules.specs.Refused.{set_refusal, first_refusal, first_refusal_among}
use Rattle.bench_rules.specs.State.{State}
use Rattle.bench_rules.specs.Steps.{IsAfter}
use Rattle.bench_rules.specs.TraceEdits.{counted, numbers, bytes_after_renumber, values_bytes}
use Rattle.bench_rules.proofs.FirstLemmas.{AreTraces, are_traces, among_first, by_traces, first_is, first_none, none_at}
use Rattle.bench_rules.proofs.ManyValueLemmas.{AreAccepted, IsRead, ValuesFitIn, bytes_from, more_from, values_fit_in, values_laid}
use Rattle.bench_rules.proofs.PlaceLemmas.{stands, sized}
use Rattle.bench_rules.proofs.SetLemmas.{Accepted, refused_at, accepted}

-- ---- the first refusal

-- none of the first n values from trace a on is refused
abbrev pub NoneRefused : Volume → Place → (a : ℕ) (first step : ℤ) (n : ℕ) → Type 0
NoneRefused v place a first step n = (k : ℕ) → k < n → set_refusal v.head (trace_at v (a + k)) (Some place) (counted first step k) ≡ None

-- the value of trace a + k
value_behind : (first step : ℤ) (a k : ℕ) → counted first step (a + k - a) ≡ counted first step k
value_behind first step a k = let same : a + k - a ≡ k = omega arith in ap (counted first step) same

-- the refusal of the value of trace p
abbrev refusal_at : Volume → Option Place → (a : ℕ) (first step : ℤ) → ℕ → Option Refusal
refusal_at v place a first step p = set_refusal v.head (trace_at v p) place (counted first step (p - a))

-- where traces a to b are there, the values decide
by_values : (s : State) (a b : ℕ) (f : Field) (first step : ℤ) → 1 ≤ a → a ≤ b → b ≤ count_of s.volume
    → first_refusal s (Renumber a b f first step) ≡ first_at (refusal_at s.volume (place_in_trace s.fields f) a first step) (range_with_len a (b + 1 - a))
by_values s a b f first step low high last =
    by_traces s.volume a b (first_refusal_among s.volume (place_in_trace s.fields f) (numbers a b first step)) low high last
    ∙ among_first s.volume (place_in_trace s.fields f) (λ p. counted first step (p - a)) a (b + 1 - a)

-- the field has no place
pub renumber_no_field : (s : State) (a b : ℕ) (f : Field) (first step : ℤ) → 1 ≤ a → a ≤ b → b ≤ count_of s.volume → place_in_trace s.fields f ≡ None
    → first_refusal s (Renumber a b f first step) ≡ Some refusals.NoField
renumber_no_field s a b f first step low high last e =
    by_values s a b f first step low high last
    ∙ rw e (first_is (refusal_at s.volume None a first step) a (b + 1 - a) 0 refusals.NoField (λ i less. absurd (omega (arith, less))) (omega (arith, high)) refl)

-- the value that stands k steps behind the first is the first that is refused
pub renumber_refused : (s : State) (a b : ℕ) (f : Field) (first step : ℤ) (place : Place) (k : ℕ) (r : Refusal) → 1 ≤ a → b ≤ count_of s.volume → place_in_trace s.fields f ≡ Some place → NoneRefused s.volume place a first step k
    → a + k ≤ b → set_refusal s.volume.head (trace_at s.volume (a + k)) (Some place) (counted first step k) ≡ Some r → first_refusal s (Renumber a b f first step) ≡ Some r
renumber_refused s a b f first step place k r low last e none there is =
    let h : Head = s.volume.head in
    by_values s a b f first step low (omega arith) last
    ∙ rw e (first_is (refusal_at s.volume (Some place) a first step) a (b + 1 - a) k r
    (λ i less. ap (set_refusal h (trace_at s.volume (a + i)) (Some place)) (value_behind first step a i) ∙ none i less) (omega arith)
    (ap (set_refusal h (trace_at s.volume (a + k)) (Some place)) (value_behind first step a k) ∙ is))

-- none is refused
pub renumber_not_refused : (s : State) (a b : ℕ) (f : Field) (first step : ℤ) (place : Place) → 1 ≤ a → a ≤ b → b ≤ count_of s.volume → place_in_trace s.fields f ≡ Some place → NoneRefused s.volume place a first step (b + 1 - a)
    → first_refusal s (Renumber a b f first step) ≡ None
renumber_not_refused s a b f first step place low high last e none =
    by_values s a b f first step low high last
    ∙ rw e (first_none (refusal_at s.volume (Some place) a first step) a (b + 1 - a)
    (λ i less. ap (set_refusal s.volume.head (trace_at s.volume (a + i)) (Some place)) (value_behind first step a i) ∙ none i less))

-- ---- what is known where it is not refused

pub renumber_accepted : (s : State) (a b : ℕ) (f : Field) (first step : ℤ) → first_refusal s (Renumber a b f first step) ≡ None
    → AreTraces s.volume a b (first_refusal_among s.volume (place_in_trace s.fields f) (numbers a b first step))
renumber_accepted s a b f first step e = are_traces s.volume a b (first_refusal_among s.volume (place_in_trace s.fields f) (numbers a b first step)) e

-- each value is accepted at its trace
pub each_accepted : (s : State) (a b : ℕ) (f : Field) (first step : ℤ) (place : Place) (k : ℕ) → place_in_trace s.fields f ≡ Some place → first_refusal s (Renumber a b f first step) ≡ None → a + k ≤ b
    → Accepted s.volume (a + k) place (counted first step k)
each_accepted s a b f first step place k e none there =
    let v : Volume = s.volume in
    let r = renumber_accepted s a b f first step none in
    let p : ℕ = a + k in
    let all : first_refusal_among v (Some place) (numbers a b first step) ≡ None = rw e at r.none in
    let first_all = sym (among_first v (Some place) (λ q. counted first step (q - a)) a (b + 1 - a)) ∙ all in
    let none_here = none_at (refusal_at v (Some place) a first step) a (b + 1 - a) k first_all (omega (arith, r.high)) in
    let here : is_trace v p ≡ true = rw (le-leb 1 p (omega (arith, r.low)), le-leb p (count_of v) (omega (arith, r.last))) refl in
    subst (λ (x : ℤ). Accepted v p place x) (value_behind first step a k)
    (accepted s p place (counted first step (p - a)) (refused_at s p place (counted first step (p - a)) here ∙ none_here))

wide_by : (signed : Bool) (size : ℕ) (x : ℤ) → IsSize size → IsBetween signed size x → SFits w128 x
wide_by false size x (inl e) between = let range = rw e at between in omega (arith, ints, range.0, range.1)
wide_by false size x (inr (inl e)) between = let range = rw e at between in omega (arith, ints, range.0, range.1)
wide_by false size x (inr (inr (inl e))) between = let range = rw e at between in omega (arith, ints, range.0, range.1)
wide_by false size x (inr (inr (inr (inl e)))) between = let range = rw e at between in omega (arith, ints, range.0, range.1)
wide_by false size x (inr (inr (inr (inr e)))) between = let range = rw e at between in omega (arith, ints, range.0, range.1)
wide_by true size x (inl e) between = let range = rw e at between in omega (arith, ints, range.0, range.1)
wide_by true size x (inr (inl e)) between = let range = rw e at between in omega (arith, ints, range.0, range.1)
wide_by true size x (inr (inr (inl e))) between = let range = rw e at between in omega (arith, ints, range.0, range.1)
wide_by true size x (inr (inr (inr (inl e)))) between = let range = rw e at between in omega (arith, ints, range.0, range.1)
wide_by true size x (inr (inr (inr (inr e)))) between = let range = rw e at between in omega (arith, ints, range.0, range.1)

-- a number that a kind has is one of 128 bits
pub fits_wide : (kind : Kind) (x : ℤ) → IsSize kind.size → fits kind x ≡ true → SFits w128 x
fits_wide kind x size e = wide_by kind.signed kind.size x size (in_range kind x e)

-- so a wider one does not fit a place
no_fit : (b : Bool) → (b ≡ true → ⊥) → b ≡ false
no_fit true never = absurd (never refl)
no_fit false never = refl

pub refused_wide : (h : Head) (t : List ℕ) (place : Place) (x : ℤ) → has_place h t place ≡ true → (SFits w128 x → ⊥) → set_refusal h t (Some place) x ≡ Some refusals.DoesNotFit
refused_wide h t place x has wide =
    let size : IsSize place.kind.size = sized place.kind.size (stands h t place has).size in
    let none : fits place.kind x ≡ false = no_fit (fits place.kind x) (λ e. wide (fits_wide place.kind x size e)) in
    rw (has, none) refl

-- each value is one of the place's kind
pub record ValuesFit (place : Place) (first step : ℤ) (n : ℕ) : Type 0 where
  pub size : IsSize place.kind.size
  pub fit : (k : ℕ) → k < n → fits place.kind (counted first step k) ≡ true

pub values_fit : (s : State) (a b : ℕ) (f : Field) (first step : ℤ) (place : Place) → place_in_trace s.fields f ≡ Some place → first_refusal s (Renumber a b f first step) ≡ None → ValuesFit place first step (b + 1 - a)
values_fit s a b f first step place e none =
    let high : a ≤ b = (renumber_accepted s a b f first step none).high in
    let zeroth = each_accepted s a b f first step place 0 e none (omega arith) in
    record {
      size = sized place.kind.size (stands s.volume.head (trace_at s.volume (a + 0)) place zeroth.has).size;
      fit = λ k less. (each_accepted s a b f first step place k e none (omega (arith, less))).fits;
    }

-- ---- the values' bytes

pub bytes_shifted : (o : Order) (kind : Kind) (first step : ℤ) (a k n : ℕ) → bytes_from o kind (λ p. counted first step (p - a)) (a + k) n ≡ bytes_from o kind (counted first step) k n
bytes_shifted o kind first step a k zero = refl
bytes_shifted o kind first step a k (suc n) =
    let next : a + k + 1 ≡ a + (k + 1) = omega arith in
    rw (value_behind first step a k, next) (ap (λ (s : List ℕ). bytes o kind (counted first step k) ++ s) (bytes_shifted o kind first step a (k + 1) n))

pub one_more_value : (o : Order) (kind : Kind) (first step : ℤ) (n : ℕ) (old new all : List ℕ) → old ≡ values_bytes o kind first step n → new ≡ bytes o kind (counted first step n) → all ≡ old ++ new
    → all ≡ values_bytes o kind first step (n + 1)
one_more_value o kind first step n old new all e f joined =
    let zeroth : 0 + n ≡ n = omega arith in
    joined
    ∙ ap (λ (s : List ℕ). s ++ new) e
    ∙ ap (λ (s : List ℕ). values_bytes o kind first step n ++ s) (f ∙ ap (λ (k : ℕ). bytes o kind (counted first step k)) (sym zeroth))
    ∙ sym (more_from o kind (counted first step) 0 n)

-- the bytes of the values, each from its trace
pub bytes_of_numbers : (o : Order) (kind : Kind) (first step : ℤ) (a n : ℕ) (bs : List ℕ) → bs ≡ values_bytes o kind first step n → bs ≡ bytes_from o kind (λ p. counted first step (p - a)) a n
bytes_of_numbers o kind first step a n bs is =
    let start : a + 0 ≡ a = omega arith in
    is ∙ sym (rw start at (bytes_shifted o kind first step a 0 n))

-- ---- the volume behind the edit

pub accepted_from : (s : State) (a b : ℕ) (f : Field) (first step : ℤ) (place : Place) → place_in_trace s.fields f ≡ Some place → first_refusal s (Renumber a b f first step) ≡ None
    → AreAccepted s.volume place (λ p. counted first step (p - a)) a (b + 1 - a)
accepted_from s a b f first step place e none =
    let r = renumber_accepted s a b f first step none in
    record {
      low = r.low;
      some = omega (arith, r.high);
      last = omega (arith, r.low, r.high, r.last);
      each = λ i less. subst (λ (x : ℤ). Accepted s.volume (a + i) place x) (sym (value_behind first step a i)) (each_accepted s a b f first step place i e none (omega (arith, less)));
    }

pub renumber_fits : (s : State) (a b : ℕ) (f : Field) (first step : ℤ) (place : Place) (at size : ℕ) (bs : List ℕ) → IsRead s → place_in_trace s.fields f ≡ Some place
    → first_refusal s (Renumber a b f first step) ≡ None → at ≡ offset_of place → size ≡ place.kind.size → bs ≡ values_bytes s.volume.head.order place.kind first step (b + 1 - a)
    → ValuesFitIn s a (b + 1 - a) at size bs
renumber_fits s a b f first step place at size bs cut e none g h is =
    values_fit_in s place (λ p. counted first step (p - a)) a (b + 1 - a) at size bs cut (accepted_from s a b f first step place e none) g h
    (bytes_of_numbers s.volume.head.order place.kind first step a (b + 1 - a) bs is)

-- the edit is done where the overlay lays the values' bytes over the traces
pub renumber_done : (s : State) (a b : ℕ) (f : Field) (first step : ℤ) (place : Place) (at size : ℕ) (bs : List ℕ) (w : Volume) → IsRead s → place_in_trace s.fields f ≡ Some place
    → first_refusal s (Renumber a b f first step) ≡ None → at ≡ offset_of place → size ≡ place.kind.size → bs ≡ values_bytes s.volume.head.order place.kind first step (b + 1 - a)
    → w ≡ with_each s.volume a at size bs → IsAfter s (Renumber a b f first step) (record s { volume = w })
renumber_done s a b f first step place at size bs w cut e none g h is same =
    let volume : IsCut (bytes_after_renumber s.volume a b place first step) s.reading s.limits w =
    values_laid s place (λ p. counted first step (p - a)) a (b + 1 - a) at size bs w cut (accepted_from s a b f first step place e none) g h
    (bytes_of_numbers s.volume.head.order place.kind first step a (b + 1 - a) bs is) same in
    record { volume = rw e volume; fields = refl; reading = refl; limits = refl; on_disk = refl }
