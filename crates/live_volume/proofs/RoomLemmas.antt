-- What is known of numbers that are laid over many traces, and of a trace with another number of samples, whatever was read.
use Rattle.std.proofs.Common.{◌≡◌, ℕ, ℤ, pos, negsuc, ◌+◌, ◌-◌, ◌*◌, ◌/◌, ◌%◌, ◌<◌, ◌≤◌, ◌^◌, true, List, [], ◌∷◌, length, get_or, Option, Some, None, inl, inr, refl, sym, ap, ap₂, subst, ◌∙◌, arith}
use Rattle.std.specs.Prelude.{nat_abs, int_lt}
use Rattle.std.specs.List.{flat_map, range_with_len}
use Rattle.std.proofs.lemmas.List.FromFn.{length-range_with_len}
use Rattle.std.proofs.Math.Nat.{mul-div_cancel_left, mod-eq-sub-div-mul}
use Rattle.std.proofs.lemmas.Bool.{leb-true, ltb-false}
use Rattle.std.proofs.lemmas.Bool.Decides.{nat_tests}
use Rattle.std.proofs.lemmas.List.{length-append}
use Rattle.num_order.specs.Number.{bytes, fits, IsSize}
use Rattle.num_order.specs.declared.kind.Kind.{Kind}
use Rattle.num_order.specs.declared.order.Order.{Order}
use Rattle.num_order.proofs.InRangeLemmas.{length-number}
use Rattle.field_map.specs.declared.place.Place.{Place}
use Rattle.field_map.specs.Places.{offset_of}
use Rattle.frame_cut.specs.declared.file_head.Head.{Head}
use Rattle.frame_cut.specs.Cuts.{IsTrace}
use Rattle.frame_cut.specs.Traces.{count_of, is_trace, trace_at}
use Rattle.frame_cut.specs.Volume.{Volume, bytes_of}
use Rattle.trace_view.specs.declared.view.TraceView.{TraceView}
use Rattle.trace_view.specs.Shown.{head_of, bytes_of as bytes_shown}
use Rattle.trace_view.specs.Values.{has_place}
use Rattle.edit_overlay.specs.CountedVolume.{HasShapeOf, IsViewOf}
use Rattle.bench_rules.specs.declared.edit.Edit.TheVariants.{Resize}
use Rattle.bench_rules.specs.declared.refusal.Refusal.{Refusal}
use Rattle.bench_rules.specs.declared.refusal.Refusal.TheVariants as refusals
use Rattle.bench_rules.specs.Refused.{count_refusal, first_refusal, is_sample_count, is_too_large, set_refusal}
use Rattle.bench_rules.specs.State.{State}
use Rattle.bench_rules.specs.TraceEdits.{counted, resized, values_bytes}
use Rattle.bench_rules.proofs.AcceptedLemmas.{unless_so}
use Rattle.bench_rules.proofs.PlaceLemmas.{place_inside, sized, stands}
use Rattle.bench_rules.proofs.ResizeLemmas.{can_count}
use Rattle.bench_rules.proofs.ResizingLemmas.{CanCount, resized_trace}
use Rattle.bench_rules.proofs.SetLemmas.{both, unless}
use Rattle.many_traces.specs.Fields.{HoldsPlace}
use Rattle.live_volume.specs.Places.{EachHolds, MayReplace}

-- ---- bytes of numbers of one size

pub size_some : (n : ℕ) → IsSize n → 0 < n
size_some n (inl e) = omega (arith, e)
size_some n (inr (inl e)) = omega (arith, e)
size_some n (inr (inr (inl e))) = omega (arith, e)
size_some n (inr (inr (inr (inl e)))) = omega (arith, e)
size_some n (inr (inr (inr (inr e)))) = omega (arith, e)

-- so many of them are so many parts
pub record ArePartsOf (size count long : ℕ) : Type 0 where
  pub some : 0 < size
  pub number : long / size ≡ count
  pub exact : long % size ≡ 0

pub parts_of : (size count long : ℕ) → IsSize size → long ≡ size * count → ArePartsOf size count long
parts_of size count long is e =
    let some : 0 < size = size_some size is in
    let number : long / size ≡ count = ap (λ (n : ℕ). n / size) e ∙ mul-div_cancel_left count some in
    let left : long % size ≡ long - long / size * size = mod-eq-sub-div-mul long size in
    record {
      some = some;
      number = number;
      exact = omega (arith, left ∙ ap (λ (n : ℕ). long - n * size) number, e);
    }

-- each of the traces has room for its part
pub each_inside : (v : Volume) (place : Place) (a n at size : ℕ) → 1 ≤ a → EachHolds v a n place → at ≡ offset_of place → size ≡ place.kind.size → (k : ℕ) → k < n → at + size ≤ length (get_or v.traces (a - 1 + k) [])
each_inside v place a n at size low each e g k less =
    let same : a + k - 1 ≡ a - 1 + k = omega (arith, low) in
    let here : offset_of place + place.kind.size ≤ length (get_or v.traces (a - 1 + k) []) = subst (λ (i : ℕ). offset_of place + place.kind.size ≤ length (get_or v.traces i [])) same (each k less).inside in
    omega (arith, here, e, g)

long_values : (o : Order) (kind : Kind) (first step : ℤ) (ks : List ℕ) → length (flat_map (λ (k : ℕ). bytes o kind (counted first step k)) ks) ≡ kind.size * length ks
long_values o kind first step [] = omega arith
long_values o kind first step (k ∷ ks) =
    omega (arith, length-append (bytes o kind (counted first step k)) (flat_map (λ (j : ℕ). bytes o kind (counted first step j)) ks), length-number o kind (counted first step k), long_values o kind first step ks)

-- the values counted up have as many bytes as so many numbers
pub length-counted : (o : Order) (kind : Kind) (first step : ℤ) (n : ℕ) → length (values_bytes o kind first step n) ≡ kind.size * n
length-counted o kind first step n = long_values o kind first step (range_with_len 0 n) ∙ ap (λ (m : ℕ). kind.size * m) (length-range_with_len 0 n)

-- ---- a place in a trace that is shown

placed : (h : Head) (t : List ℕ) (place : Place) (x : ℤ) → set_refusal h t (Some place) x ≡ None → (has_place h t place ≡ true) × (fits place.kind x ≡ true)
placed h t place x e =
    let has = unless (has_place h t place) refusals.NoPlace _ e in
    let fit = unless (fits place.kind x) refusals.DoesNotFit _ has.1 in
    (has.0, fit.0)

-- the number fits the place
pub fits_in_view : (view : TraceView) (place : Place) (x : ℤ) → set_refusal (head_of view) (bytes_shown view) (Some place) x ≡ None → fits place.kind x ≡ true
fits_in_view view place x e = (placed (head_of view) (bytes_shown view) place x e).1

-- and the trace holds it
pub holds_in_view : (v : Volume) (p : ℕ) (view : TraceView) (place : Place) (x : ℤ) → HasShapeOf v p view → set_refusal (head_of view) (bytes_shown view) (Some place) x ≡ None → HoldsPlace (trace_at v p) place
holds_in_view v p view place x shape e =
    let has = (placed (head_of view) (bytes_shown view) place x e).0 in
    let k = stands (head_of view) (bytes_shown view) place has in
    record { first = k.first; size = sized place.kind.size k.size; inside = omega (arith, place_inside (head_of view) (bytes_shown view) place view.whole has, shape.1) }

-- what is told of the trace that is shown is told of the volume's, where each read agreed
pub told_of_trace : (v : Volume) (p : ℕ) (view : TraceView) (place : Place) (x : ℤ) (r : Option Refusal) → IsViewOf v p view → r ≡ set_refusal (head_of view) (bytes_shown view) (Some place) x → r ≡ set_refusal v.head (trace_at v p) (Some place) x
told_of_trace v p view place x r shown e = e ∙ ap₂ (λ (h : Head) (t : List ℕ). set_refusal h t (Some place) x) shown.0 shown.1

-- ---- another number of samples

-- what nothing refuses of m samples for a trace of a file of so many bytes
pub record Counts (h : Head) (t : List ℕ) (file limit : ℕ) (m : ℤ) : Type 0 where
  pub number : m ≡ pos (nat_abs m)
  pub can : CanCount h (nat_abs m)
  pub few : nat_abs m < 2 ^ 32
  pub small : file - length t + length (resized h t (nat_abs m)) ≤ limit

positive : (m : ℤ) → int_lt (pos 0) m ≡ true → m ≡ pos (nat_abs m)
positive (pos m) e = refl
positive (negsuc m) e = absurd cc

below : (h : Head) (m : ℕ) → CanCount h m → m < 2 ^ 32
below h m can = grind (arith, nat_tests, can.few)

pub counts : (h : Head) (t : List ℕ) (file limit : ℕ) (m : ℤ) → count_refusal h file limit t m ≡ None → Counts h t file limit m
counts h t file limit m e =
    let counted = unless (is_sample_count h m) refusals.DoesNotFit _ e in
    let loose = unless_so h.fixed refusals.Frame _ counted.1 in
    let small = unless_so (is_too_large h file limit t (nat_abs m)) refusals.TooLarge None loose.1 in
    let range = both _ _ counted.0 in
    let can = can_count h m counted.0 loose.0 in
    record { number = positive m range.0; can = can; few = below h (nat_abs m) can; small = ltb-false _ _ small.0 }

-- the bytes that are made of the trace that is shown may stand in its place
pub may_replace : (s : State) (p : ℕ) (view : TraceView) (file : ℕ) (m : ℤ) (bytes : List ℕ) → is_trace s.volume p ≡ true → HasShapeOf s.volume p view → file ≡ length (bytes_of s.volume)
    → Counts (head_of view) (bytes_shown view) file s.limits.bytes m → bytes ≡ resized (head_of view) (bytes_shown view) (nat_abs m) → MayReplace s p bytes
may_replace s p view file m bytes there shape long c made =
    let range = both _ _ there in
    let r = resized_trace (head_of view) (nat_abs m) (bytes_shown view) view.whole c.can in
    let size : length bytes ≡ length (resized (head_of view) (bytes_shown view) (nat_abs m)) = ap (λ (t : List ℕ). length t) made in
    record {
      first = leb-true 1 p range.0;
      last = leb-true p (count_of s.volume) range.1;
      whole = subst (λ (t : List ℕ). IsTrace s.volume.head t) (sym made) (subst (λ (h : Head). IsTrace h (resized (head_of view) (bytes_shown view) (nat_abs m))) shape.0 r.whole);
      small = omega (arith, size, c.small, long, shape.1);
    }

-- what is told of the trace that is shown is the first refusal, where each read agreed
pub count_told : (s : State) (p : ℕ) (view : TraceView) (file : ℕ) (m : ℤ) (r : Option Refusal) → is_trace s.volume p ≡ true → IsViewOf s.volume p view → file ≡ length (bytes_of s.volume)
    → r ≡ count_refusal (head_of view) file s.limits.bytes (bytes_shown view) m → r ≡ first_refusal s (Resize p m)
count_told s p view file m r there shown long e =
    rw there (e ∙ ap₂ (λ (h : Head) (t : List ℕ). count_refusal h file s.limits.bytes t m) shown.0 shown.1 ∙ ap (λ (n : ℕ). count_refusal s.volume.head n s.limits.bytes (trace_at s.volume p) m) long)
