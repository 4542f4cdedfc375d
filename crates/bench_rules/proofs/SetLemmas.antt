-- A value set in a header of a trace.
use Rattle.std.proofs.Common.{◌≡◌, ℕ, ◌+◌, ◌*◌, ◌-◌, ◌<◌, ◌≤◌, Bool, true, false, ◌&&◌, cond, List, [], length, Option, Some, None, ℤ, refl, sym, ap, subst, ◌∙◌, arith}
use Rattle.std.specs.Prelude.{nat_eq, not}
use Rattle.std.specs.Option.{option_eq, option_or, is_some}
use Rattle.std.proofs.lemmas.Bool.{leb-true, le-leb, eqb-true, eq-eqb}
use Rattle.std.proofs.lemmas.List.Elements.{All-get_or}
use Rattle.num_order.specs.Number.{bytes, fits}
use Rattle.field_map.specs.declared.place.Place.{Place}
use Rattle.frame_cut.specs.declared.file_head.Head.{Head}
use Rattle.frame_cut.specs.Cuts.{IsTrace, IsCut}
use Rattle.frame_cut.specs.Frames.{trace_length}
use Rattle.frame_cut.specs.Splice.{splice}
use Rattle.frame_cut.specs.Traces.{count_of, is_trace, trace_at, with_trace}
use Rattle.frame_cut.specs.Volume.{Volume, bytes_of, start_of}
use Rattle.frame_cut.proofs.EditLemmas.{cut_with_trace, bytes_with_splice, length-splice}
use Rattle.trace_view.specs.Values.{has_place, value_of, value_at}
use Rattle.bench_rules.specs.declared.edit.Edit.TheVariants.{Set}
use Rattle.bench_rules.specs.declared.field.Field.TheVariants as field
use Rattle.bench_rules.specs.declared.refusal.Refusal.{Refusal}
use Rattle.bench_rules.specs.declared.refusal.Refusal.TheVariants.{NoTrace, NoPlace, DoesNotFit, Frame}
use Rattle.bench_rules.specs.State.{State}
use Rattle.bench_rules.specs.Refused.{with_value, is_length, changes_length, set_refusal, first_refusal}
use Rattle.bench_rules.specs.Steps.{IsAfter}
use Rattle.bench_rules.proofs.PlaceLemmas.{stands, place_inside, same_test}
use Rattle.num_order.proofs.InRangeLemmas.{length-number}

-- ---- the first refusal

-- where the trace has the place and the value fits, the trace's length decides
pub last_refusal : (h : Head) (t : List ℕ) (place : Place) (x : ℤ) → has_place h t place ≡ true → fits place.kind x ≡ true → set_refusal h t (Some place) x ≡ cond (changes_length h t place x) (Some Frame) None
last_refusal h t place x has fit = rw (has, fit) refl

pub refused_at : (s : State) (p : ℕ) (place : Place) (x : ℤ) → is_trace s.volume p ≡ true → first_refusal s (Set p (field.Place place) x) ≡ set_refusal s.volume.head (trace_at s.volume p) (Some place) x
refused_at s p place x e = rw e refl

-- ---- where none is met

pub record Accepted (v : Volume) (p : ℕ) (place : Place) (x : ℤ) : Type 0 where
  pub first : 1 ≤ p
  pub last : p ≤ count_of v
  pub has : has_place v.head (trace_at v p) place ≡ true
  pub fits : fits place.kind x ≡ true
  pub length : trace_length v.head (with_value v.head (trace_at v p) place x) ≡ Some (length (trace_at v p))

pub none_of_either : {X : Type 0} → (b : Bool) (x : X) (o : Option X) → option_or (cond b None (Some x)) o ≡ None → (b ≡ true) × (o ≡ None)
none_of_either true x o e = (refl, e)
none_of_either false x o e = absurd cc

pub unless : {X : Type 0} → (b : Bool) (x : X) (o : Option X) → cond (not b) (Some x) o ≡ None → (b ≡ true) × (o ≡ None)
unless true x o e = (refl, e)
unless false x o e = absurd cc

pub same_length : (o : Option ℕ) (n : ℕ) → is_length o n ≡ true → o ≡ Some n
same_length None n e = absurd cc
same_length (Some m) n e = ap (λ (k : ℕ). let o : Option ℕ = Some k in o) (eqb-true m n e)

pub both : (a b : Bool) → (a && b) ≡ true → (a ≡ true) × (b ≡ true)
both true true e = (refl, refl)
both true false e = absurd cc
both false b e = absurd cc

pub accepted : (s : State) (p : ℕ) (place : Place) (x : ℤ) → first_refusal s (Set p (field.Place place) x) ≡ None → Accepted s.volume p place x
accepted s p place x e =
    let v : Volume = s.volume in
    let there = none_of_either (is_trace v p) (NoTrace p (count_of v)) (set_refusal v.head (trace_at v p) (Some place) x) e in
    let has = unless (has_place v.head (trace_at v p) place) NoPlace _ there.1 in
    let fit = unless (fits place.kind x) DoesNotFit _ has.1 in
    let same = unless (is_length (trace_length v.head (with_value v.head (trace_at v p) place x)) (length (trace_at v p))) Frame None fit.1 in
    let range = both _ _ there.0 in
    record {
      first = leb-true 1 p range.0;
      last = leb-true p (count_of v) range.1;
      has = has.0;
      fits = fit.0;
      length = same_length _ _ same.0;
    }

-- and where it is accepted, none is met
pub not_refused : (s : State) (p : ℕ) (place : Place) (x : ℤ) → Accepted s.volume p place x → first_refusal s (Set p (field.Place place) x) ≡ None
not_refused s p place x a =
    let v : Volume = s.volume in
    let t : List ℕ = trace_at v p in
    let there : is_trace v p ≡ true = rw (le-leb 1 p a.first, le-leb p (count_of v) a.last) refl in
    let same : is_length (trace_length v.head (with_value v.head t place x)) (length t) ≡ true = rw a.length (eq-eqb (length t) (length t) refl) in
    refused_at s p place x there ∙ last_refusal v.head t place x a.has a.fits ∙ ap (λ (b : Bool). let o : Option Refusal = cond (not b) (Some Frame) None in o) same

-- ---- what the value makes of the volume

pub whole_trace : (s : State) (p : ℕ) → IsCut (bytes_of s.volume) s.reading s.limits s.volume → 1 ≤ p → p ≤ count_of s.volume → IsTrace s.volume.head (trace_at s.volume p)
whole_trace s p cut first last = All-get_or (IsTrace s.volume.head) s.volume.traces (p - 1) [] (omega (arith, first, last)) cut.parts.traces

pub is_after : (s : State) (p : ℕ) (place : Place) (x : ℤ) → IsCut (bytes_of s.volume) s.reading s.limits s.volume → Accepted s.volume p place x
    → IsAfter s (Set p (field.Place place) x) (record s { volume = with_trace s.volume p (with_value s.volume.head (trace_at s.volume p) place x) })
is_after s p place x cut a =
    let v : Volume = s.volume in
    let t : List ℕ = trace_at v p in
    let new : List ℕ = bytes v.head.order place.kind x in
    let size : length new ≡ place.kind.size = length-number v.head.order place.kind x in
    let at : ℕ = 240 * place.extension + place.byte - 1 in
    let there : p - 1 < length v.traces = omega (arith, a.first, a.last) in
    let is : IsTrace v.head t = whole_trace s p cut a.first a.last in
    let inside : at + length new ≤ length t = omega (arith, size, place_inside v.head t place is a.has) in
    let exactly : with_value v.head t place x ≡ splice t at (length new) new = ap (λ (n : ℕ). splice t at n new) (sym size) in
    let same : length (with_value v.head t place x) ≡ length t = ap (λ (u : List ℕ). length u) exactly ∙ length-splice t at new inside in
    let is_length : trace_length v.head (with_value v.head t place x) ≡ Some (length (with_value v.head t place x)) = a.length ∙ ap (λ (n : ℕ). let o : Option ℕ = Some n in o) (sym same) in
    let recut = cut_with_trace s.reading s.limits v (p - 1) (with_value v.head t place x) cut there same is_length in
    let place_is : start_of v (p - 1) + 240 * place.extension + place.byte - 1 ≡ start_of v (p - 1) + at = omega (arith, (stands v.head t place a.has).first) in
    let bytes_are : bytes_of (with_trace v p (with_value v.head t place x)) ≡ splice (bytes_of v) (start_of v (p - 1) + 240 * place.extension + place.byte - 1) place.kind.size new =
    bytes_with_splice v (p - 1) at place.kind.size new there (place_inside v.head t place is a.has) ∙ ap (λ (i : ℕ). splice (bytes_of v) i place.kind.size new) (sym place_is) in
    record {
      volume = subst (λ (file : List ℕ). IsCut file s.reading s.limits (with_trace v p (with_value v.head t place x))) bytes_are recut;
      fields = refl;
      reading = refl;
      limits = refl;
      on_disk = refl;
    }

-- ---- the refusal that is computed

-- the length with the value, measured with its bytes at their place
pub measured : (h : Head) (t : List ℕ) (place : Place) (x : ℤ) (at : ℕ) (new : List ℕ) → at ≡ 240 * place.extension + place.byte - 1 → new ≡ bytes h.order place.kind x
    → not (is_length (trace_length h (splice t at (length new) new)) (length t)) ≡ changes_length h t place x
measured h t place x at new e f =
    let size : length new ≡ place.kind.size = ap (λ (s : List ℕ). length s) f ∙ length-number h.order place.kind x in
    rw (size, e, f) refl

-- the refusal where the trace has the place and the value fits
pub by_length : (h : Head) (t : List ℕ) (place : Place) (x : ℤ) (at : ℕ) (new : List ℕ) (b : Bool) → has_place h t place ≡ true → fits place.kind x ≡ true → at ≡ 240 * place.extension + place.byte - 1 → new ≡ bytes h.order place.kind x
    → b ≡ not (is_length (trace_length h (splice t at (length new) new)) (length t))
    → cond b (Some Frame) None ≡ set_refusal h t (Some place) x
by_length h t place x at new b has fit e f is =
    ap (λ (c : Bool). let o : Option Refusal = cond c (Some Frame) None in o) (is ∙ measured h t place x at new e f) ∙ sym (last_refusal h t place x has fit)

-- the same where the length with the value is compared with the trace's
pub by_changed : (h : Head) (t : List ℕ) (place : Place) (x : ℤ) (at : ℕ) (new : List ℕ) (b : Bool) (o : Option ℕ) (n : ℕ) → has_place h t place ≡ true → fits place.kind x ≡ true → at ≡ 240 * place.extension + place.byte - 1
    → new ≡ bytes h.order place.kind x → o ≡ trace_length h (splice t at (length new) new) → n ≡ length t → b ≡ not (option_eq nat_eq o (Some n)) → cond b (Some Frame) None ≡ set_refusal h t (Some place) x
by_changed h t place x at new b o n has fit e f changed whole is =
    by_length h t place x at new b has fit e f
    (is ∙ rw (changed, whole) refl ∙ same_test (trace_length h (splice t at (length new) new)) (length t))

-- a value that is there stands at a place that the trace has
some_value : (has : Bool) (x : ℤ) → is_some (cond has (Some x) None) ≡ true → has ≡ true
some_value true x e = refl
some_value false x e = absurd cc

pub has_value : (h : Head) (t : List ℕ) (place : Place) (o : Option ℤ) → o ≡ value_of h t place → is_some o ≡ true → has_place h t place ≡ true
has_value h t place o is e = some_value (has_place h t place) (value_at h t place) (sym (ap (λ (p : Option ℤ). is_some p) is) ∙ e)

-- the refusal at the trace that was looked at
pub refused_by : (s : State) (p : ℕ) (place : Place) (x : ℤ) (v : Volume) (h : Head) (t : List ℕ) (r : Option Refusal) → v ≡ s.volume → is_trace v p ≡ true → h ≡ v.head → t ≡ trace_at v p → r ≡ set_refusal h t (Some place) x
    → r ≡ first_refusal s (Set p (field.Place place) x)
refused_by s p place x v h t r same there head e is =
    is
    ∙ ap (λ (k : Head). set_refusal k t (Some place) x) head
    ∙ ap (λ (u : List ℕ). set_refusal v.head u (Some place) x) e
    ∙ ap (λ (w : Volume). set_refusal w.head (trace_at w p) (Some place) x) same
    ∙ sym (refused_at s p place x (ap (λ (w : Volume). is_trace w p) (sym same) ∙ there))

-- ---- the volume that is made

-- the edit is done where the overlay puts the value's bytes at their place
pub after_put : (s : State) (p : ℕ) (place : Place) (x : ℤ) (w : Volume) (at : ℕ) (new : List ℕ) → IsCut (bytes_of s.volume) s.reading s.limits s.volume → first_refusal s (Set p (field.Place place) x) ≡ None
    → at ≡ 240 * place.extension + place.byte - 1 → new ≡ bytes s.volume.head.order place.kind x → w ≡ with_trace s.volume p (splice (trace_at s.volume p) at (length new) new)
    → IsAfter s (Set p (field.Place place) x) (record s { volume = w })
after_put s p place x w at new cut none e f is =
    let v : Volume = s.volume in
    let a : Accepted v p place x = accepted s p place x none in
    let size : length new ≡ place.kind.size = ap (λ (u : List ℕ). length u) f ∙ length-number v.head.order place.kind x in
    let same : w ≡ with_trace v p (with_value v.head (trace_at v p) place x) = is ∙ rw (size, e, f) refl in
    subst (λ (u : Volume). IsAfter s (Set p (field.Place place) x) (record s { volume = u })) (sym same) (is_after s p place x cut a)

-- and the volume is the cut of its bytes again
pub cut_again : (s : State) (p : ℕ) (place : Place) (x : ℤ) (w : Volume) → IsAfter s (Set p (field.Place place) x) (record s { volume = w }) → IsCut (bytes_of w) s.reading s.limits w
cut_again s p place x w after = subst (λ (file : List ℕ). IsCut file s.reading s.limits w) (sym after.volume.joined) after.volume

-- the bytes lie inside the trace
pub put_inside : (s : State) (p : ℕ) (place : Place) (x : ℤ) (at : ℕ) (new : List ℕ) → IsCut (bytes_of s.volume) s.reading s.limits s.volume → first_refusal s (Set p (field.Place place) x) ≡ None
    → at ≡ 240 * place.extension + place.byte - 1 → new ≡ bytes s.volume.head.order place.kind x → at + length new ≤ length (trace_at s.volume p)
put_inside s p place x at new cut none e f =
    let a : Accepted s.volume p place x = accepted s p place x none in
    let size : length new ≡ place.kind.size = ap (λ (u : List ℕ). length u) f ∙ length-number s.volume.head.order place.kind x in
    let inside = place_inside s.volume.head (trace_at s.volume p) place (whole_trace s p cut a.first a.last) a.has in
    rw (e, size) inside

-- and leave it a whole trace
pub put_whole : (s : State) (p : ℕ) (place : Place) (x : ℤ) (at : ℕ) (new : List ℕ) → IsCut (bytes_of s.volume) s.reading s.limits s.volume → first_refusal s (Set p (field.Place place) x) ≡ None
    → at ≡ 240 * place.extension + place.byte - 1 → new ≡ bytes s.volume.head.order place.kind x → IsTrace s.volume.head (splice (trace_at s.volume p) at (length new) new)
put_whole s p place x at new cut none e f =
    let h : Head = s.volume.head in
    let t : List ℕ = trace_at s.volume p in
    let a : Accepted s.volume p place x = accepted s p place x none in
    let is : IsTrace h t = whole_trace s p cut a.first a.last in
    let size : length new ≡ place.kind.size = ap (λ (u : List ℕ). length u) f ∙ length-number h.order place.kind x in
    let same : with_value h t place x ≡ splice t at (length new) new = rw (size, e, f) refl in
    let len : length (splice t at (length new) new) ≡ length t = length-splice t at new (put_inside s p place x at new cut none e f) in
    record {
      whole = omega (arith, len, is.whole);
      exact = ap (trace_length h) (sym same) ∙ a.length ∙ ap (λ (n : ℕ). let o : Option ℕ = Some n in o) (sym len);
    }
