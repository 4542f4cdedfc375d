-- Two numbers of a trace that change places, and change again.
use Rattle.std.proofs.Common.{◌≡◌, ℕ, ℤ, ◌+◌, ◌*◌, ◌-◌, ◌≤◌, ◌⊎◌, inl, inr, Bool, true, ◌&&◌, cond, leb, not, List, length, take, drop, Option, Some, None, refl, sym, ap, subst, ◌∙◌, arith}
use Rattle.std.specs.Prelude.{if◌then◌else◌}
use Rattle.std.specs.Option.{option_or}
use Rattle.std.proofs.lemmas.Bool.{eq-eqb}
use Rattle.num_order.specs.Number.{IsSize, bytes, fits, num}
use Rattle.num_order.proofs.InRangeLemmas.{in_range, length-number}
use Rattle.num_order.proofs.RoundTripLemmas.{reads_back}
use Rattle.field_map.specs.declared.place.Place.{Place}
use Rattle.frame_cut.specs.declared.file_head.Head.{Head}
use Rattle.frame_cut.specs.Cuts.{IsTrace}
use Rattle.frame_cut.specs.Frames.{extensions_of, header_bytes, trace_length}
use Rattle.frame_cut.specs.Splice.{splice}
use Rattle.trace_view.specs.Values.{has_place, is_in_header, value_at}
use Rattle.bench_rules.specs.declared.refusal.Refusal.{Refusal}
use Rattle.bench_rules.specs.declared.refusal.Refusal.TheVariants.{Frame, NoPlace}
use Rattle.bench_rules.specs.Refused.{is_length, set_refusal, with_value}
use Rattle.bench_rules.specs.SwappedFields.{half_swapped, swap_refusal, swapped}
use Rattle.bench_rules.proofs.FirstLemmas.{both_none}
use Rattle.bench_rules.proofs.PlaceLemmas.{place_inside, sized, stands}
use Rattle.bench_rules.proofs.SetLemmas.{last_refusal, unless}
use Rattle.bench_rules.proofs.SwapLemmas.{IsSet, IsSwapped, is_set, is_swapped}
use Rattle.chosen_laws.specs.SwapLaws.{AreApart, IsBeside, IsNoLength}
use Rattle.chosen_laws.proofs.PutLemmas.{beside, either_turn, put_back, put_over, shown}
use Rattle.chosen_laws.proofs.WrittenLemmas.{AreBytes, part_fits, written_again}

-- a value is not refused that makes a whole trace of the same length
allowed : (h : Head) (t u : List ℕ) (place : Place) (x : ℤ) → has_place h t place ≡ true → fits place.kind x ≡ true → with_value h t place x ≡ u → trace_length h u ≡ Some (length t) → set_refusal h t (Some place) x ≡ None
allowed h t u place x has fit e exact =
    let same : is_length (trace_length h (with_value h t place x)) (length t) ≡ true = rw (e, exact) (eq-eqb (length t) (length t) refl) in
    last_refusal h t place x has fit ∙ ap (λ (b : Bool). let o : Option Refusal = cond (not b) (Some Frame) None in o) same

-- a trace with as many header extensions has the same places
same_places : (h : Head) (t u : List ℕ) (place : Place) → extensions_of h u ≡ extensions_of h t → has_place h t place ≡ true → has_place h u place ≡ true
same_places h t u place e has = ap (λ (n : ℕ). is_in_header place && leb place.extension n) e ∙ has

-- bytes beside a place are away from it
away-from : (place : Place) (at size : ℕ) → IsBeside place at size → (at + size ≤ 240 * place.extension + place.byte - 1) ⊎ (240 * place.extension + place.byte - 1 + place.kind.size ≤ at)
away-from place at size (inl low) = inr low
away-from place at size (inr low) = inl low

-- bytes beside those that say how long the trace is leave its length
length_by : (h : Head) (t u : List ℕ) → header_bytes 0 115 2 u ≡ header_bytes 0 115 2 t → header_bytes 1 137 4 u ≡ header_bytes 1 137 4 t → header_bytes 1 157 2 u ≡ header_bytes 1 157 2 t → trace_length h u ≡ trace_length h t
length_by h t u short wide extensions = rw (short, wide, extensions) refl

length_kept : (h : Head) (place : Place) (t new : List ℕ) → length new ≡ place.kind.size → 240 * place.extension + place.byte - 1 + place.kind.size ≤ length t → IsNoLength place
    → trace_length h (splice t (240 * place.extension + place.byte - 1) place.kind.size new) ≡ trace_length h t
length_kept h place t new size inside none =
    let at : ℕ = 240 * place.extension + place.byte - 1 in
    let n : ℕ = place.kind.size in
    length_by h t (splice t at n new)
    (beside t at n new size inside 114 2 (away-from place 114 2 none.0))
    (beside t at n new size inside 376 4 (away-from place 376 4 none.1))
    (beside t at n new size inside 396 2 (away-from place 396 2 none.2))

-- neither the places nor the sets are refused
both_pass : (one two : Bool) (o q : Option Refusal) → one ≡ true → two ≡ true → o ≡ None → q ≡ None → (if not (one && two) then Some NoPlace else option_or o q) ≡ None
both_pass one two o q e f g k = rw (e, f, g, k) refl

module _ (h : Head) (places : Place × Place) (t : List ℕ) (is : IsTrace h t) (each : AreBytes t) (away : AreApart places) (free : swap_refusal h places t ≡ None) where
  abbrev a : Place
  a = places.0

  abbrev b : Place
  b = places.1

  abbrev x : ℤ
  x = value_at h t a

  abbrev y : ℤ
  y = value_at h t b

  -- where the places begin
  abbrev at_a : ℕ
  at_a = 240 * a.extension + a.byte - 1

  abbrev at_b : ℕ
  at_b = 240 * b.extension + b.byte - 1

  abbrev half : List ℕ
  half = half_swapped h places t

  abbrev new : List ℕ
  new = swapped h places t

  whole : IsSwapped h places t
  whole = is_swapped h places t is free

  sets : (set_refusal h t (Some a) y ≡ None) × (set_refusal h half (Some b) x ≡ None)
  sets = both_none (set_refusal h t (Some a) y) (set_refusal h half (Some b) x) (unless (has_place h t a && has_place h t b) NoPlace _ free).1

  one : IsSet h t a y
  one = is_set h t a y is sets.0

  two : IsSet h half b x
  two = is_set h half b x one.whole sets.1

  inside_a : at_a + a.kind.size ≤ length t
  inside_a = place_inside h t a is whole.first

  inside_b : at_b + b.kind.size ≤ length t
  inside_b = place_inside h t b is whole.second

  inside_half : at_b + b.kind.size ≤ length half
  inside_half = omega (arith, one.long, inside_b)

  size_a : IsSize a.kind.size
  size_a = sized a.kind.size (stands h t a whole.first).size

  size_b : IsSize b.kind.size
  size_b = sized b.kind.size (stands h t b whole.second).size

  long_a : (z : ℤ) → length (bytes h.order a.kind z) ≡ a.kind.size
  long_a z = length-number h.order a.kind z

  long_b : (z : ℤ) → length (bytes h.order b.kind z) ≡ b.kind.size
  long_b z = length-number h.order b.kind z

  flipped : (at_b + b.kind.size ≤ at_a) ⊎ (at_a + a.kind.size ≤ at_b)
  flipped = by away
    where
      by : AreApart places → (at_b + b.kind.size ≤ at_a) ⊎ (at_a + a.kind.size ≤ at_b)
      by (inl low) = inr low
      by (inr low) = inl low

  -- the numbers have changed places
  read_b : value_at h new b ≡ x
  read_b =
      ap (num h.order b.kind) (shown half at_b b.kind.size (bytes h.order b.kind x) (long_b x) inside_half)
      ∙ reads_back h.order b.kind x size_b (in_range b.kind x two.fits)

  read_a : value_at h new a ≡ y
  read_a =
      ap (num h.order a.kind) (beside half at_b b.kind.size (bytes h.order b.kind x) (long_b x) inside_half at_a a.kind.size away
      ∙ shown t at_a a.kind.size (bytes h.order a.kind y) (long_a y) inside_a)
      ∙ reads_back h.order a.kind y size_a (in_range a.kind y one.fits)

  -- the first set of the way back makes what the first set made
  half_back : with_value h new b y ≡ half
  half_back =
      let back : bytes h.order b.kind y ≡ take b.kind.size (drop at_b t) = written_again h.order b.kind at_b t size_b inside_b each in
      put_over half at_b b.kind.size (bytes h.order b.kind x) (long_b x) inside_half (bytes h.order b.kind y)
      ∙ either_turn t at_a a.kind.size at_b b.kind.size (bytes h.order a.kind y) (bytes h.order b.kind y) (long_a y) (long_b y) away inside_a inside_b
      ∙ ap (λ (s : List ℕ). splice (splice t at_b b.kind.size s) at_a a.kind.size (bytes h.order a.kind y)) back
      ∙ ap (λ (s : List ℕ). splice s at_a a.kind.size (bytes h.order a.kind y)) (put_back t at_b b.kind.size)

  -- and the second makes the trace as it was
  whole_back : with_value h half a x ≡ t
  whole_back =
      let back : bytes h.order a.kind x ≡ take a.kind.size (drop at_a t) = written_again h.order a.kind at_a t size_a inside_a each in
      put_over t at_a a.kind.size (bytes h.order a.kind y) (long_a y) inside_a (bytes h.order a.kind x)
      ∙ ap (λ (s : List ℕ). splice t at_a a.kind.size s) back
      ∙ put_back t at_a a.kind.size

  half_again : half_swapped h (b, a) new ≡ half
  half_again = ap (λ (z : ℤ). with_value h new b z) read_a ∙ half_back

  pub swapped_back : swapped h (b, a) new ≡ t
  swapped_back = ap (λ (z : ℤ). with_value h (half_swapped h (b, a) new) a z) read_b ∙ (ap (λ (u : List ℕ). with_value h u a x) half_again ∙ whole_back)

  pub swapped_twice : swapped h (a, b) new ≡ t
  swapped_twice =
      let inside : at_a + a.kind.size ≤ length new = omega (arith, whole.long, inside_a) in
      let there : at_b + b.kind.size ≤ length new = omega (arith, whole.long, inside_b) in
      either_turn new at_a a.kind.size at_b b.kind.size (bytes h.order a.kind (value_at h new b)) (bytes h.order b.kind (value_at h new a)) (long_a _) (long_b _) away inside there
      ∙ swapped_back

  pub back_not_refused : swap_refusal h (b, a) new ≡ None
  back_not_refused =
      let has_a : has_place h new a ≡ true = same_places h t new a whole.extensions whole.first in
      let has_b : has_place h new b ≡ true = same_places h t new b whole.extensions whole.second in
      let fit_b : fits b.kind y ≡ true = part_fits h.order b.kind at_b t size_b inside_b each in
      let fit_a : fits a.kind x ≡ true = part_fits h.order a.kind at_a t size_a inside_a each in
      let some = λ (n : ℕ) (m : ℕ) (e : n ≡ m). ap (λ (k : ℕ). let o : Option ℕ = Some k in o) e in
      let first : set_refusal h new (Some b) (value_at h new a) ≡ None =
      ap (λ (z : ℤ). set_refusal h new (Some b) z) read_a
      ∙ allowed h new half b y has_b fit_b half_back (one.whole.exact ∙ some (length half) (length new) (one.long ∙ sym whole.long)) in
      let second : set_refusal h (half_swapped h (b, a) new) (Some a) (value_at h new b) ≡ None =
      ap (λ (z : ℤ). set_refusal h (half_swapped h (b, a) new) (Some a) z) read_b
      ∙ ap (λ (u : List ℕ). set_refusal h u (Some a) x) half_again
      ∙ allowed h half t a x (same_places h t half a one.extensions whole.first) fit_a whole_back (is.exact ∙ some (length t) (length half) (sym one.long)) in
      both_pass _ _ _ _ has_b has_a first second

  -- where neither place says how long the trace is, the same turn is not refused either
  pub twice_not_refused : IsNoLength a → IsNoLength b → swap_refusal h (a, b) new ≡ None
  twice_not_refused short long =
      let has_a : has_place h new a ≡ true = same_places h t new a whole.extensions whole.first in
      let has_b : has_place h new b ≡ true = same_places h t new b whole.extensions whole.second in
      let z : ℤ = value_at h new b in
      let inside : at_a + a.kind.size ≤ length new = omega (arith, whole.long, inside_a) in
      let fit_a : fits a.kind z ≡ true = subst (λ (i : ℤ). fits a.kind i ≡ true) (sym read_b) (part_fits h.order a.kind at_a t size_a inside_a each) in
      let fit_b : fits b.kind (value_at h new a) ≡ true = subst (λ (i : ℤ). fits b.kind i ≡ true) (sym read_a) (part_fits h.order b.kind at_b t size_b inside_b each) in
      let middle : List ℕ = half_swapped h (a, b) new in
      let same : trace_length h middle ≡ Some (length new) = length_kept h a new (bytes h.order a.kind z) (long_a z) inside short ∙ whole.whole.exact in
      let first : set_refusal h new (Some a) z ≡ None = allowed h new middle a z has_a fit_a refl same in
      let set = is_set h new a z whole.whole first in
      let exact : trace_length h t ≡ Some (length middle) = is.exact ∙ ap (λ (k : ℕ). let o : Option ℕ = Some k in o) (sym (set.long ∙ whole.long)) in
      let second : set_refusal h middle (Some b) (value_at h new a) ≡ None = allowed h middle t b (value_at h new a) (same_places h new middle b set.extensions has_b) fit_b swapped_twice exact in
      both_pass _ _ _ _ has_a has_b first second
