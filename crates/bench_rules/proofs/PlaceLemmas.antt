-- A place that a trace has lies in one of its headers.
use Rattle.std.proofs.Common.{◌≡◌, ℕ, ◌+◌, ◌*◌, ◌-◌, ◌<◌, ◌≤◌, Bool, true, false, ◌&&◌, ◌||◌, List, append_assoc, length, take, drop, ◌++◌, Option, Some, None, refl, sym, ap, ◌∙◌, arith, inl, inr}
use Rattle.std.specs.Prelude.{nat_eq, not, option_map, unwrap_or}
use Rattle.std.specs.Option.{option_eq}
use Rattle.std.proofs.lemmas.Bool.{ltb-true, leb-true, eqb-true}
use Rattle.std.proofs.lemmas.List.{length-take, take-append-le, take-append-drop}
use Rattle.field_map.specs.declared.place.Place.{Place}
use Rattle.num_order.specs.Number.{is_size, IsSize}
use Rattle.frame_cut.specs.declared.file_head.Head.{Head}
use Rattle.frame_cut.specs.Cuts.{IsTrace}
use Rattle.frame_cut.specs.Frames.{front_length, extension_count, extensions_of, sample_count, trace_length, length_with}
use Rattle.frame_cut.specs.Splice.{splice}
use Rattle.frame_cut.proofs.EditLemmas.{trace_length-front, length-splice}
use Rattle.sample_codes.specs.Formats.{width}
use Rattle.trace_view.specs.Values.{has_place}
use Rattle.bench_rules.specs.Refused.{is_length}

both : (a b : Bool) → (a && b) ≡ true → (a ≡ true) × (b ≡ true)
both true true e = (refl, refl)
both true false e = absurd cc
both false b e = absurd cc

-- ---- where the place lies

pub record Stands (h : Head) (t : List ℕ) (place : Place) : Type 0 where
  pub size : is_size place.kind.size ≡ true
  pub first : 0 < place.byte
  pub last : place.byte + place.kind.size < 242
  pub header : place.extension ≤ extensions_of h t

pub stands : (h : Head) (t : List ℕ) (place : Place) → has_place h t place ≡ true → Stands h t place
stands h t place e =
    let outer = both _ _ e in
    let inner = both _ _ outer.0 in
    let sized = both _ _ inner.0 in
    record {
      size = sized.0;
      first = ltb-true 0 place.byte sized.1;
      last = ltb-true (place.byte + place.kind.size) 242 inner.1;
      header = leb-true place.extension (extensions_of h t) outer.1;
    }

-- a whole trace has its headers
long : (e : ℕ) (w n length : ℕ) → 240 * (1 + e) + w * n ≡ length → 240 * (1 + e) ≤ length
long e w n len is = omega (arith, is)

counted : (o : Option ℕ) (h : Head) (n len : ℕ) → option_map (λ e. length_with h e n) o ≡ Some len → 240 * (1 + unwrap_or o 0) ≤ len
counted None h n len e = absurd cc
counted (Some k) h n len e =
    let same : length_with h k n ≡ len = cc in
    long k (width h.format) n len same

pub headers-le : (h : Head) (t : List ℕ) → trace_length h t ≡ Some (length t) → 240 * (1 + extensions_of h t) ≤ length t
headers-le h t exact = counted (extension_count h t) h (sample_count h t) (length t) exact

-- the place lies inside the trace
pub place_inside : (h : Head) (t : List ℕ) (place : Place) → IsTrace h t → has_place h t place ≡ true → (240 * place.extension + place.byte - 1) + place.kind.size ≤ length t
place_inside h t place is e =
    let s = stands h t place e in
    omega (arith, headers-le h t is.exact, s.first, s.last, s.header)

-- ---- its size

either : (a b : Bool) {P : Type 0} → (a ≡ true → P) → (b ≡ true → P) → (a || b) ≡ true → P
either true b f g e = f refl
either false b f g e = g e

pub sized : (n : ℕ) → is_size n ≡ true → IsSize n
sized n e =
    either _ _
    (either _ _
    (either _ _
    (either _ _ (λ e1. inl (eqb-true n 1 e1)) (λ e2. inr (inl (eqb-true n 2 e2))))
    (λ e3. inr (inr (inl (eqb-true n 3 e3)))))
    (λ e4. inr (inr (inr (inl (eqb-true n 4 e4))))))
    (λ e8. inr (inr (inr (inr (eqb-true n 8 e8))))) e

pub at_most_8 : (n : ℕ) → IsSize n → n ≤ 8
at_most_8 n (inl e) = omega arith
at_most_8 n (inr (inl e)) = omega arith
at_most_8 n (inr (inr (inl e))) = omega arith
at_most_8 n (inr (inr (inr (inl e)))) = omega arith
at_most_8 n (inr (inr (inr (inr e)))) = omega arith

-- ---- the length that the headers give, with a splice behind them

-- the bytes in front of a splice
take-splice : (t : List ℕ) (f at n : ℕ) (new : List ℕ) → f ≤ at → f ≤ length t → take f (splice t at n new) ≡ take f t
take-splice t f at n new le lt =
    let rest : List ℕ = drop (at + n) t in
    let within : f ≤ length (take at t) = omega (arith, length-take at t) in
    ap (take f) (append_assoc (take at t) new rest)
    ∙ take-append-le f (take at t) (new ++ rest) within
    ∙ sym (take-append-le f (take at t) (drop at t) within)
    ∙ ap (take f) (take-append-drop at t)

-- bytes behind the front leave the length
pub length_same : (h : Head) (t : List ℕ) (at : ℕ) (new : List ℕ) → IsTrace h t → at + length new ≤ length t → front_length h ≤ at → trace_length h (splice t at (length new) new) ≡ Some (length t)
length_same h t at new is inside le =
    let u : List ℕ = splice t at (length new) new in
    let long : front_length h ≤ length u = omega (arith, length-splice t at new inside, is.whole) in
    trace_length-front h u t long is.whole (take-splice t (front_length h) at (length new) new le is.whole) ∙ is.exact

-- whether a length is the trace's
pub same_test : (o : Option ℕ) (n : ℕ) → not (option_eq nat_eq o (Some n)) ≡ not (is_length o n)
same_test None n = refl
same_test (Some m) n = refl
