-- Two numbers of a trace in the place of one another: the bytes that lie where the two places lie together, and what is refused.
use Rattle.std.proofs.Common.{◌≡◌, ℕ, ℤ, ◌+◌, ◌*◌, ◌-◌, ◌<◌, ◌≤◌, ◌^◌, Bool, true, false, ◌&&◌, leb, cond, List, [], ◌++◌, length, take, drop, get_or, Option, Some, None, inl, inr, refl, sym, ap, ap₂, ◌∙◌, arith, append_assoc, append-nil}
use Rattle.std.specs.Prelude.{not, nat_eq, min, max, if◌then◌else◌}
use Rattle.std.specs.Option.{option_eq, option_or}
use Rattle.std.proofs.lemmas.List.{length-append, length-take-le, length-drop, take-append-drop, take-append-le, drop-append-le, drop-drop, take_at, drop_at}
use Rattle.std.proofs.Math.Nat.{mul-le-mul_right}
use Rattle.std.proofs.lemmas.Bool.{le-leb}
use Rattle.num_order.specs.declared.order.Order.{Order}
use Rattle.num_order.specs.Number.{bytes, fits, IsSize}
use Rattle.num_order.proofs.InRangeLemmas.{length-number}
use Rattle.field_map.specs.declared.place.Place.{Place}
use Rattle.field_map.specs.Places.{offset_of}
use Rattle.frame_cut.specs.declared.file_head.Head.{Head}
use Rattle.frame_cut.specs.Cuts.{IsTrace}
use Rattle.frame_cut.specs.Frames.{trace_length}
use Rattle.frame_cut.specs.Splice.{splice}
use Rattle.frame_cut.specs.Traces.{count_of, is_trace}
use Rattle.frame_cut.specs.Volume.{Volume}
use Rattle.frame_cut.proofs.EditLemmas.{length-splice, splice_inside}
use Rattle.trace_store.specs.Each.{part_of}
use Rattle.trace_view.specs.Values.{has_place, is_in_header, samples_at, value_at, value_of}
use Rattle.bench_rules.specs.declared.refusal.Refusal.{Refusal}
use Rattle.bench_rules.specs.declared.refusal.Refusal.TheVariants.{DoesNotFit, Frame, NoPlace}
use Rattle.bench_rules.specs.SetRefusals.{changes_length, set_refusal}
use Rattle.bench_rules.specs.SwappedFields.{half_swapped, swap_refusal, swapped}
use Rattle.bench_rules.proofs.PlaceLemmas.{place_inside, sized, stands}
use Rattle.bench_rules.proofs.SetLemmas.{by_changed}
use Rattle.bench_rules.specs.Conditions.{AreRising}
use Rattle.bench_rules.proofs.SwapLemmas.{IsSet, is_set, rising_at}
use Rattle.many_traces.specs.Spans.{span_size, span_start, HasSpan}

-- ---- bytes over bytes

-- a list in three parts
in_three : (t : List ℕ) (at size : ℕ) → take at t ++ (take size (drop at t) ++ drop (at + size) t) ≡ t
in_three t at size =
    ap (λ (l : List ℕ). take at t ++ (take size (drop at t) ++ l)) (sym (drop-drop size at t))
    ∙ ap (λ (l : List ℕ). take at t ++ l) (take-append-drop size (drop at t))
    ∙ take-append-drop at t

length-part : (t : List ℕ) (at size : ℕ) → at + size ≤ length t → length (take size (drop at t)) ≡ size
length-part t at size inside = length-take-le size (drop at t) (omega (arith, length-drop at t, inside))

-- bytes over a part of a list, which is laid over the list again, are bytes over the list
over_part : (t : List ℕ) (at size i n : ℕ) (new : List ℕ) → at + size ≤ length t → i + n ≤ size → splice t at size (splice (take size (drop at t)) i n new) ≡ splice t (at + i) n new
over_part t at size i n new inside within =
    let x : List ℕ = take at t in
    let y : List ℕ = take size (drop at t) in
    let z : List ℕ = drop (at + size) t in
    append_assoc x (splice y i n new) z
    ∙ sym (splice_inside x y z i n new (omega (arith, length-part t at size inside, within)))
    ∙ ap (λ (l : List ℕ). splice l (length x + i) n new) (in_three t at size)
    ∙ ap (λ (k : ℕ). splice t (k + i) n new) (length-take-le at t (omega (arith, inside)))

-- of two lists of bytes over the same part the second stays
laid_again : (t : List ℕ) (at size : ℕ) (one two : List ℕ) → at + size ≤ length t → length one ≡ size → splice (splice t at size one) at size two ≡ splice t at size two
laid_again t at size one two inside long =
    let x : List ℕ = take at t in
    let z : List ℕ = drop (at + size) t in
    let front : length x ≡ at = length-take-le at t (omega (arith, inside)) in
    let both : length (x ++ one) ≡ at + size = omega (arith, length-append x one, front, long) in
    let before : take at (x ++ one ++ z) ≡ x = ap (take at) (append_assoc x one z) ∙ take_at x (one ++ z) at front in
    let behind : drop (at + size) (x ++ one ++ z) ≡ z = drop_at (x ++ one) z (at + size) both in
    ap₂ (λ (l : List ℕ) (r : List ℕ). l ++ two ++ r) before behind

-- and it is what lies there
lies_there : (t : List ℕ) (at size : ℕ) (one : List ℕ) → at + size ≤ length t → length one ≡ size → take size (drop at (splice t at size one)) ≡ one
lies_there t at size one inside long =
    let x : List ℕ = take at t in
    let z : List ℕ = drop (at + size) t in
    let front : length x ≡ at = length-take-le at t (omega (arith, inside)) in
    ap (λ (l : List ℕ). take size (drop at l)) (append_assoc x one z)
    ∙ ap (take size) (drop_at x (one ++ z) at front)
    ∙ take_at one z size long

-- bytes in the place of as many leave as many
as_long : (t : List ℕ) (at n : ℕ) (new : List ℕ) → length new ≡ n → at + n ≤ length t → length (splice t at n new) ≡ length t
as_long t at n new long inside = ap (λ (k : ℕ). length (splice t at k new)) (sym long) ∙ length-splice t at new (omega (arith, long, inside))

-- two lists of bytes over a part, one after the other
pub laid_both : (t : List ℕ) (at size i n j m : ℕ) (one two part first second : List ℕ) → at + size ≤ length t → at ≤ i → i + n ≤ at + size → at ≤ j → j + m ≤ at + size → length one ≡ n
    → part ≡ take size (drop at t) → first ≡ splice part (i - at) n one → second ≡ splice first (j - at) m two
    → splice t at size second ≡ splice (splice t i n one) j m two
laid_both t at size i n j m one two part first second inside low high low' high' long is is' is'' =
    let u : List ℕ = splice t at size first in
    let place : at + (i - at) ≡ i = omega (arith, low) in
    let place' : at + (j - at) ≡ j = omega (arith, low') in
    let whole : length part ≡ size = ap (λ (l : List ℕ). length l) is ∙ length-part t at size inside in
    let whole' : length first ≡ size = ap (λ (l : List ℕ). length l) is' ∙ as_long part (i - at) n one long (omega (arith, whole, low, high)) ∙ whole in
    let half : u ≡ splice t i n one =
    ap (splice t at size) (is' ∙ ap (λ (l : List ℕ). splice l (i - at) n one) is) ∙ over_part t at size (i - at) n one inside (omega (arith, low, high)) ∙ ap (λ (k : ℕ). splice t k n one) place in
    let there : take size (drop at u) ≡ first = lies_there t at size first inside whole' in
    let still : at + size ≤ length u = omega (arith, as_long t at size first whole' inside, inside) in
    sym (laid_again t at size first second inside whole')
    ∙ ap (splice u at size) (is'' ∙ ap (λ (l : List ℕ). splice l (j - at) m two) (sym there))
    ∙ over_part u at size (j - at) m two still (omega (arith, low', high'))
    ∙ ap (λ (k : ℕ). splice u k m two) place'
    ∙ ap (λ (l : List ℕ). splice l j m two) half

-- ---- where the places lie

-- both lie in their span, and some bytes of the trace do
pub record SpansBoth (a b : Place) (t : List ℕ) : Type 0 where
  pub start-first : span_start (a, b) ≤ offset_of a
  pub end-first : offset_of a + a.kind.size ≤ span_start (a, b) + span_size (a, b)
  pub start-second : span_start (a, b) ≤ offset_of b
  pub end-second : offset_of b + b.kind.size ≤ span_start (a, b) + span_size (a, b)
  pub has : HasSpan (a, b) t

spans : (i n j m long : ℕ) → 0 < n → i + n ≤ long → j + m ≤ long
    → (min i j ≤ i) × (i + n ≤ min i j + (max (i + n) (j + m) - min i j)) × (min i j ≤ j) × (j + m ≤ min i j + (max (i + n) (j + m) - min i j)) × (0 < max (i + n) (j + m) - min i j) × (min i j + (max (i + n) (j + m) - min i j) ≤ long)
spans i n j m long some inside inside' =
    (omega arith, omega arith, omega arith, omega arith, omega (arith, some), omega (arith, inside, inside'))

size_some : (n : ℕ) → IsSize n → 0 < n
size_some n (inl e) = omega (arith, e)
size_some n (inr (inl e)) = omega (arith, e)
size_some n (inr (inr (inl e))) = omega (arith, e)
size_some n (inr (inr (inr (inl e)))) = omega (arith, e)
size_some n (inr (inr (inr (inr e)))) = omega (arith, e)

pub spans_both : (h : Head) (t : List ℕ) (a b : Place) → IsTrace h t → has_place h t a ≡ true → has_place h t b ≡ true → SpansBoth a b t
spans_both h t a b is first second =
    let some : 0 < a.kind.size = size_some a.kind.size (sized a.kind.size (stands h t a first).size) in
    let s = spans (offset_of a) a.kind.size (offset_of b) b.kind.size (length t) some (place_inside h t a is first) (place_inside h t b is second) in
    record { start-first = s.0; end-first = s.1; start-second = s.2; end-second = s.3; has = (s.4, s.5) }

-- the bytes of both numbers over their places in the span, laid over the trace
pub laid_swapped : (h : Head) (t : List ℕ) (a b : Place) (o : Order) (x y : ℤ) (from at : ℕ) (old part first second : List ℕ) → SpansBoth a b t → at ≡ span_start (a, b) → length old ≡ span_size (a, b) → o ≡ h.order → x ≡ value_at h t a → y ≡ value_at h t b
    → from ≡ at → part ≡ take (length old) (drop from t) → first ≡ splice part (offset_of a - at) a.kind.size (bytes o a.kind y) → second ≡ splice first (offset_of b - at) b.kind.size (bytes o b.kind x)
    → splice t (span_start (a, b)) (span_size (a, b)) second ≡ swapped h (a, b) t
laid_swapped h t a b o x y from at old part first second s start size order x-is y-is from-is part-is first-is second-is =
    let one : List ℕ = bytes o a.kind y in
    let two : List ℕ = bytes o b.kind x in
    laid_both t (span_start (a, b)) (span_size (a, b)) (offset_of a) a.kind.size (offset_of b) b.kind.size one two part first second s.has.1 s.start-first s.end-first s.start-second s.end-second (length-number o a.kind y)
    (part-is ∙ ap (λ (n : ℕ). take n (drop from t)) size ∙ ap (λ (n : ℕ). take (span_size (a, b)) (drop n t)) (from-is ∙ start))
    (first-is ∙ ap (λ (n : ℕ). splice part (offset_of a - n) a.kind.size one) start)
    (second-is ∙ ap (λ (n : ℕ). splice first (offset_of b - n) b.kind.size two) start)
    ∙ ap (λ (l : List ℕ). splice (splice t (offset_of a) a.kind.size l) (offset_of b) b.kind.size two) (ap₂ (λ (q : Order) (z : ℤ). bytes q a.kind z) order y-is)
    ∙ ap (λ (l : List ℕ). splice (half_swapped h (a, b) t) (offset_of b) b.kind.size l) (ap₂ (λ (q : Order) (z : ℤ). bytes q b.kind z) order x-is)

-- and in the headers of the trace
pub spans_front : (h : Head) (t : List ℕ) (a b : Place) → has_place h t a ≡ true → has_place h t b ≡ true → span_start (a, b) + span_size (a, b) ≤ samples_at h t
spans_front h t a b first second =
    let f = stands h t a first in
    let g = stands h t b second in
    let some : 0 < a.kind.size = size_some a.kind.size (sized a.kind.size f.size) in
    (spans (offset_of a) a.kind.size (offset_of b) b.kind.size (samples_at h t) some (omega (arith, f.first, f.last, f.header)) (omega (arith, g.first, g.last, g.header))).5

-- ---- what is refused

-- the value at a place is its number
pub number_there : (h : Head) (t : List ℕ) (place : Place) (x : ℤ) → Some x ≡ value_of h t place → x ≡ value_at h t place
number_there h t place x e = by (has_place h t place) e
  where
    by : (has : Bool) → (let o : Option ℤ = Some x in o) ≡ (if has then Some (value_at h t place) else None) → x ≡ value_at h t place
    by true f = cc
    by false f = absurd cc

-- a trace that lacks one of the places
pub lacks_first : (h : Head) (t : List ℕ) (a b : Place) → None ≡ value_of h t a → Some NoPlace ≡ swap_refusal h (a, b) t
lacks_first h t a b e = by _ (has_place h t a) (has_place h t b) e
  where
    by : (R : Option Refusal) (x y : Bool) → (let o : Option ℤ = None in o) ≡ (if x then Some (value_at h t a) else None) → Some NoPlace ≡ (if not (x && y) then Some NoPlace else R)
    by R true y f = absurd cc
    by R false y f = refl

pub lacks_second : (h : Head) (t : List ℕ) (a b : Place) → None ≡ value_of h t b → Some NoPlace ≡ swap_refusal h (a, b) t
lacks_second h t a b e = by _ (has_place h t a) (has_place h t b) e
  where
    by : (R : Option Refusal) (x y : Bool) → (let o : Option ℤ = None in o) ≡ (if y then Some (value_at h t b) else None) → Some NoPlace ≡ (if not (x && y) then Some NoPlace else R)
    by R x true f = absurd cc
    by R true false f = refl
    by R false false f = refl

module _ (h : Head) (t : List ℕ) (a b : Place) (first : has_place h t a ≡ true) (second : has_place h t b ≡ true) where
  abbrev x : ℤ
  x = value_at h t a

  abbrev y : ℤ
  y = value_at h t b

  abbrev half : List ℕ
  half = half_swapped h (a, b) t

  -- where it has both, the two sets decide
  by_sets : swap_refusal h (a, b) t ≡ option_or (set_refusal h t (Some a) y) (set_refusal h half (Some b) x)
  by_sets =
      ap₂ (λ (p : Bool) (q : Bool). let o : Option Refusal = if not (p && q) then Some NoPlace else option_or (set_refusal h t (Some a) y) (set_refusal h half (Some b) x) in o) first second

  pub refused_first : (r : Refusal) → set_refusal h t (Some a) y ≡ Some r → Some r ≡ swap_refusal h (a, b) t
  refused_first r e = sym (by_sets ∙ ap (λ (o : Option Refusal). option_or o (set_refusal h half (Some b) x)) e)

  module _ (is : IsTrace h t) (free : set_refusal h t (Some a) y ≡ None) where
    by_second : swap_refusal h (a, b) t ≡ set_refusal h half (Some b) x
    by_second = by_sets ∙ ap (λ (o : Option Refusal). option_or o (set_refusal h half (Some b) x)) free

    set : IsSet h t a y
    set = is_set h t a y is free

    still : has_place h half b ≡ true
    still = ap (λ (n : ℕ). is_in_header b && leb b.extension n) set.extensions ∙ second

    pub refused_number : fits b.kind x ≡ false → Some DoesNotFit ≡ swap_refusal h (a, b) t
    refused_number unfit =
        sym (by_second
        ∙ ap₂ (λ (p : Bool) (q : Bool). let o : Option Refusal = if not p then Some NoPlace else if not q then Some DoesNotFit else if changes_length h half b x then Some Frame else None in o) still unfit)

    -- and where the second number fits, the length of the trace with both decides
    pub by_length_of_both : (at size : ℕ) (part : List ℕ) (changed : Bool) (o : Option ℕ) (n : ℕ) → fits b.kind x ≡ true → splice t at size part ≡ swapped h (a, b) t → length part ≡ size
        → o ≡ trace_length h (splice t at (length part) part) → n ≡ length t → changed ≡ not (option_eq nat_eq o (Some n)) → cond changed (Some Frame) None ≡ swap_refusal h (a, b) t
    by_length_of_both at size part changed o n fit laid long measured whole is-changed =
        let new : List ℕ = bytes h.order b.kind x in
        let over : splice t at (length part) part ≡ splice half (offset_of b) (length new) new =
        ap (λ (k : ℕ). splice t at k part) long ∙ laid ∙ ap (λ (k : ℕ). splice half (offset_of b) k new) (sym (length-number h.order b.kind x)) in
        by_changed h half b x (offset_of b) new changed o n still fit refl refl (measured ∙ ap (trace_length h) over) (whole ∙ sym set.long) is-changed
        ∙ sym by_second

-- ---- many traces

-- a listed trace is there
pub listed_there : (v : Volume) (ps : List ℕ) (k : ℕ) → AreRising 1 (count_of v) ps → k < length ps → is_trace v (get_or ps k 0) ≡ true
listed_there v ps k up less = let at = rising_at 1 (count_of v) ps k up less in rw (le-leb 1 (get_or ps k 0) at.0, le-leb (get_or ps k 0) (count_of v) at.1) refl

-- room for the parts of all
pub room_for_all : (n size : ℕ) → n < 2 ^ 32 → size < 2 ^ 24 → n * size < 2 ^ 64
room_for_all n size few small =
    let less : n * size ≤ 4294967296 * size = mul-le-mul_right size (omega (arith, few)) in
    omega (arith, less, small)

-- ---- parts of many traces

-- the next part behind others
pub part-next : (bs part : List ℕ) (size k : ℕ) → length bs ≡ k * size → length part ≡ size → part_of (bs ++ part) size k ≡ part
part-next bs part size k long whole =
    ap (take size) (drop_at bs part (k * size) long) ∙ ap (λ (l : List ℕ). take size l) (sym (append-nil part)) ∙ take_at part [] size whole

-- and those in front of it
pub part-before : (bs part : List ℕ) (size j k : ℕ) → j < k → length bs ≡ k * size → part_of (bs ++ part) size j ≡ part_of bs size j
part-before bs part size j k less long =
    let more : (j + 1) * size ≤ k * size = times j k size less in
    let next : (j + 1) * size ≡ j * size + size = omega arith in
    ap (take size) (drop-append-le (j * size) bs part (omega (arith, more, next, long)))
    ∙ take-append-le size (drop (j * size) bs) part (omega (arith, length-drop (j * size) bs, more, next, long))
  where
    times : (i n s : ℕ) → i < n → (i + 1) * s ≤ n * s
    times i n s l = mul-le-mul_right s (omega (arith, l))
