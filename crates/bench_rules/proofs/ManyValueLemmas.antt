-- A value over one place of each of many traces that follow one another: the volume that it gives, and the bytes that are laid over the traces for it.
use Rattle.std.proofs.Common.{◌≡◌, ℕ, ℤ, zero, suc, ◌+◌, ◌*◌, ◌-◌, ◌/◌, ◌%◌, ◌<◌, ◌≤◌, true, List, [], ◌∷◌, ◌++◌, length, take, drop, map, set, get_or, Option, Some, inl, inr, refl, sym, ap, subst, ◌∙◌, arith, append_assoc, append-nil}
use Rattle.std.specs.List.{concat, flat_map, range_with_len}
use Rattle.std.proofs.lemmas.List.{length-set, length-append, get_or-set_other, take_at, drop_at, drop-drop}
use Rattle.std.proofs.Math.Nat.{mul-div_cancel, mul-mod_left}
use Rattle.num_order.specs.declared.kind.Kind.{Kind}
use Rattle.num_order.specs.declared.order.Order.{Order}
use Rattle.num_order.specs.Number.{bytes, IsSize}
use Rattle.num_order.proofs.InRangeLemmas.{length-number}
use Rattle.field_map.specs.declared.place.Place.{Place}
use Rattle.field_map.specs.Places.{offset_of}
use Rattle.frame_cut.specs.declared.file_head.Head.{Head}
use Rattle.frame_cut.specs.Cuts.{IsTrace, IsCut}
use Rattle.frame_cut.specs.Frames.{extensions_of, trace_length}
use Rattle.frame_cut.specs.Parts.{put_each_at, with_each}
use Rattle.frame_cut.specs.Splice.{splice}
use Rattle.frame_cut.specs.Traces.{count_of, trace_at}
use Rattle.frame_cut.specs.Volume.{Volume, front_of, bytes_of}
use Rattle.frame_cut.proofs.EditLemmas.{length-splice}
use Rattle.frame_cut.proofs.ExtensionLemmas.{extensions_kept}
use Rattle.trace_view.specs.Values.{has_place, samples_at}
use Rattle.trace_store.specs.Each.{part_of}
use Rattle.bench_rules.specs.declared.edit.Edit.TheVariants.{Set}
use Rattle.bench_rules.specs.declared.field.Field.TheVariants as field
use Rattle.bench_rules.specs.Refused.{with_value}
use Rattle.bench_rules.specs.State.{State}
use Rattle.bench_rules.specs.Steps.{IsAfter}
use Rattle.bench_rules.specs.TraceEdits.{put_in_trace, put_each}
use Rattle.bench_rules.proofs.PlaceLemmas.{stands, place_inside, sized, at_most_8}
use Rattle.bench_rules.proofs.SetLemmas.{Accepted, is_after, cut_again, whole_trace}
use Rattle.bench_rules.proofs.SpliceLemmas.{length-take-set}

-- n traces from trace k on, each with its value
abbrev pub valued : (ℕ → ℤ) → ℕ → ℕ → List (ℕ × ℤ)
valued value k n = map (λ p. (p, value p)) (range_with_len k n)

-- each value is accepted at its trace
pub record AreAccepted (v : Volume) (place : Place) (value : ℕ → ℤ) (a n : ℕ) : Type 0 where
  pub low : 1 ≤ a
  pub some : 0 < n
  pub last : a - 1 + n ≤ count_of v
  pub each : (i : ℕ) → i < n → Accepted v (a + i) place (value (a + i))

-- so the place has the size of a number
pub size_of_accepted : (v : Volume) (place : Place) (value : ℕ → ℤ) (a n : ℕ) → AreAccepted v place value a n → IsSize place.kind.size
size_of_accepted v place value a n ok = sized place.kind.size (stands v.head (trace_at v (a + 0)) place (ok.each 0 ok.some).has).size

-- ---- the values' bytes

-- the bytes of the values from number k on
abbrev pub bytes_from : Order → Kind → (ℕ → ℤ) → ℕ → ℕ → List ℕ
bytes_from o kind value k n = flat_map (λ p. bytes o kind (value p)) (range_with_len k n)

-- one more value stands behind the others
pub more_from : (o : Order) (kind : Kind) (value : ℕ → ℤ) (k n : ℕ) → bytes_from o kind value k (n + 1) ≡ bytes_from o kind value k n ++ bytes o kind (value (k + n))
more_from o kind value k zero = let here : k + 0 ≡ k = omega arith in rw here (append-nil (bytes o kind (value k)))
more_from o kind value k (suc n) =
    let next : k + suc n ≡ k + 1 + n = omega arith in
    let more : suc n + 1 ≡ suc (n + 1) = omega arith in
    rw (next, more)
    (ap (λ (s : List ℕ). bytes o kind (value k) ++ s) (more_from o kind value (k + 1) n)
    ∙ sym (append_assoc (bytes o kind (value k)) (bytes_from o kind value (k + 1) n) (bytes o kind (value (k + 1 + n)))))

length-bytes_from : (o : Order) (kind : Kind) (value : ℕ → ℤ) (k n : ℕ) → length (bytes_from o kind value k n) ≡ n * kind.size
length-bytes_from o kind value k zero = omega arith
length-bytes_from o kind value k (suc n) =
    omega (arith, length-append (bytes o kind (value k)) (bytes_from o kind value (k + 1) n), length-number o kind (value k), length-bytes_from o kind value (k + 1) n)

-- the bytes of one of them
part-bytes_from : (o : Order) (kind : Kind) (value : ℕ → ℤ) (k n i : ℕ) → i < n → part_of (bytes_from o kind value k n) kind.size i ≡ bytes o kind (value (k + i))
part-bytes_from o kind value k zero i there = absurd (omega arith)
part-bytes_from o kind value k (suc n) zero there =
    let one : List ℕ = bytes o kind (value k) in
    let here : k + 0 ≡ k = omega arith in
    let none : 0 * kind.size ≡ 0 = omega arith in
    rw (here, none) (take_at one (bytes_from o kind value (k + 1) n) kind.size (length-number o kind (value k)))
part-bytes_from o kind value k (suc n) (suc i) there =
    let one : List ℕ = bytes o kind (value k) in
    let rest : List ℕ = bytes_from o kind value (k + 1) n in
    let size : length one ≡ kind.size = length-number o kind (value k) in
    let more : suc i * kind.size ≡ kind.size + i * kind.size = omega arith in
    let next : k + suc i ≡ k + 1 + i = omega arith in
    rw (next, more)
    (ap (take kind.size) (sym (drop-drop (i * kind.size) kind.size (one ++ rest)) ∙ ap (drop (i * kind.size)) (drop_at one rest kind.size size))
    ∙ part-bytes_from o kind value (k + 1) n i (omega arith))

-- ---- other traces of the same lengths

-- the volume is the cut of its own bytes
abbrev pub IsRead : State → Type 0
IsRead s = IsCut (bytes_of s.volume) s.reading s.limits s.volume

-- the state with other traces
abbrev pub with_traces : State → List (List ℕ) → State
with_traces s ts = record s { volume = record s.volume { traces = ts } }

-- as many traces, each as long as it was, and from trace k on each as it was
pub record IsAlike (old ts : List (List ℕ)) (k : ℕ) : Type 0 where
  pub count : length ts ≡ length old
  pub starts : (i : ℕ) → length (concat (take i ts)) ≡ length (concat (take i old))
  pub ahead : (q : ℕ) → k ≤ q → get_or ts (q - 1) [] ≡ get_or old (q - 1) []

pub alike_first : (old : List (List ℕ)) (k : ℕ) → IsAlike old old k
alike_first old k = record { count = refl; starts = λ i. refl; ahead = λ q le. refl }

alike_next : (old ts : List (List ℕ)) (k : ℕ) (u : List ℕ) → 1 ≤ k → IsAlike old ts k → length u ≡ length (get_or ts (k - 1) []) → IsAlike old (set ts (k - 1) u) (k + 1)
alike_next old ts k u first a same = record {
  count = length-set ts (k - 1) u ∙ a.count;
  starts = λ i. length-take-set ts i (k - 1) u same ∙ a.starts i;
  ahead = λ q le. get_or-set_other ts (k - 1) (q - 1) u [] (λ e. omega (arith, e, le)) ∙ a.ahead q (omega (arith, le));
}

-- a value that is accepted at trace k is accepted there
accepted_alike : (s : State) (ts : List (List ℕ)) (k : ℕ) (place : Place) (x : ℤ) → IsAlike s.volume.traces ts k → Accepted s.volume k place x → Accepted (with_traces s ts).volume k place x
accepted_alike s ts k place x a ok =
    let same : get_or ts (k - 1) [] ≡ trace_at s.volume k = a.ahead k (omega arith) in
    record {
      first = ok.first;
      last = omega (arith, a.count, ok.last);
      has = rw same ok.has;
      fits = ok.fits;
      length = rw same ok.length;
    }

-- and its bytes lie where they lie in the old volume
put_alike : (v : Volume) (ts : List (List ℕ)) (k p : ℕ) (place : Place) (x : ℤ) (file : List ℕ) → IsAlike v.traces ts k
    → put_in_trace (record v { traces = ts }) p place x file ≡ put_in_trace v p place x file
put_alike v ts k p place x file a =
    ap (λ (n : ℕ). splice file (length (front_of v) + n + 240 * place.extension + place.byte - 1) place.kind.size (bytes v.head.order place.kind x)) (a.starts (p - 1))

-- the value leaves the trace its length
pub length-with_value : (h : Head) (t : List ℕ) (place : Place) (x : ℤ) → IsTrace h t → has_place h t place ≡ true → length (with_value h t place x) ≡ length t
length-with_value h t place x is has =
    let new : List ℕ = bytes h.order place.kind x in
    let at : ℕ = 240 * place.extension + place.byte - 1 in
    let size : length new ≡ place.kind.size = length-number h.order place.kind x in
    let inside = place_inside h t place is has in
    ap (λ (n : ℕ). length (splice t at n new)) (sym size) ∙ length-splice t at new (omega (arith, size, inside))

-- ---- one value

-- the traces with the value over the place of trace k
abbrev pub with_one : Head → List (List ℕ) → ℕ → Place → ℤ → List (List ℕ)
with_one h ts k place x = set ts (k - 1) (with_value h (get_or ts (k - 1) []) place x)

-- the bytes lie in the old volume's place, and the traces behind it are as they were
pub record OneValue (s : State) (ts : List (List ℕ)) (k : ℕ) (place : Place) (x : ℤ) : Type 0 where
  pub accepted : Accepted (with_traces s ts).volume k place x
  pub after : IsAfter (with_traces s ts) (Set k (field.Place place) x) (with_traces s (with_one s.volume.head ts k place x))
  pub alike : IsAlike s.volume.traces (with_one s.volume.head ts k place x) (k + 1)
  pub read : IsRead (with_traces s (with_one s.volume.head ts k place x))
  pub bytes : bytes_of (with_traces s (with_one s.volume.head ts k place x)).volume ≡ put_in_trace s.volume k place x (bytes_of (with_traces s ts).volume)

pub one_value : (s : State) (ts : List (List ℕ)) (k : ℕ) (place : Place) (x : ℤ) → IsAlike s.volume.traces ts k → IsRead (with_traces s ts) → Accepted s.volume k place x → OneValue s ts k place x
one_value s ts k place x a cut ok =
    let mid : State = with_traces s ts in
    let new : State = with_traces s (with_one s.volume.head ts k place x) in
    let there = accepted_alike s ts k place x a ok in
    let after = is_after mid k place x cut there in
    let len = length-with_value s.volume.head (get_or ts (k - 1) []) place x (whole_trace mid k cut there.first there.last) there.has in
    record {
      accepted = there;
      after = after;
      alike = alike_next s.volume.traces ts k (with_value s.volume.head (get_or ts (k - 1) []) place x) ok.first a len;
      read = cut_again mid k place x new.volume after;
      bytes = after.volume.joined ∙ put_alike s.volume ts k k place x (bytes_of mid.volume) a;
    }

-- ---- one value after another

-- the traces with the values over the place, n of them from trace k on
abbrev pub with_values : Head → Place → (ℕ → ℤ) → ℕ → ℕ → List (List ℕ) → List (List ℕ)
with_values h place value k zero ts = ts
with_values h place value k (suc n) ts = with_values h place value (k + 1) n (with_one h ts k place (value k))

-- the bytes are those with each value over its place in the old volume
pub record HasValues (s : State) (ts : List (List ℕ)) (place : Place) (ns : List (ℕ × ℤ)) (new : List (List ℕ)) : Type 0 where
  pub read : IsRead (with_traces s new)
  pub bytes : bytes_of (with_traces s new).volume ≡ put_each s.volume place ns (bytes_of (with_traces s ts).volume)

pub values_from : (s : State) (place : Place) (value : ℕ → ℤ) (k n : ℕ) (ts : List (List ℕ)) → IsAlike s.volume.traces ts k → IsRead (with_traces s ts) → ((i : ℕ) → i < n → Accepted s.volume (k + i) place (value (k + i)))
    → HasValues s ts place (valued value k n) (with_values s.volume.head place value k n ts)
values_from s place value k zero ts a cut ok = record { read = cut; bytes = refl }
values_from s place value k (suc n) ts a cut ok =
    let here : k + 0 ≡ k = omega arith in
    let next : (i : ℕ) → k + suc i ≡ k + 1 + i = λ i. omega arith in
    let zeroth : Accepted s.volume k place (value k) = rw here at (ok 0 (omega arith)) in
    let one = one_value s ts k place (value k) a cut zeroth in
    let mid : List (List ℕ) = with_one s.volume.head ts k place (value k) in
    let rest = values_from s place value (k + 1) n mid one.alike one.read (λ i less. rw (next i) at (ok (suc i) (omega (arith, less)))) in
    record {
      read = rest.read;
      bytes = rest.bytes ∙ ap (λ (file : List ℕ). put_each s.volume place (valued value (k + 1) n) file) one.bytes;
    }

-- ---- the values' bytes laid over the traces

pub put_each-none : (ts : List (List ℕ)) (place at size : ℕ) → put_each_at ts place at size [] ≡ ts
put_each-none [] place at size = refl
put_each-none (t ∷ ts) zero at size = refl
put_each-none (t ∷ ts) (suc place) at size = ap (λ (xs : List (List ℕ)). t ∷ xs) (put_each-none ts place at size)

-- the first trace is changed, and then the others
pub put_each-step : (ts : List (List ℕ)) (place at size : ℕ) (bs : List ℕ) → place < length ts → 0 < length bs
    → put_each_at (set ts place (splice (get_or ts place []) at size (take size bs))) (suc place) at size (drop size bs) ≡ put_each_at ts place at size bs
put_each-step [] place at size bs within some = absurd (omega arith)
put_each-step (t ∷ ts) zero at size [] within some = absurd (omega arith)
put_each-step (t ∷ ts) zero at size (x ∷ bs) within some = refl
put_each-step (t ∷ ts) (suc place) at size bs within some = ap (λ (xs : List (List ℕ)). t ∷ xs) (put_each-step ts place at size bs (omega arith) some)

-- they are the traces with the values over the place
put_each_is : (h : Head) (place : Place) (value : ℕ → ℤ) (k n : ℕ) (ts : List (List ℕ)) → 0 < place.kind.size → 1 ≤ k → k - 1 + n ≤ length ts
    → with_values h place value k n ts ≡ put_each_at ts (k - 1) (offset_of place) place.kind.size (bytes_from h.order place.kind value k n)
put_each_is h place value k zero ts some low last = sym (put_each-none ts (k - 1) (offset_of place) place.kind.size)
put_each_is h place value k (suc n) ts some low last =
    let at : ℕ = offset_of place in
    let size : ℕ = place.kind.size in
    let one : List ℕ = bytes h.order place.kind (value k) in
    let rest : List ℕ = bytes_from h.order place.kind value (k + 1) n in
    let mid : List (List ℕ) = with_one h ts k place (value k) in
    let long : length one ≡ size = length-number h.order place.kind (value k) in
    let front : take size (one ++ rest) ≡ one = take_at one rest size long in
    let back : drop size (one ++ rest) ≡ rest = drop_at one rest size long in
    let next : k + 1 - 1 ≡ suc (k - 1) = omega arith in
    let step : put_each_at (set ts (k - 1) (splice (get_or ts (k - 1) []) at size (take size (one ++ rest)))) (suc (k - 1)) at size (drop size (one ++ rest)) ≡ put_each_at ts (k - 1) at size (one ++ rest) =
    put_each-step ts (k - 1) at size (one ++ rest) (omega arith) (omega (arith, length-append one rest, long)) in
    put_each_is h place value (k + 1) n mid some (omega arith) (omega (arith, length-set ts (k - 1) (with_value h (get_or ts (k - 1) []) place (value k))))
    ∙ ap (λ (i : ℕ). put_each_at mid i at size rest) next
    ∙ sym (ap (λ (bs : List ℕ). put_each_at (set ts (k - 1) (splice (get_or ts (k - 1) []) at size bs)) (suc (k - 1)) at size (drop size (one ++ rest))) front
    ∙ ap (λ (bs : List ℕ). put_each_at mid (suc (k - 1)) at size bs) back)
    ∙ step

-- ---- the values' bytes may be laid over the traces

pub record ValuesFitIn (s : State) (a n at size : ℕ) (bs : List ℕ) : Type 0 where
  pub first : 1 ≤ a
  pub some : 0 < size
  pub exact : length bs % size ≡ 0
  pub count : length bs / size ≡ n
  pub last : a - 1 + length bs / size ≤ count_of s.volume
  pub inside : (k : ℕ) → k < length bs / size → at + size ≤ length (get_or s.volume.traces (a - 1 + k) [])
  pub front : (k : ℕ) → k < length bs / size → at + size ≤ samples_at s.volume.head (get_or s.volume.traces (a - 1 + k) [])
  pub whole : (k : ℕ) → k < length bs / size → IsTrace s.volume.head (splice (get_or s.volume.traces (a - 1 + k) []) at size (part_of bs size k))
  pub kept : (k : ℕ) → k < length bs / size → extensions_of s.volume.head (splice (get_or s.volume.traces (a - 1 + k) []) at size (part_of bs size k)) ≡ extensions_of s.volume.head (get_or s.volume.traces (a - 1 + k) [])

-- a size is above 0
pub size-pos : (n : ℕ) → IsSize n → 0 < n
size-pos n (inl e) = omega arith
size-pos n (inr (inl e)) = omega arith
size-pos n (inr (inr (inl e))) = omega arith
size-pos n (inr (inr (inr (inl e)))) = omega arith
size-pos n (inr (inr (inr (inr e)))) = omega arith

-- each lies inside the headers of its trace, and leaves it a whole one, with as many header extensions
record IsPutAt (h : Head) (t : List ℕ) (at size : ℕ) (new : List ℕ) : Type 0 where
  pub inside : at + size ≤ length t
  pub front : at + size ≤ samples_at h t
  pub whole : IsTrace h (splice t at size new)
  pub kept : extensions_of h (splice t at size new) ≡ extensions_of h t

whole_with : (h : Head) (t : List ℕ) (place : Place) (x : ℤ) → IsTrace h t → has_place h t place ≡ true → trace_length h (with_value h t place x) ≡ Some (length t)
    → IsPutAt h t (offset_of place) place.kind.size (bytes h.order place.kind x)
whole_with h t place x is has exact =
    let len : length (with_value h t place x) ≡ length t = length-with_value h t place x is has in
    let there = stands h t place has in
    let new : List ℕ = bytes h.order place.kind x in
    let at : ℕ = offset_of place in
    let size : length new ≡ place.kind.size = length-number h.order place.kind x in
    let few : length new ≤ 8 = omega (arith, size, at_most_8 place.kind.size (sized place.kind.size there.size)) in
    let inside : at + length new ≤ length t = omega (arith, size, place_inside h t place is has) in
    let same : with_value h t place x ≡ splice t at (length new) new = ap (λ (n : ℕ). splice t at n new) (sym size) in
    record {
      kept = ap (extensions_of h) same ∙ extensions_kept h t new at is few inside (sym (ap (trace_length h) same) ∙ exact);
      inside = place_inside h t place is has;
      front = omega (arith, there.first, there.last, there.header);
      whole = record { whole = omega (arith, len, is.whole); exact = exact ∙ ap (λ (n : ℕ). let o : Option ℕ = Some n in o) (sym len) };
    }

put_at : (s : State) (place : Place) (value : ℕ → ℤ) (a n k at size : ℕ) (bs : List ℕ) → IsRead s → AreAccepted s.volume place value a n → k < n
    → at ≡ offset_of place → size ≡ place.kind.size → bs ≡ bytes_from s.volume.head.order place.kind value a n
    → IsPutAt s.volume.head (get_or s.volume.traces (a - 1 + k) []) at size (part_of bs size k)
put_at s place value a n k at size bs cut ok there g h is =
    let v : Volume = s.volume in
    let o : Order = v.head.order in
    let x : ℤ = value (a + k) in
    let own = ok.each k there in
    let whole = whole_with v.head (trace_at v (a + k)) place x (whole_trace s (a + k) cut own.first own.last) own.has own.length in
    let same : a - 1 + k ≡ a + k - 1 = omega (arith, ok.low) in
    let part : part_of bs size k ≡ bytes o place.kind x = rw (is, h) (part-bytes_from o place.kind value a n k there) in
    rw (same, part, g, h) whole

pub values_fit_in : (s : State) (place : Place) (value : ℕ → ℤ) (a n at size : ℕ) (bs : List ℕ) → IsRead s → AreAccepted s.volume place value a n
    → at ≡ offset_of place → size ≡ place.kind.size → bs ≡ bytes_from s.volume.head.order place.kind value a n → ValuesFitIn s a n at size bs
values_fit_in s place value a n at size bs cut ok g h is =
    let known = size_of_accepted s.volume place value a n ok in
    let some : 0 < size = rw h (size-pos place.kind.size known) in
    let long : length bs ≡ n * size = rw (is, h) (length-bytes_from s.volume.head.order place.kind value a n) in
    let count : length bs / size ≡ n = rw long (mul-div_cancel n some) in
    record {
      first = ok.low;
      some = some;
      exact = rw long (mul-mod_left n size);
      count = count;
      last = omega (arith, count, ok.last);
      inside = λ k less. (put_at s place value a n k at size bs cut ok (omega (arith, less, count)) g h is).inside;
      front = λ k less. (put_at s place value a n k at size bs cut ok (omega (arith, less, count)) g h is).front;
      whole = λ k less. (put_at s place value a n k at size bs cut ok (omega (arith, less, count)) g h is).whole;
      kept = λ k less. (put_at s place value a n k at size bs cut ok (omega (arith, less, count)) g h is).kept;
    }

-- ---- the volume behind the edit

-- the values one after another give the new bytes
pub values_made : (s : State) (place : Place) (value : ℕ → ℤ) (a n : ℕ) → IsRead s → AreAccepted s.volume place value a n
    → HasValues s s.volume.traces place (valued value a n) (with_values s.volume.head place value a n s.volume.traces)
values_made s place value a n cut ok = values_from s place value a n s.volume.traces (alike_first s.volume.traces a) cut ok.each

-- their volume is the cut of the new bytes
pub values_cut : (s : State) (place : Place) (value : ℕ → ℤ) (a n : ℕ) → IsRead s → AreAccepted s.volume place value a n
    → IsCut (put_each s.volume place (valued value a n) (bytes_of s.volume)) s.reading s.limits (with_traces s (with_values s.volume.head place value a n s.volume.traces)).volume
values_cut s place value a n cut ok =
    let m = values_made s place value a n cut ok in
    subst (λ (file : List ℕ). IsCut file s.reading s.limits (with_traces s (with_values s.volume.head place value a n s.volume.traces)).volume) m.bytes m.read

-- and so is the volume with their bytes laid over the traces
pub values_laid : (s : State) (place : Place) (value : ℕ → ℤ) (a n at size : ℕ) (bs : List ℕ) (w : Volume) → IsRead s → AreAccepted s.volume place value a n
    → at ≡ offset_of place → size ≡ place.kind.size → bs ≡ bytes_from s.volume.head.order place.kind value a n → w ≡ with_each s.volume a at size bs
    → IsCut (put_each s.volume place (valued value a n) (bytes_of s.volume)) s.reading s.limits w
values_laid s place value a n at size bs w cut ok g h is same =
    let v : Volume = s.volume in
    let new : List (List ℕ) = with_values v.head place value a n v.traces in
    let laid_over : new ≡ put_each_at v.traces (a - 1) (offset_of place) place.kind.size (bytes_from v.head.order place.kind value a n) =
    put_each_is v.head place value a n v.traces (size-pos place.kind.size (size_of_accepted v place value a n ok)) ok.low ok.last in
    let laid : w ≡ (with_traces s new).volume = same ∙ rw (g, h, is) (ap (λ (ts : List (List ℕ)). record v { traces = ts }) (sym laid_over)) in
    rw laid (values_cut s place value a n cut ok)
