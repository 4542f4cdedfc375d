-- What bytes that are laid over a trace leave of its headers, and what they say there.
use Rattle.std.proofs.Common.{◌≡◌, ℕ, ℤ, zero, suc, pos, ◌+◌, ◌-◌, ◌*◌, ◌<◌, ◌≤◌, ◌⊎◌, inl, inr, Bool, true, false, List, [], ◌∷◌, ◌++◌, length, take, drop, get_or, Option, Some, None, refl, sym, subst, ap, ap₂, ◌∙◌, arith, append_assoc}
use Rattle.std.specs.Prelude.{nat_le, ◌&&◌, ◌||◌, map, slice_get, IfSome}
use Rattle.std.specs.Option.{option_map_or}
use Rattle.std.proofs.Math.Seq.{take-append_seam}
use Rattle.std.proofs.lemmas.Bool.{leb-true, and_parts}
use Rattle.std.proofs.lemmas.List.{drop-drop, drop_at, length-drop, length-take-le}
use Rattle.num_order.specs.Number.{num, unsigned, with_sign}
use Rattle.num_order.specs.declared.order.Order.{Order}
use Rattle.field_map.specs.Pairs.{Pairs, place_of, signed_at}
use Rattle.field_map.specs.Places.{offset_of}
use Rattle.field_map.specs.declared.place.Place.{Place}
use Rattle.frame_cut.specs.declared.file_head.Head.{Head}
use Rattle.frame_cut.specs.Parts.{put_each_at}
use Rattle.frame_cut.specs.Splice.{splice}
use Rattle.frame_cut.specs.Traces.{count_of, trace_at}
use Rattle.frame_cut.specs.Volume.{Volume}
use Rattle.frame_cut.proofs.BinEditLemmas.{apart}
use Rattle.trace_store.specs.Each.{part_of}
use Rattle.trace_view.specs.Values.{value_at}
use Rattle.trace_record.specs.OfTrace.{bound_value}
use Rattle.trace_record.specs.Packed.{record_in}
use Rattle.trace_record.specs.Told.{are_apart, leaves}
use Rattle.trace_record.specs.declared.packed_record.PackedRecord.{PackedRecord}
use Rattle.trace_record.specs.declared.record.Record.{Record}
use Rattle.edit_overlay.specs.CountedVolume.{CountedVolume}
use Rattle.volume_records.specs.Laid.{AreLaid, IsLaid}
use Rattle.volume_records.proofs.RecordLemmas.{record_at}

-- ---- bytes apart

-- they end in front of the others, or begin behind them
pub sides : (at count start size : ℕ) → are_apart at count start size ≡ true → (start + size ≤ at) ⊎ (at + count ≤ start)
sides at count start size h = side (nat_le (start + size) at) refl h where
  side : (b : Bool) → nat_le (start + size) at ≡ b → (b || nat_le (at + count) start) ≡ true → (start + size ≤ at) ⊎ (at + count ≤ start)
  side true e g = inl (leb-true (start + size) at e)
  side false e g = inr (leb-true (at + count) start g)

-- bytes apart from those that are laid over the trace stay
pub bytes_apart : (t new : List ℕ) (at start size : ℕ) → at + length new ≤ length t → are_apart at (length new) start size ≡ true → take size (drop start (splice t at (length new) new)) ≡ take size (drop start t)
bytes_apart t new at start size inside h = apart t new at start size inside (sides at (length new) start size h)

-- and so does a number
pub number_apart : (h : Head) (t new : List ℕ) (at : ℕ) (place : Place) → at + length new ≤ length t → are_apart at (length new) (offset_of place) place.kind.size ≡ true → value_at h (splice t at (length new) new) place ≡ value_at h t place
number_apart h t new at place inside is = ap (num h.order place.kind) (bytes_apart t new at (offset_of place) place.kind.size inside is)

-- ---- bytes over a number

-- at their place are the bytes that were laid there
itself : (t new : List ℕ) (at : ℕ) → at + length new ≤ length t → take (length new) (drop at (splice t at (length new) new)) ≡ new
itself t new at inside =
    let rest : List ℕ = drop (at + length new) t in
    let front : length (take at t) ≡ at = length-take-le at t (omega arith) in
    ap (λ (s : List ℕ). take (length new) (drop at s)) (append_assoc (take at t) new rest)
    ∙ ap (take (length new)) (drop_at (take at t) (new ++ rest) at front)
    ∙ take-append_seam new rest

-- where they cover a place exactly, it has their number
pub number_over : (h : Head) (t new : List ℕ) (at : ℕ) (place : Place) → at + length new ≤ length t → at ≡ offset_of place → length new ≡ place.kind.size → value_at h (splice t at (length new) new) place ≡ num h.order place.kind new
number_over h t new at place inside here size =
    ap₂ (λ (n k : ℕ). num h.order place.kind (take n (drop k (splice t at (length new) new)))) (sym size) (sym here) ∙ ap (num h.order place.kind) (itself t new at inside)

-- of the kind that the place has
pub number_said : (o : Order) (place : Place) (new : List ℕ) (r : ℤ) → place.kind.signed ≡ true → length new ≡ place.kind.size → r ≡ num o (record { size = length new; signed = true }) new → r ≡ num o place.kind new
number_said o place new r signed size e = e ∙ (λ i. with_sign (sym signed i) (size i) (unsigned o new))

-- ---- the geometry names

-- the value of a name is that at its place
pub named : (h : Head) (fields : Pairs) (t name : List ℕ) (place : Place) → place_of fields name ≡ Some place → bound_value h fields t name ≡ value_at h t place
named h fields t name place is = ap (λ (o : Option Place). option_map_or (value_at h t) o (pos 0)) is

-- what is so of a value is so of another
pub if_some : {A : Type 0} {P Q : A → Type 0} (o : Option A) → IfSome o P → ((x : A) → P x → Q x) → IfSome o Q
if_some None p f = tt
if_some (Some x) p f = f x p

-- ---- what is seldom edited

-- bytes that are laid over a trace leave alone its coordinate scalar and bytes 89-90, 115-118 and 233-240
abbrev pub leaves_rest : (at count : ℕ) → Place → Bool
leaves_rest at count scalar =
    leaves at count scalar && leaves at count (signed_at 89 2) && leaves at count (signed_at 115 2) && leaves at count (signed_at 117 2) && leaves at count (signed_at 233 8)

-- and so each of them
pub record LeavesRest (at count : ℕ) (place : Place) : Type 0 where
  pub scalar : leaves at count place ≡ true
  pub units : leaves at count (signed_at 89 2) ≡ true
  pub samples : leaves at count (signed_at 115 2) ≡ true
  pub interval : leaves at count (signed_at 117 2) ≡ true
  pub name : leaves at count (signed_at 233 8) ≡ true

pub each_left : (at count : ℕ) (place : Place) → leaves_rest at count place ≡ true → LeavesRest at count place
each_left at count place h =
    let scalar : Bool = leaves at count place in
    let units : Bool = leaves at count (signed_at 89 2) in
    let samples : Bool = leaves at count (signed_at 115 2) in
    let interval : Bool = leaves at count (signed_at 117 2) in
    let four = and_parts (scalar && units && samples && interval) (leaves at count (signed_at 233 8)) h in
    let three = and_parts (scalar && units && samples) interval four.0 in
    let two = and_parts (scalar && units) samples three.0 in
    let one = and_parts scalar units two.0 in
    record { scalar = one.0; units = one.1; samples = two.1; interval = three.1; name = four.1 }

-- ---- bytes over traces that follow one another, so many over each

-- each trace gets its part
pub put_each-at : (ts : List (List ℕ)) (p at size count k i : ℕ) (bytes : List ℕ) → 0 < size → length bytes ≡ count * size → k < count → i ≡ p + k → i < length ts
    → get_or (put_each_at ts p at size bytes) i [] ≡ splice (get_or ts i []) at size (part_of bytes size k)
put_each-at [] p at size count k i bytes some long less e there = absurd (omega (arith, there))
put_each-at (t ∷ ts) (suc p) at size count k zero bytes some long less e there = absurd (omega (arith, e))
put_each-at (t ∷ ts) (suc p) at size count k (suc i) bytes some long less e there = put_each-at ts p at size count k i bytes some long less (omega (arith, e)) (omega (arith, there))
put_each-at (t ∷ ts) zero at size zero k i bytes some long less e there = absurd (omega (arith, less))
put_each-at (t ∷ ts) zero at size (suc count) k i [] some long less e there = absurd (omega (arith, some, long))
put_each-at (t ∷ ts) zero at size (suc count) zero zero (b ∷ bs) some long less e there =
    let none : 0 ≡ 0 * size = omega arith in
    ap (λ (n : ℕ). splice t at size (take size (drop n (b ∷ bs)))) none
put_each-at (t ∷ ts) zero at size (suc count) zero (suc i) (b ∷ bs) some long less e there = absurd (omega (arith, e))
put_each-at (t ∷ ts) zero at size (suc count) (suc k) zero (b ∷ bs) some long less e there = absurd (omega (arith, e))
put_each-at (t ∷ ts) zero at size (suc count) (suc k) (suc i) (b ∷ bs) some long less e there =
    let next : size + k * size ≡ suc k * size = omega arith in
    put_each-at ts zero at size count k i (drop size (b ∷ bs)) some (omega (arith, length-drop size (b ∷ bs), long)) (omega (arith, less)) (omega (arith, e)) (omega (arith, there))
    ∙ ap (λ (new : List ℕ). splice (get_or ts i []) at size (take size new)) (drop-drop (k * size) size (b ∷ bs))
    ∙ ap (λ (n : ℕ). splice (get_or ts i []) at size (take size (drop n (b ∷ bs)))) next

-- the one that is next has the known record
pub laid_at : (o : CountedVolume PackedRecord) (fields : Pairs) (a count at size k p : ℕ) (bytes part : List ℕ) (known : Record) → 1 ≤ a → a - 1 + count ≤ count_of o.volume → 0 < size → length bytes ≡ count * size → k < count → p ≡ a + k
    → slice_get (map record_in o.payloads) (a - 1 + k) ≡ Some known → part ≡ part_of bytes size k → length part ≡ size → AreLaid o fields a count at size bytes → IsLaid o.volume o.prepared fields p at part known
laid_at o fields a count at size k p bytes part known first last some long less e there is full laid =
    let place : p - 1 ≡ a - 1 + k = omega (arith, e, first) in
    let inside : a - 1 + k < length o.volume.traces = omega (arith, less, last) in
    let room : at + size ≤ length (trace_at o.volume p) = subst (λ (i : ℕ). at + size ≤ length (get_or o.volume.traces i [])) (sym place) (laid.inside k less) in
    record {
      head = ap (λ (v : Volume). v.head) laid.prepared;
      inside = omega (arith, room, full);
      laid = ap (λ (v : Volume). trace_at v p) laid.prepared
          ∙ ap (λ (i : ℕ). get_or (put_each_at o.volume.traces (a - 1) at size bytes) i []) place
          ∙ put_each-at o.volume.traces (a - 1) at size count k (a - 1 + k) bytes some long less refl inside
          ∙ ap (λ (i : ℕ). splice (get_or o.volume.traces i []) at size (part_of bytes size k)) (sym place)
          ∙ ap₂ (λ (n : ℕ) (new : List ℕ). splice (trace_at o.volume p) at n new) (sym full) (sym is);
      known = record_at o.volume fields (map record_in o.payloads) p known (omega (arith, e, first)) (omega (arith, e, first, less, last)) laid.records (ap (slice_get (map record_in o.payloads)) place ∙ there);
    }
