-- Values over a place whose bytes tell no length: those that fit it are not refused, and all do where the first and the last do; the
-- others are told that they do not fit.
use Rattle.std.proofs.Common.{◌≡◌, ◌⊎◌, ℕ, ℤ, ◌+◌, ◌*◌, ◌-◌, ◌^◌, ◌<◌, ◌≤◌, pos, negsuc, zero, suc, ◌+ℤ◌, ◌-ℤ◌, ◌≤ℤ◌, ◌<ℤ◌, T, Bool, true, false, ◌&&◌, ◌||◌, List, length, Some, None, inl, inr, refl, sym, ap, subst, ◌∙◌, arith}
use Rattle.std.specs.Prelude.{int_le, int_lt, neg_ℤ, nat_le, ◌==◌, if◌then◌else◌}
use Rattle.std.proofs.Math.Bool.{or-true}
use Rattle.std.proofs.Math.Nat.{mul-le-mul_left}
use Rattle.std.proofs.lemmas.Bool.{le-leb, leb-true, ltb-true, eqb-true, false≢true}
use Rattle.std.proofs.lemmas.Int.{ints}
use Rattle.num_order.specs.declared.kind.Kind.{Kind}
use Rattle.num_order.specs.Number.{bytes, fits, is_between, is_size}
use Rattle.num_order.proofs.InRangeLemmas.{length-number}
use Rattle.field_map.specs.declared.place.Place.{Place}
use Rattle.field_map.specs.Pairs.{Pairs}
use Rattle.field_map.specs.Places.{offset_of}
use Rattle.frame_cut.specs.declared.file_head.Head.{Head}
use Rattle.frame_cut.specs.Cuts.{IsTrace, IsCut}
use Rattle.frame_cut.specs.Frames.{extensions_of, trace_length}
use Rattle.frame_cut.specs.Splice.{splice}
use Rattle.frame_cut.specs.Traces.{count_of, is_trace, trace_at}
use Rattle.frame_cut.specs.Volume.{Volume, bytes_of}
use Rattle.trace_record.specs.Told.{tells_record}
use Rattle.trace_view.specs.Counted.{leave_length, share_no_byte}
use Rattle.trace_view.specs.Values.{has_place, is_in_header}
use Rattle.trace_view.proofs.CountedLemmas.{length-kept}
use Rattle.edit_overlay.specs.CountedVolume.{RisesAtMost}
use Rattle.bench_rules.specs.declared.edit.Edit.TheVariants.{Set}
use Rattle.bench_rules.specs.declared.field.Field.TheVariants as field
use Rattle.bench_rules.specs.declared.refusal.Refusal.TheVariants.{DoesNotFit}
use Rattle.bench_rules.specs.Looks.{edit_looks, is_told, put_looks, trace_looks}
use Rattle.bench_rules.specs.Places.{leaves_length}
use Rattle.bench_rules.specs.Refused.{with_value, set_refusal, first_refusal, first_refusal_among}
use Rattle.bench_rules.specs.State.{State}
use Rattle.bench_rules.specs.TraceEdits.{counted, numbers}
use Rattle.bench_rules.proofs.PlaceLemmas.{place_inside, sized}
use Rattle.bench_rules.proofs.RenumberLemmas.{renumber_not_refused, renumber_refused}
use Rattle.bench_rules.proofs.SetLemmas.{Accepted, both, not_refused, refused_at, whole_trace}
use Rattle.volume_answers.specs.Rooms.{HasRoom}
use Rattle.live_volume.specs.Places.{EachHolds}
use Rattle.live_volume.proofs.ManyTracesLemmas.{among_values}
use borrow.Author.Count.{below_more}

-- ---- the values between the first and the last

-- a number lies between two others, of which either may be the greater
abbrev pub LiesBetween : ℤ → ℤ → ℤ → Type 0
LiesBetween x y z = ((x ≤ℤ y) × (y ≤ℤ z)) ⊎ ((z ≤ℤ y) × (y ≤ℤ x))

rises : (first : ℤ) (p q : ℕ) → p ≤ q → LiesBetween first (first +ℤ pos p) (first +ℤ pos q)
rises first p q less = inl (omega (arith, ints), omega (arith, ints))

falls : (first : ℤ) (p q : ℕ) → p ≤ q → LiesBetween first (first +ℤ neg_ℤ (pos p)) (first +ℤ neg_ℤ (pos q))
falls first p q less = inr (omega (arith, ints), omega (arith, ints))

-- fewer steps lead less far
on_the_way : (first step : ℤ) (k n : ℕ) → k ≤ n → LiesBetween first (counted first step k) (counted first step n)
on_the_way first (pos s) k n less = rises first (s * k) (s * n) (mul-le-mul_left s less)
on_the_way first (negsuc s) k n less = falls first (suc s * k) (suc s * n) (mul-le-mul_left (suc s) less)

truth : (b : Bool) → T b → b ≡ true
truth true t = refl
truth false t = absurd t

-- what lies between two numbers of a range is in it
within : (low high x y z : ℤ) → (int_le low x && int_lt x high) ≡ true → (int_le low z && int_lt z high) ≡ true → LiesBetween x y z → (int_le low y && int_lt y high) ≡ true
within low high x y z first last between =
    let f = both _ _ first in
    let l = both _ _ last in
    let low_x : low ≤ℤ x = record { le = subst T (sym f.0) tt } in
    let x_high : x <ℤ high = record { lt = subst T (sym f.1) tt } in
    let low_z : low ≤ℤ z = record { le = subst T (sym l.0) tt } in
    let z_high : z <ℤ high = record { lt = subst T (sym l.1) tt } in
    let above : low ≤ℤ y = elim between [ inl b ↦ omega (arith, ints, b.0, low_x) | inr b ↦ omega (arith, ints, b.0, low_z) ] in
    let below : y <ℤ high = elim between [ inl b ↦ omega (arith, ints, b.1, z_high) | inr b ↦ omega (arith, ints, b.1, x_high) ] in
    rw (truth _ above.le, truth _ below.lt) refl

fit_by : (signed : Bool) (size : ℕ) (x y z : ℤ) → is_between signed size x ≡ true → is_between signed size z ≡ true → LiesBetween x y z → is_between signed size y ≡ true
fit_by false size x y z first last between = within (pos 0) (pos (2 ^ (8 * size))) x y z first last between
fit_by true size x y z first last between = within (pos 0 -ℤ pos (2 ^ (8 * size - 1))) (pos (2 ^ (8 * size - 1))) x y z first last between

-- where the first and the last fit, so does each
each_fits : (kind : Kind) (first step : ℤ) (k n : ℕ) → k ≤ n → fits kind first ≡ true → fits kind (counted first step n) ≡ true → fits kind (counted first step k) ≡ true
each_fits kind first step k n less zeroth last = fit_by kind.signed kind.size first (counted first step k) (counted first step n) zeroth last (on_the_way first step k n less)

-- ---- the place

record IsFree (place : Place) : Type 0 where
  header : place.extension ≡ 0
  inside : is_in_header place ≡ true
  first : 0 < place.byte
  last : place.byte + place.kind.size < 242
  apart : (nat_le (place.byte + place.kind.size) 115 || nat_le 117 place.byte) ≡ true

is_free : (place : Place) → leaves_length place ≡ true → IsFree place
is_free place e =
    let outer = both _ _ e in
    let end = both _ _ outer.0 in
    let begin = both _ _ end.0 in
    let main = both _ _ begin.0 in
    record {
      header = eqb-true place.extension 0 main.0;
      inside = rw (main.1, begin.1, end.1) refl;
      first = ltb-true 0 place.byte begin.1;
      last = ltb-true (place.byte + place.kind.size) 242 end.1;
      apart = outer.1;
    }

-- so it shares no byte with those that tell the length
share_none : (a n m : ℕ) → a + n ≤ m → (k : ℕ) → share_no_byte a n m k ≡ true
share_none a n m before k = rw (le-leb (a + n) m before) refl

share_front : (byte n at : ℕ) → 0 < byte → at ≡ byte - 1 → (nat_le (byte + n) 115 || nat_le 117 byte) ≡ true → share_no_byte at n 114 2 ≡ true
share_front byte n at some e apart = by (nat_le (byte + n) 115) refl apart where
  by : (b : Bool) → nat_le (byte + n) 115 ≡ b → (b || nat_le 117 byte) ≡ true → share_no_byte at n 114 2 ≡ true
  by true h g = share_none at n 114 (omega (arith, some, e, leb-true (byte + n) 115 h)) 2
  by false h g = rw (le-leb 116 at (omega (arith, e, leb-true 117 byte g))) (or-true (nat_le (at + n) 114))

free_bytes : (h : Head) (place : Place) (at : ℕ) → IsFree place → at ≡ place.byte - 1 → leave_length h at place.kind.size ≡ true
free_bytes h place at free e =
    let n : ℕ = place.kind.size in
    let end : at + n ≤ 376 = omega (arith, e, free.last) in
    rw (share_front place.byte n at free.first e free.apart, share_none at n 376 end 4, share_none at n 396 (omega (arith, end)) 2) (either (h.extensions == 0))
  where
    either : (b : Bool) → (true && (b || (true && true))) ≡ true
    either true = refl
    either false = refl

-- ---- the traces

-- each trace has the place
free_has : (h : Head) (t : List ℕ) (place : Place) → IsFree place → has_place h t place ≡ true
free_has h t place free = rw (free.inside, free.header, le-leb 0 (extensions_of h t) (omega arith)) refl

-- so a value that does not fit is told so
unfit : (h : Head) (t : List ℕ) (place : Place) (x : ℤ) → IsFree place → fits place.kind x ≡ false → set_refusal h t (Some place) x ≡ Some DoesNotFit
unfit h t place x free wide = rw (free_has h t place free, wide) refl

-- the value is accepted at each trace
accepted_there : (s : State) (p : ℕ) (place : Place) (x : ℤ) → IsCut (bytes_of s.volume) s.reading s.limits s.volume → 1 ≤ p → p ≤ count_of s.volume → IsFree place → fits place.kind x ≡ true → Accepted s.volume p place x
accepted_there s p place x cut first last free fit =
    let h : Head = s.volume.head in
    let t : List ℕ = trace_at s.volume p in
    let is : IsTrace h t = whole_trace s p cut first last in
    let new : List ℕ = bytes h.order place.kind x in
    let size : length new ≡ place.kind.size = length-number h.order place.kind x in
    let has : has_place h t place ≡ true = free_has h t place free in
    let at : ℕ = offset_of place in
    let here : at ≡ place.byte - 1 = rw free.header (omega arith) in
    let inside : at + length new ≤ length t = rw size (place_inside h t place is has) in
    let leaves : leave_length h at (length new) ≡ true = rw size (free_bytes h place at free here) in
    let exactly : with_value h t place x ≡ splice t at (length new) new = ap (λ (n : ℕ). splice t at n new) (sym size) in
    record {
      first = first;
      last = last;
      has = has;
      fits = fit;
      length = ap (trace_length h) exactly ∙ length-kept h t new at inside leaves ∙ is.exact;
    }

none_refused : (s : State) (p : ℕ) (place : Place) (x : ℤ) → IsCut (bytes_of s.volume) s.reading s.limits s.volume → 1 ≤ p → p ≤ count_of s.volume → IsFree place → fits place.kind x ≡ true
    → set_refusal s.volume.head (trace_at s.volume p) (Some place) x ≡ None
none_refused s p place x cut first last free fit =
    let trace : is_trace s.volume p ≡ true = rw (le-leb 1 p first, le-leb p (count_of s.volume) last) refl in
    sym (refused_at s p place x trace) ∙ not_refused s p place x (accepted_there s p place x cut first last free fit)

-- and none of the values is refused
pub none_refuses : (s : State) (a b : ℕ) (place : Place) (first step : ℤ) → IsCut (bytes_of s.volume) s.reading s.limits s.volume → 1 ≤ a → a ≤ b → b ≤ count_of s.volume → leaves_length place ≡ true
    → fits place.kind first ≡ true → fits place.kind (counted first step (b - a)) ≡ true → first_refusal_among s.volume (Some place) (numbers a b first step) ≡ None
none_refuses s a b place first step cut low high last leaves zeroth end =
    sym (among_values s a b place first step low high last)
    ∙ renumber_not_refused s a b (field.Place place) first step place low high last refl (λ k less. by k (omega (arith, less)))
  where
    by : (k : ℕ) → a + k ≤ b → set_refusal s.volume.head (trace_at s.volume (a + k)) (Some place) (counted first step k) ≡ None
    by k there =
        let fit : fits place.kind (counted first step k) ≡ true = each_fits place.kind first step k (b - a) (omega (arith, there)) zeroth end in
        none_refused s (a + k) place (counted first step k) cut (omega (arith, low)) (omega (arith, there, last)) (is_free place leaves) fit

-- the first k for which a test fails
record IsLowest (f : ℕ → Bool) (k : ℕ) : Type 0 where
  fails : f k ≡ false
  front : (j : ℕ) → j < k → f j ≡ true

-- it holds for all of so many numbers, or there is one
lowest : (f : ℕ → Bool) (n : ℕ) → ((k : ℕ) → k < n → f k ≡ true) ⊎ ((k : ℕ) × (k < n) × IsLowest f k)
lowest f zero = inl (λ k less. absurd (omega (arith, less)))
lowest f (suc n) = elim (lowest f n) [ inl all ↦ by all (f n) refl | inr found ↦ inr (found.0, omega (arith, found.1), found.2) ]
  where
    by : ((k : ℕ) → k < n → f k ≡ true) → (b : Bool) → f n ≡ b → ((k : ℕ) → k < suc n → f k ≡ true) ⊎ ((k : ℕ) × (k < suc n) × IsLowest f k)
    by all true e = inl (λ k less. below_more (λ (j : ℕ). f j ≡ true) n all e k (omega (arith, less)))
    by all false e = inr (n, omega arith, record { fails = e; front = all })

-- no step leads nowhere
counted-none : (first step : ℤ) → counted first step 0 ≡ first
counted-none first (pos s) = omega (arith, ints)
counted-none first (negsuc s) = omega (arith, ints)

-- where one of the ends does not fit, a value is refused, and the first that is does not fit
pub one_refused : (s : State) (a b : ℕ) (place : Place) (first step : ℤ) → IsCut (bytes_of s.volume) s.reading s.limits s.volume → 1 ≤ a → a ≤ b → b ≤ count_of s.volume → leaves_length place ≡ true
    → (fits place.kind first && fits place.kind (counted first step (b - a))) ≡ false → first_refusal_among s.volume (Some place) (numbers a b first step) ≡ Some DoesNotFit
one_refused s a b place first step cut low high last leaves wide =
    elim (lowest fit (b + 1 - a)) [ inl all ↦ absurd (not_all all) | inr found ↦ refused found.0 (omega (arith, found.1, high)) found.2 ]
  where
    fit : ℕ → Bool
    fit k = fits place.kind (counted first step k)

    not_all : ((k : ℕ) → k < b + 1 - a → fit k ≡ true) → ⊥
    not_all all =
        let zeroth : fits place.kind first ≡ true = ap (fits place.kind) (sym (counted-none first step)) ∙ all 0 (omega (arith, high)) in
        let end : fits place.kind (counted first step (b - a)) ≡ true = all (b - a) (omega (arith, high)) in
        let both_fit : (fits place.kind first && fits place.kind (counted first step (b - a))) ≡ true = rw (zeroth, end) refl in
        false≢true (sym wide ∙ both_fit)

    refused : (k : ℕ) → a + k ≤ b → IsLowest fit k → first_refusal_among s.volume (Some place) (numbers a b first step) ≡ Some DoesNotFit
    refused k there is =
        let free = is_free place leaves in
        sym (among_values s a b place first step low high last)
        ∙ renumber_refused s a b (field.Place place) first step place k DoesNotFit low last refl
        (λ j less. none_refused s (a + j) place (counted first step j) cut (omega (arith, low)) (omega (arith, less, there, last)) free (is.front j less)) there
        (unfit s.volume.head (trace_at s.volume (a + k)) place (counted first step k) free is.fails)

-- each trace has a main header, so each holds the place
pub each_holds : (v : Volume) (a b : ℕ) (place : Place) → 1 ≤ a → b ≤ count_of v → ((p : ℕ) → 1 ≤ p → p ≤ count_of v → 240 ≤ length (trace_at v p)) → leaves_length place ≡ true → EachHolds v a (b + 1 - a) place
each_holds v a b place low last headers leaves k less =
    let free = is_free place leaves in
    let header = headers (a + k) (omega (arith, low)) (omega (arith, less, last)) in
    let at : offset_of place ≡ place.byte - 1 = rw free.header (omega arith) in
    let size : is_size place.kind.size ≡ true = (both _ _ (both _ _ (both _ _ (both _ _ leaves).0).0).0).1 in
    record { first = free.first; size = sized place.kind.size size; inside = omega (arith, at, header, free.first, free.last) }

-- and there is room for a value of one trace
pub room_there : (v : Volume) (p : ℕ) (place : Place) (x : ℤ) → is_trace v p ≡ true → ((q : ℕ) → 1 ≤ q → q ≤ count_of v → 240 ≤ length (trace_at v q)) → leaves_length place ≡ true → fits place.kind x ≡ true → HasRoom v p place x
room_there v p place x there headers leaves fit =
    let range = both _ _ there in
    let first : 1 ≤ p = leb-true 1 p range.0 in
    let last : p ≤ count_of v = leb-true p (count_of v) range.1 in
    let here : p + 0 ≡ p = omega arith in
    let holds = each_holds v p p place first last headers leaves 0 (omega (arith, first)) in
    record {
      first = first;
      last = last;
      byte = holds.first;
      size = holds.size;
      fits = fit;
      inside = subst (λ (q : ℕ). offset_of place + place.kind.size ≤ length (trace_at v q)) here holds.inside;
    }

-- which nothing refuses
pub none_refuses_it : (s : State) (p : ℕ) (place : Place) (x : ℤ) → IsCut (bytes_of s.volume) s.reading s.limits s.volume → is_trace s.volume p ≡ true → leaves_length place ≡ true → fits place.kind x ≡ true
    → first_refusal s (Set p (field.Place place) x) ≡ None
none_refuses_it s p place x cut there leaves fit =
    let range = both _ _ there in
    not_refused s p place x (accepted_there s p place x cut (leb-true 1 p range.0) (leb-true p (count_of s.volume) range.1) (is_free place leaves) fit)

-- and a value that does not fit is told so
pub unfit_refused : (s : State) (p : ℕ) (place : Place) (x : ℤ) → is_trace s.volume p ≡ true → leaves_length place ≡ true → fits place.kind x ≡ false → first_refusal s (Set p (field.Place place) x) ≡ Some DoesNotFit
unfit_refused s p place x there leaves wide = refused_at s p place x there ∙ unfit s.volume.head (trace_at s.volume p) place x (is_free place leaves) wide

-- and each value fits
pub all_fit : (place : Place) (first step : ℤ) (a b : ℕ) → a ≤ b → fits place.kind first ≡ true → fits place.kind (counted first step (b - a)) ≡ true → (k : ℕ) → k < b + 1 - a → fits place.kind (counted first step k) ≡ true
all_fit place first step a b high zeroth end k less = each_fits place.kind first step k (b - a) (omega (arith, less, high)) zeroth end

-- ---- the looks at one trace

-- a place that may change a length is not told
pub untold : (fields : Pairs) (place : Place) → leaves_length place ≡ false → is_told fields place ≡ false
untold fields place bound = ap (λ (b : Bool). b && tells_record fields (offset_of place) place.kind.size) bound

-- and then the trace may be looked at
pub set_looks : (s : State) (p : ℕ) (place : Place) (x : ℤ) → is_trace s.volume p ≡ true → is_told s.fields place ≡ false → 0 < edit_looks s (Set p (field.Place place) x)
set_looks s p place x there bound = rw (bound, there) (omega arith)

looks_by_one : (free tells : Bool) (old new : ℕ) → RisesAtMost old new 1 → (tells ≡ true → new ≡ old) → RisesAtMost old new (if free && tells then 0 else 2)
looks_by_one true true old new one same = (omega (arith, same refl), omega (arith, same refl))
looks_by_one true false old new one same = (omega (arith, one), omega (arith, one))
looks_by_one false tells old new one same = (omega (arith, one), omega (arith, one))

-- a look for the new record, if it is not told, is within the looks of the edit
pub set_once : (v : Volume) (fields : Pairs) (p : ℕ) (place : Place) (old new : ℕ) → is_trace v p ≡ true → RisesAtMost old new 1 → (tells_record fields (offset_of place) place.kind.size ≡ true → new ≡ old)
    → RisesAtMost old new (put_looks fields (Some place) (trace_looks v p 2))
set_once v fields p place old new there one same = rw there (looks_by_one (leaves_length place) (tells_record fields (offset_of place) place.kind.size) old new one same)
