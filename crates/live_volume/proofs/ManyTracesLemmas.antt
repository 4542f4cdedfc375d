-- A field of many traces counted up: what is known after the first values, and whether a trace has another inline or crossline then.
use Rattle.std.proofs.Common.{◌≡◌, ℕ, ℤ, zero, suc, ◌+◌, ◌-◌, ◌/◌, ◌<◌, ◌≤◌, Bool, true, false, ◌&&◌, ◌||◌, leb, List, [], ◌∷◌, length, take, drop, map, get_or, Option, Some, None, refl, sym, ap, ap₂, subst, ◌∙◌, arith}
use Rattle.std.specs.Prelude.{is_some, not, ◌*◌, if◌then◌else◌}
use Rattle.std.specs.List.{list_any, range_with_len}
use Rattle.std.specs.Ordering.{int_eq}
use Rattle.std.proofs.lemmas.Bool.{le-leb}
use Rattle.std.proofs.lemmas.List.{drop_more}
use Rattle.field_map.specs.declared.place.Place.{Place}
use Rattle.field_map.specs.Pairs.{Pairs}
use Rattle.field_map.specs.Places.{offset_of}
use Rattle.frame_cut.specs.Parts.{with_each}
use Rattle.frame_cut.specs.Traces.{count_of, is_trace, trace_at}
use Rattle.frame_cut.specs.Volume.{Volume}
use Rattle.trace_record.specs.Facts.{Facts, facts_of}
use Rattle.trace_record.specs.OfTrace.{record_of}
use Rattle.trace_record.specs.Told.{tells_record}
use Rattle.trace_record.specs.declared.record.Record.{Record}
use Rattle.edit_overlay.specs.CountedVolume.{RisesAtMost}
use Rattle.edit_overlay.specs.Reads.{HaveAgreed}
use Rattle.live_reports.specs.Alike.{same_cell}
use Rattle.live_reports.specs.Exchanged.{same_cells, with_records}
use Rattle.volume_records.specs.OfVolume.{AreHeaderParts, headers_of, records_of}
use Rattle.volume_records.proofs.EachLemmas.{length-with_each, records-with_each}
use Rattle.volume_records.proofs.RecordLemmas.{length-records}
use Rattle.bench_rules.specs.declared.edit.Edit.TheVariants.{Renumber}
use Rattle.bench_rules.specs.declared.field.Field.{Field}
use Rattle.bench_rules.specs.declared.field.Field.TheVariants as field
use Rattle.bench_rules.specs.declared.refusal.Refusal.{Refusal}
use Rattle.bench_rules.specs.Kept.{same_cell as cell}
use Rattle.bench_rules.specs.Refused.{first_refusal, first_refusal_among, set_refusal}
use Rattle.bench_rules.specs.Looks.{edit_looks, is_told}
use Rattle.bench_rules.specs.Places.{leaves_length, place_in_trace}
use Rattle.bench_rules.specs.State.{State, Session}
use Rattle.bench_rules.specs.Steps.{IsAfter}
use Rattle.bench_rules.specs.TraceEdits.{counted, numbers}
use Rattle.bench_rules.proofs.RenumberLemmas.{NoneRefused, renumber_refused, renumber_not_refused}
use Rattle.num_order.specs.Number.{fits}
use Rattle.many_traces.specs.Fields.{HoldsPlace}
use Rattle.live_volume.specs.Held.{moves, any_moves, with_volume, OnlyLooks}
use Rattle.live_volume.specs.Places.{EachHolds}
use Rattle.bench_rules.proofs.FirstLemmas.{AreTraces}
use Rattle.live_volume.proofs.ComputedLemmas.{all_looks}
use Rattle.live_volume.proofs.HeldLemmas.{looks_none, looks_more}
use borrow.Author.Count.{below_more}

-- ---- the first refusal

-- the first k values are not refused, and their traces hold them, at a look each
pub record IsSoFar (old mid : Session) (place : Place) (a : ℕ) (first step : ℤ) (k : ℕ) : Type 0 where
  pub seen : OnlyLooks old mid k
  pub none : HaveAgreed mid.reads → NoneRefused old.state.volume place a first step k
  pub each : EachHolds old.state.volume a k place
  pub fit : (j : ℕ) → j < k → fits place.kind (counted first step j) ≡ true

pub none_yet : (s : Session) (place : Place) (a : ℕ) (first step : ℤ) → IsSoFar s s place a first step 0
none_yet s place a first step =
    record { seen = looks_none s; none = λ sure j less. absurd (omega (arith, less)); each = λ j less. absurd (omega (arith, less)); fit = λ j less. absurd (omega (arith, less)) }

pub nothing_told : (r : Option Refusal) → is_some r ≡ false → r ≡ None
nothing_told None e = refl
nothing_told (Some x) e = absurd cc

pub none_again : (old mid new : Session) (place : Place) (a : ℕ) (first step : ℤ) (k : ℕ) (r : Option Refusal) → IsSoFar old mid place a first step k
    → is_some r ≡ false → (HaveAgreed new.reads → r ≡ set_refusal mid.state.volume.head (trace_at mid.state.volume (a + k)) (Some place) (counted first step k))
    → (r ≡ None → HoldsPlace (trace_at mid.state.volume (a + k)) place) → (r ≡ None → fits place.kind (counted first step k) ≡ true) → OnlyLooks mid new 1 → IsSoFar old new place a first step (k + 1)
none_again old mid new place a first step k r far nothing is holds fit look =
    let none : r ≡ None = nothing_told r nothing in
    record {
      seen = looks_more old mid new k 1 far.seen look;
      none = λ sure.
          let here : set_refusal old.state.volume.head (trace_at old.state.volume (a + k)) (Some place) (counted first step k) ≡ None =
          ap (λ (s : State). set_refusal s.volume.head (trace_at s.volume (a + k)) (Some place) (counted first step k)) (sym far.seen.state) ∙ sym (is sure) ∙ none in
          below_more (λ (j : ℕ). set_refusal old.state.volume.head (trace_at old.state.volume (a + j)) (Some place) (counted first step j) ≡ None) k (far.none (look.reads.agreed sure)) here;
      each = below_more (λ (j : ℕ). HoldsPlace (trace_at old.state.volume (a + j)) place) k far.each (subst (λ (s : State). HoldsPlace (trace_at s.volume (a + k)) place) far.seen.state (holds none));
      fit = below_more (λ (j : ℕ). fits place.kind (counted first step j) ≡ true) k far.fit (fit none);
    }

-- traces a to b are there, so the values decide
pub among_values : (s : State) (a b : ℕ) (place : Place) (first step : ℤ) → 1 ≤ a → a ≤ b → b ≤ count_of s.volume
    → first_refusal s (Renumber a b (field.Place place) first step) ≡ first_refusal_among s.volume (Some place) (numbers a b first step)
among_values s a b place first step low high last =
    let here : is_trace s.volume a ≡ true = rw (le-leb 1 a low, le-leb a (count_of s.volume) (omega (arith, high, last))) refl in
    let range : (leb a b && leb b (count_of s.volume)) ≡ true = rw (le-leb a b high, le-leb b (count_of s.volume) last) refl in
    rw (here, range) refl

-- the value that is refused behind those that are not is the answer
pub told_at : (old mid new : Session) (place : Place) (a b : ℕ) (first step : ℤ) (k : ℕ) (r : Option Refusal) → 1 ≤ a → b ≤ count_of old.state.volume → IsSoFar old mid place a first step k → a + k ≤ b
    → is_some r ≡ true → OnlyLooks mid new 1 → (HaveAgreed new.reads → r ≡ set_refusal mid.state.volume.head (trace_at mid.state.volume (a + k)) (Some place) (counted first step k))
    → HaveAgreed new.reads → r ≡ first_refusal_among old.state.volume (Some place) (numbers a b first step)
told_at old mid new place a b first step k None low last far there some look is sure = absurd cc
told_at old mid new place a b first step k (Some r) low last far there some look is sure =
    let s : State = old.state in
    let here : set_refusal s.volume.head (trace_at s.volume (a + k)) (Some place) (counted first step k) ≡ Some r =
    ap (λ (u : State). set_refusal u.volume.head (trace_at u.volume (a + k)) (Some place) (counted first step k)) (sym far.seen.state) ∙ sym (is sure) in
    sym (renumber_refused s a b (field.Place place) first step place k r low last refl (far.none (look.reads.agreed sure)) there here) ∙ among_values s a b place first step low (omega (arith, there)) last

-- and where there is one it is not none
pub told_some : {P : Type 0} (r : Option Refusal) → is_some r ≡ true → r ≡ None → P
told_some r some none = absurd (not_some (ap is_some (sym none) ∙ some))
  where
    not_some : false ≡ true → ⊥
    not_some e = absurd cc

-- none is refused
pub told_none : (old mid : Session) (place : Place) (a b : ℕ) (first step : ℤ) (k : ℕ) → 1 ≤ a → a ≤ b → b ≤ count_of old.state.volume → IsSoFar old mid place a first step k → k ≡ b + 1 - a
    → HaveAgreed mid.reads → (let none : Option Refusal = None in none) ≡ first_refusal_among old.state.volume (Some place) (numbers a b first step)
told_none old mid place a b first step k low high last far all sure =
    let s : State = old.state in
    sym (renumber_not_refused s a b (field.Place place) first step place low high last refl (λ j less. far.none sure j (omega (arith, less, all)))) ∙ among_values s a b place first step low high last

-- ---- a field by its place

-- the first refusal of values counted up over the place of a field
pub renumber_first : (s : State) (a b : ℕ) (f : Field) (place : Place) (first step : ℤ) → AreTraces s.volume a b None → Some place ≡ place_in_trace s.fields f
    → first_refusal s (Renumber a b f first step) ≡ first_refusal_among s.volume (Some place) (numbers a b first step)
renumber_first s a b f place first step t e =
    let here : is_trace s.volume a ≡ true = rw (le-leb 1 a t.low, le-leb a (count_of s.volume) (omega (arith, t.high, t.last))) refl in
    let range : (leb a b && leb b (count_of s.volume)) ≡ true = rw (le-leb a b t.high, le-leb b (count_of s.volume) t.last) refl in
    rw (here, range, ← e) refl

-- what is done at the place is done at the field
pub renumber_same : (s new : State) (a b : ℕ) (f : Field) (place : Place) (first step : ℤ) → Some place ≡ place_in_trace s.fields f → IsAfter s (Renumber a b (field.Place place) first step) new → IsAfter s (Renumber a b f first step) new
renumber_same s new a b f place first step e done = record { volume = rw (← e) done.volume; fields = done.fields; reading = done.reading; limits = done.limits; on_disk = done.on_disk }

-- the traces may be looked at, unless the records tell the numbers
pub renumber_looks : (s : State) (a b : ℕ) (f : Field) (place : Place) (first step : ℤ) → AreTraces s.volume a b None → Some place ≡ place_in_trace s.fields f → is_told s.fields place ≡ false → 0 < edit_looks s (Renumber a b f first step)
renumber_looks s a b f place first step t e untold = rw (← e, untold, all_looks s.volume a b t) (omega (arith, t.high))

-- a look at each for the first refusal, and another for its record, are within the looks of the edit
looks_by_two : (free tells : Bool) (old mid new n : ℕ) → RisesAtMost old mid (if free then 0 else n) → RisesAtMost mid new n → (tells ≡ true → new ≡ mid) → RisesAtMost old new (if free && tells then 0 else 2 * n)
looks_by_two true true old mid new n first second same = rw (same refl) first
looks_by_two true false old mid new n first second same = (omega (arith, first, second), omega (arith, first, second))
looks_by_two false tells old mid new n first second same = (omega (arith, first, second), omega (arith, first, second))

pub renumber_twice : (s : State) (a b : ℕ) (f : Field) (place : Place) (first step : ℤ) (old mid new : ℕ) → AreTraces s.volume a b None → Some place ≡ place_in_trace s.fields f → RisesAtMost old mid (if leaves_length place then 0 else b + 1 - a)
    → RisesAtMost mid new (b + 1 - a) → (tells_record s.fields (offset_of place) place.kind.size ≡ true → new ≡ mid) → RisesAtMost old new (edit_looks s (Renumber a b f first step))
renumber_twice s a b f place first step old mid new t e seen put same =
    rw (← e, all_looks s.volume a b t) (looks_by_two (leaves_length place) (tells_record s.fields (offset_of place) place.kind.size) old mid new (b + 1 - a) seen put same)

-- ---- the cells

cons-head : {X : Type 0} (x y : X) (xs ys : List X) → x ∷ xs ≡ y ∷ ys → x ≡ y
cons-head {X = X} x y xs ys e = ap (λ (zs : List X). get_or zs 0 x) e

cons-tail : {X : Type 0} (x y : X) (xs ys : List X) → x ∷ xs ≡ y ∷ ys → xs ≡ ys
cons-tail {X = X} x y xs ys e = ap (λ (zs : List X). drop 1 zs) e

not_not : (b : Bool) → not (not b) ≡ b
not_not true = refl
not_not false = refl

not_either : (a b : Bool) → not (a || b) ≡ (not a && not b)
not_either true b = refl
not_either false b = refl

-- records are alike where their traces' cells are
cells_of : (s : State) (w : Volume) (n i : ℕ) (os new : List Record) → i + n ≤ length s.volume.traces → i + n ≤ length w.traces
    → map facts_of os ≡ map (record_of s.volume.head s.fields) (drop i s.volume.traces) → map facts_of new ≡ map (record_of s.volume.head s.fields) (take n (drop i w.traces))
    → same_cells os new ≡ not (list_any (moves s (with_volume s w)) (range_with_len (suc i) n))
cells_of s w zero i [] [] inside within e g = refl
cells_of s w zero i (o ∷ os) [] inside within e g = refl
cells_of s w zero i os (x ∷ xs) inside within e g = absurd cc
cells_of s w (suc n) i os new inside within e g =
    by (λ os new e g. cells_of s w n (i + 1) os new (omega (arith, inside)) (omega (arith, within)) e g) os new
    (e ∙ ap (λ ts. map f ts) (drop_more s.volume.traces i [] (omega (arith, inside))))
    (g ∙ ap (λ ts. map f (take (suc n) ts)) (drop_more w.traces i [] (omega (arith, within))))
  where
    f : List ℕ → Facts
    f = record_of s.volume.head s.fields

    t : List ℕ
    t = get_or s.volume.traces i []

    u : List ℕ
    u = get_or w.traces i []

    test : ℕ → Bool
    test = moves s (with_volume s w)

    -- what holds of the rest
    Again : Type 0
    Again = (os new : List Record) → map facts_of os ≡ map f (drop (i + 1) s.volume.traces) → map facts_of new ≡ map f (take n (drop (i + 1) w.traces))
        → same_cells os new ≡ not (list_any test (range_with_len (suc (i + 1)) n))

    by : Again → (os new : List Record) → map facts_of os ≡ f t ∷ map f (drop (i + 1) s.volume.traces) → map facts_of new ≡ f u ∷ map f (take n (drop (i + 1) w.traces))
        → same_cells os new ≡ not (list_any test (range_with_len (suc i) (suc n)))
    by again [] new e g = absurd cc
    by again (o ∷ os) [] e g = absurd cc
    by again (o ∷ os) (x ∷ xs) e g =
        let next : suc (i + 1) ≡ suc i + 1 = omega arith in
        let rest = again os xs (cons-tail _ _ _ _ e) (cons-tail _ _ _ _ g) ∙ ap (λ (k : ℕ). not (list_any test (range_with_len k n))) next in
        let here : suc i - 1 ≡ i = omega arith in
        let own : same_cell o x ≡ not (test (suc i)) =
        rw here (ap₂ (λ (a b : Facts). int_eq a.inline b.inline && int_eq a.crossline b.crossline) (cons-head _ _ _ _ e) (cons-head _ _ _ _ g) ∙ sym (not_not (cell s.volume.head s.fields t u))) in
        ap₂ (λ (a b : Bool). a && b) own rest ∙ sym (not_either (test (suc i)) (list_any test (range_with_len (suc i + 1) n)))

-- whether the new records of traces from trace a on have the cells of the old ones
pub cells_stay : (s : State) (w : Volume) (a n : ℕ) (rs new : List Record) → 1 ≤ a → a - 1 + n ≤ length s.volume.traces → a - 1 + n ≤ length w.traces
    → map facts_of (drop (a - 1) rs) ≡ map (record_of s.volume.head s.fields) (drop (a - 1) s.volume.traces) → map facts_of new ≡ map (record_of s.volume.head s.fields) (take n (drop (a - 1) w.traces))
    → not (same_cells (drop (a - 1) rs) new) ≡ any_moves s (with_volume s w) a (a - 1 + n)
cells_stay s w a n rs new low inside within e g =
    let from : suc (a - 1) ≡ a = omega (arith, low) in
    let count : a - 1 + n + 1 - a ≡ n = omega (arith, low) in
    ap not (cells_of s w n (a - 1) (drop (a - 1) rs) new inside within e g)
    ∙ not_not (list_any (moves s (with_volume s w)) (range_with_len (suc (a - 1)) n))
    ∙ ap₂ (λ (k m : ℕ). list_any (moves s (with_volume s w)) (range_with_len k m)) from (sym count)

-- ---- bytes laid over the headers of many traces, and the records that are then put in

-- the new records are those of the changed headers, have room where the old ones stand, and make the records those of the changed volume
pub record AreTheirRecords (v : Volume) (fields : Pairs) (a at size : ℕ) (bytes : List ℕ) (rs new : List Record) : Type 0 where
  pub made : map facts_of new ≡ take (length bytes / size) (drop (a - 1) (headers_of (with_each v a at size bytes) fields (map facts_of rs)))
  pub room : a - 1 + length new ≤ length rs
  pub records : map facts_of (with_records rs (a - 1) new) ≡ records_of (with_each v a at size bytes) fields

pub their_records : (v prepared : Volume) (fields : Pairs) (a count at size : ℕ) (bytes : List ℕ) (rs new : List Record) → AreHeaderParts v a at size bytes → map facts_of rs ≡ records_of v fields → prepared ≡ with_each v a at size bytes
    → length bytes / size ≡ count → map facts_of new ≡ take count (drop (a - 1) (headers_of prepared fields (map facts_of rs))) → AreTheirRecords v fields a at size bytes rs new
their_records v prepared fields a count at size bytes rs new parts held prep number given =
    let w : Volume = with_each v a at size bytes in
    let made : map facts_of new ≡ take (length bytes / size) (drop (a - 1) (headers_of w fields (map facts_of rs))) =
    given
    ∙ ap (λ (u : Volume). take count (drop (a - 1) (headers_of u fields (map facts_of rs)))) prep
    ∙ ap (λ (n : ℕ). take n (drop (a - 1) (headers_of w fields (map facts_of rs)))) (sym number) in
    let long = length-with_each v fields a at size bytes rs new parts held made in
    let many = length-records v fields rs held in
    record { made = made; room = omega (arith, many, long, parts.last); records = records-with_each v fields a at size bytes rs new parts held made }
