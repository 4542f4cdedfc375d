-- The slices that are kept after an edit are those of the volume after it.
use Rattle.std.proofs.Common.{◌≡◌, ℕ, ℤ, ◌-◌, ◌<◌, ◌≤◌, Bool, true, false, cond, eqb, List, [], ◌∷◌, length, Option, Some, None, refl, sym, ap, subst, ◌∙◌, arith, get_or-set_same, length-set}
use Rattle.std.specs.Prelude.{Result, Ok, Err, IfErr, IfOk, IsErrOf, OnErr, option_map, not}
use Rattle.std.specs.Result.{IsErrAnd}
use Rattle.std.specs.List.{list_any}
use Rattle.std.proofs.lemmas.Bool.{eq-eqb, le-leb}
use Rattle.std.proofs.lemmas.List.Elements.{All-cons, All-head, All-nil, All-tail, All-filter}
use Rattle.room.specs.Refusals.{Rises}
use Rattle.field_map.specs.Binding.{HasGeometry, is_geometry}
use Rattle.field_map.specs.declared.place.Place.{Place}
use Rattle.frame_cut.specs.Cuts.{IsCut}
use Rattle.frame_cut.specs.Traces.{count_of, trace_of, trace_at, with_trace}
use Rattle.frame_cut.specs.Volume.{Volume, bytes_of}
use Rattle.edit_overlay.specs.Reads.{Reads}
use Rattle.bench_rules.specs.KeptSlices.{Cache, kept_numbers, kept_of, is_from, IsRight}
use Rattle.time_slice.proofs.CacheLemmas.{numbers_after_forgotten}
use Rattle.bench_rules.specs.declared.edit.Edit.{Edit}
use Rattle.bench_rules.specs.declared.edit.Edit.TheVariants.{Set, SetBin, Declare, DropTail, SetText, Map, MapAs, Unmap, Patch, Blank, Copy, Delete, Move, MoveBlock, Resize, Renumber, Compute, Sort, OfChosen}
use Rattle.bench_rules.specs.declared.refusal.Refusal.{Refusal}
use Rattle.bench_rules.specs.declared.refusal.Refusal.TheVariants.{OutOfMemory}
use Rattle.bench_rules.specs.declared.query.Query.{Query}
use Rattle.bench_rules.specs.declared.query.Query.TheVariants.{Count, Info, Get, GetBin, Line, Code, Stanzas, Fields, Sample, Geometry, Stat, Fold, Grid, Inlines, Crosslines, Histogram, Range, Totals, Slice, Faults, Problems, Survey, Lines, Table, Find, Header, Extremes, OfChosen as AskOfChosen}
use Rattle.bench_rules.specs.Kept.{kept_after_edit, kept_after_query, same_cell, cell_of}
use Rattle.bench_rules.specs.Live.{AreSlicesOf, kept_after_reply}
use Rattle.bench_rules.specs.Looks.{query_looks}
use Rattle.bench_rules.specs.Places.{place_in_trace}
use Rattle.bench_rules.specs.Refused.{first_refusal, with_value}
use Rattle.bench_rules.specs.ReadFaults.{IsRefusalOfReads}
use Rattle.bench_rules.specs.Reports.{slice_in}
use Rattle.bench_rules.specs.State.{State}
use Rattle.bench_rules.specs.Steps.{IsAfter, Step, StepUnless}
use Rattle.bench_rules.proofs.HeaderEditLemmas.{no_place}
use Rattle.bench_laws.proofs.KeptSliceLemmas.{Has, kept_slices_stay}
use Rattle.bench_laws.proofs.ReadsSetLemmas.{made}
use Rattle.live_volume.specs.Held.{any_moves}
use Rattle.bench_core.specs.Changes.{cell_at, has_moved, is_moved, entries_after}
use Rattle.bench_core.proofs.ManyTracesLemmas.{numbers_of_many, numbers_of_computed}

-- ---- an edit that is done

-- it meets no refusal, and the new state is the one after it
pub done : {T : Type 0} (old new : State) (edit : Edit) (u : T) → Step old edit (Ok u) new → (first_refusal old edit ≡ None) × IsAfter old edit new
done old new edit u step = by (first_refusal old edit) refl step
  where
    by : (o : Option Refusal) → first_refusal old edit ≡ o → StepUnless o old edit (Ok u) new → (first_refusal old edit ≡ None) × IsAfter old edit new
    by (Some refusal) e bad = absurd bad
    by None e after = (e, after)

-- a refusal is one, whatever would be told of an edit that is done
pub refused_too : (T U : Type 0) (old new : State) (edit : Edit) (r : Refusal) (s : Result U Refusal) → IsErrAnd s (λ e. e ≡ r) → (let t : Result T Refusal = Err r in Step old edit t new) → Step old edit s new
refused_too T U old new edit r (Ok u) is step = absurd is
refused_too T U old new edit r (Err e) is step = subst (λ (x : Refusal). let s : Result U Refusal = Err x in Step old edit s new) (sym is) (by (first_refusal old edit) step)
  where
    by : (o : Option Refusal) → (let t : Result T Refusal = Err r in StepUnless o old edit t new) → (let s : Result U Refusal = Err r in StepUnless o old edit s new)
    by (Some refusal) h = h
    by None h = h

-- nothing is told of it then
pub none_told : {T E : Type 0} (P : E → Type 0) (Q : T → Type 0) (s : Result T E) → IsErrAnd s P → IfOk s Q
none_told P Q (Ok x) is = absurd is
none_told P Q (Err e) is = tt

-- what holds of a refusal
pub on_err : {T E : Type 0} (P : E → Type 0) (s : Result T E) {A : Type 0} → IsErrAnd s P → A → OnErr s A
on_err P (Ok x) is a = tt
on_err P (Err e) is a = a

-- ---- the numbers

-- the cell of a trace that there is
cell_there : (s : State) (p : ℕ) → 1 ≤ p → p ≤ count_of s.volume → cell_at s p ≡ Some (cell_of s.volume.head s.fields (trace_at s.volume p))
cell_there s p first last = rw (le-leb 1 p first, le-leb p (count_of s.volume) last) refl

-- a set moves its trace where the two cells differ
moved_by_set : (old new : State) (p : ℕ) (place : Place) (x : ℤ) → 1 ≤ p → p ≤ count_of old.volume → new.fields ≡ old.fields
    → new.volume ≡ with_trace old.volume p (with_value old.volume.head (trace_at old.volume p) place x)
    → is_moved (cell_at old p) (cell_at new p) ≡ not (same_cell old.volume.head old.fields (trace_at old.volume p) (with_value old.volume.head (trace_at old.volume p) place x))
moved_by_set old new p place x first last fields volume =
    let u : List ℕ = with_value old.volume.head (trace_at old.volume p) place x in
    let w : Volume = with_trace old.volume p u in
    let s : State = record old { volume = w } in
    let there : p - 1 < length old.volume.traces = omega (arith, first, last) in
    let long : p ≤ count_of w = omega (arith, length-set old.volume.traces (p - 1) u, last) in
    let again : trace_at w p ≡ u = get_or-set_same old.volume.traces (p - 1) u [] there in
    let after : cell_at new p ≡ Some (cell_of old.volume.head old.fields u) =
    ap (λ (v : Volume). option_map (cell_of v.head new.fields) (trace_of v p)) volume
    ∙ ap (λ fields. option_map (cell_of w.head fields) (trace_of w p)) fields
    ∙ cell_there s p first long
    ∙ ap (λ t. let o : Option (ℤ × ℤ) = Some (cell_of old.volume.head old.fields t) in o) again in
    ap (λ c. is_moved c (cell_at new p)) (cell_there old p first last)
    ∙ ap (λ c. is_moved (Some (cell_of old.volume.head old.fields (trace_at old.volume p))) c) after

numbers_if : (b : Bool) (cache : Cache) → kept_numbers (cond (not b) [] cache) ≡ cond b (kept_numbers cache) []
numbers_if true cache = refl
numbers_if false cache = refl

numbers_unless : (b : Bool) (cache : Cache) → kept_numbers (cond b [] cache) ≡ cond b [] (kept_numbers cache)
numbers_unless true cache = refl
numbers_unless false cache = refl

-- the numbers that stay are those that the definition keeps
pub numbers_follow : (old new : State) (edit : Edit) (cache : Cache) → IsCut (bytes_of old.volume) old.reading old.limits old.volume
    → first_refusal old edit ≡ None → IsAfter old edit new
    → kept_numbers (entries_after (has_moved old edit new) edit cache) ≡ kept_after_edit old edit (kept_numbers cache)
numbers_follow old new (Set p f x) cache cut none after = by (place_in_trace old.fields f) refl
  where
    by : (o : Option Place) → place_in_trace old.fields f ≡ o
        → kept_numbers (entries_after (is_moved (cell_at old p) (cell_at new p)) (Set p f x) cache) ≡ kept_after_edit old (Set p f x) (kept_numbers cache)
    by None e = absurd (no_place old p f x e none)
    by (Some place) e =
        let m = made old p f place x new.volume e cut none after.volume in
        let b : Bool = same_cell old.volume.head old.fields (trace_at old.volume p) (with_value old.volume.head (trace_at old.volume p) place x) in
        rw e
        (ap (λ (moved : Bool). kept_numbers (cond moved [] cache)) (moved_by_set old new p place x m.accepted.first m.accepted.last after.fields m.same)
        ∙ numbers_if b cache)
numbers_follow old new (SetBin f x) cache cut none after = refl
numbers_follow old new Declare cache cut none after = refl
numbers_follow old new DropTail cache cut none after = refl
numbers_follow old new (SetText q text) cache cut none after = refl
numbers_follow old new (Map name field) cache cut none after = numbers_unless (is_geometry name) cache
numbers_follow old new (MapAs mapping) cache cut none after = refl
numbers_follow old new (Unmap name) cache cut none after = refl
numbers_follow old new (Patch p k values) cache cut none after = numbers_after_forgotten k (length values) cache
numbers_follow old new (Blank p) cache cut none after = refl
numbers_follow old new (Copy q p) cache cut none after = refl
numbers_follow old new (Delete p) cache cut none after = refl
numbers_follow old new (Move a b) cache cut none after = refl
numbers_follow old new (MoveBlock a b to) cache cut none after = refl
numbers_follow old new (Resize p m) cache cut none after = refl
numbers_follow old new (Renumber a b f first step) cache cut none after =
    numbers_unless (any_moves old new a b) cache ∙ numbers_of_many old new a b f first step (kept_numbers cache) cut none after
numbers_follow old new (Compute a b f source steps) cache cut none after =
    numbers_unless (any_moves old new a b) cache ∙ numbers_of_computed old new a b f source steps (kept_numbers cache) cut none after
numbers_follow old new (Sort a b fs falls) cache cut none after = refl
numbers_follow old new (OfChosen c edit) cache cut none after = refl

-- ---- the rows

-- slices that are as they were are right where they were
right_again : (old new : State) (cache : Cache) → ((k : ℕ) → Has k (kept_numbers cache) → slice_in new k ≡ slice_in old k) → AreSlicesOf old cache → AreSlicesOf new cache
right_again old new [] same all = All-nil (IsRight new.volume.head new.fields new.volume.traces)
right_again old new (e ∷ es) same all =
    let own : Has e.0 (kept_numbers (e ∷ es)) = rw (eq-eqb e.0 e.0 refl) refl in
    All-cons (IsRight new.volume.head new.fields new.volume.traces) e es
    (All-head (IsRight old.volume.head old.fields old.volume.traces) e es all ∙ sym (ap kept_of (same e.0 own)))
    (right_again old new es (λ k any. same k (later e.0 k (kept_numbers es) any)) (All-tail (IsRight old.volume.head old.fields old.volume.traces) e es all))
  where
    later : (j k : ℕ) (kept : List ℕ) → Has k kept → Has k (j ∷ kept)
    later j k kept any = by (eqb j k) refl
      where
        by : (b : Bool) → eqb j k ≡ b → Has k (j ∷ kept)
        by true same = rw same refl
        by false other = rw other any

-- what stays was there
right_part : (s : State) (edit : Edit) (moved : Bool) (cache : Cache) → AreSlicesOf s cache → AreSlicesOf s (entries_after moved edit cache)
right_part s edit moved cache all = by edit
  where
    R : ℕ × List (ℕ × ℤ) → Type 0
    R = IsRight s.volume.head s.fields s.volume.traces

    if_not : (b : Bool) → AreSlicesOf s (cond b [] cache)
    if_not true = All-nil R
    if_not false = all

    by : (edit : Edit) → AreSlicesOf s (entries_after moved edit cache)
    by (Set p f x) = if_not moved
    by (SetBin f x) = all
    by Declare = all
    by DropTail = all
    by (SetText q text) = all
    by (Map name field) = if_not (is_geometry name)
    by (MapAs mapping) = All-nil R
    by (Unmap name) = all
    by (Patch p k values) = All-filter (λ e. not (is_from k (length values) e.0)) R cache all
    by (Blank p) = All-nil R
    by (Copy q p) = All-nil R
    by (Delete p) = All-nil R
    by (Move a b) = All-nil R
    by (MoveBlock a b to) = All-nil R
    by (Resize p m) = All-nil R
    by (Renumber a b f first step) = if_not moved
    by (Compute a b f source steps) = if_not moved
    by (Sort a b fs falls) = All-nil R
    by (OfChosen c edit) = All-nil R

-- each slice that stays is that of the volume after the edit
pub slices_follow : (old new : State) (edit : Edit) (cache : Cache) → IsCut (bytes_of old.volume) old.reading old.limits old.volume → HasGeometry old.volume.head.extensions old.fields
    → first_refusal old edit ≡ None → IsAfter old edit new → AreSlicesOf old cache
    → AreSlicesOf new (entries_after (has_moved old edit new) edit cache)
slices_follow old new edit cache cut has none after all =
    let moved : Bool = has_moved old edit new in
    let numbers = numbers_follow old new edit cache cut none after in
    right_again old new (entries_after moved edit cache)
    (λ k any. kept_slices_stay old new edit (kept_numbers cache) k cut has none after (ap (λ (ns : List ℕ). list_any (λ j. eqb j k) ns) (sym numbers) ∙ any))
    (right_part old edit moved cache all)

-- ---- queries

-- a query of no slice looks at as many traces whatever slices are kept, and leaves them
pub no_slice : (q : Query) → ((k : ℕ) → q ≡ Slice k → ⊥) → ((s : State) (kept : List ℕ) → query_looks s kept q ≡ query_looks s [] q) × ((kept : List ℕ) → kept_after_query q kept ≡ kept)
no_slice Count other = (λ s kept. refl, λ kept. refl)
no_slice Info other = (λ s kept. refl, λ kept. refl)
no_slice (Get p field) other = (λ s kept. refl, λ kept. refl)
no_slice (GetBin field) other = (λ s kept. refl, λ kept. refl)
no_slice (Line b q) other = (λ s kept. refl, λ kept. refl)
no_slice (Code b) other = (λ s kept. refl, λ kept. refl)
no_slice Stanzas other = (λ s kept. refl, λ kept. refl)
no_slice Fields other = (λ s kept. refl, λ kept. refl)
no_slice (Sample p k) other = (λ s kept. refl, λ kept. refl)
no_slice (Geometry p) other = (λ s kept. refl, λ kept. refl)
no_slice (Stat p) other = (λ s kept. refl, λ kept. refl)
no_slice (Fold i c) other = (λ s kept. refl, λ kept. refl)
no_slice Grid other = (λ s kept. refl, λ kept. refl)
no_slice Inlines other = (λ s kept. refl, λ kept. refl)
no_slice Crosslines other = (λ s kept. refl, λ kept. refl)
no_slice Histogram other = (λ s kept. refl, λ kept. refl)
no_slice (Range quantity) other = (λ s kept. refl, λ kept. refl)
no_slice Totals other = (λ s kept. refl, λ kept. refl)
no_slice (Slice k) other = absurd (other k refl)
no_slice Faults other = (λ s kept. refl, λ kept. refl)
no_slice Problems other = (λ s kept. refl, λ kept. refl)
no_slice Survey other = (λ s kept. refl, λ kept. refl)
no_slice (Lines b) other = (λ s kept. refl, λ kept. refl)
no_slice (Table a b fields) other = (λ s kept. refl, λ kept. refl)
no_slice (Find a b field low high) other = (λ s kept. refl, λ kept. refl)
no_slice (Header p) other = (λ s kept. refl, λ kept. refl)
no_slice (Extremes a b) other = (λ s kept. refl, λ kept. refl)
no_slice (AskOfChosen c query) other = (λ s kept. refl, λ kept. refl)

-- numbers that an answer leaves stay whatever the reply is
pub same_kept : {A E : Type 0} (r : Result A E) {after before : List ℕ} → after ≡ before → kept_after_reply r after before ≡ before
same_kept (Ok a) same = same
same_kept (Err e) same = refl

-- what the reads tell of a refusal they tell where it is handed on
pub tells_too : {T : Type 0} (refusal : Refusal) (r : Result T Refusal) (old new : Reads) → IsErrAnd r (λ e. e ≡ refusal) → IsRefusalOfReads old new refusal → IfErr r (IsRefusalOfReads old new)
tells_too refusal (Ok x) old new is told = absurd is
tells_too refusal (Err e) old new is told = subst (λ (x : Refusal). IsRefusalOfReads old new x) (sym is) told

module _ {T U : Type 0} where
  -- what was refused for want of memory is so too where the refusal is handed on
  pub rises_too : (refusal : Refusal) (r : Result T Refusal) (old new : ℕ) → IsErrAnd r (λ e. e ≡ refusal) → Rises (IsErrOf {T = U} (Err refusal) OutOfMemory) old new → Rises (IsErrOf r OutOfMemory) old new
  rises_too refusal (Ok x) old new is rises = absurd is
  rises_too refusal (Err e) old new is rises = record {
    never_falls = rises.never_falls;
    rose = λ want.
        let same : e ≡ OutOfMemory = cc in
        rises.rose (ap (λ (f : Refusal). let q : Result U Refusal = Err f in q) (sym is ∙ same));
  }
