-- Edits of chosen traces: those of the first traces, to which they were brought, once all are brought back.
use Rattle.std.proofs.Common.{◌≡◌, ◌⊎◌, ℕ, ℤ, zero, suc, ◌+◌, ◌-◌, ◌*◌, ◌<◌, ◌≤◌, Bool, true, false, ◌&&◌, leb, List, [], ◌∷◌, length, Option, Some, None, Ok, Err, inl, inr, refl, sym, ap, subst, ◌∙◌, arith}
use Rattle.std.specs.Option.{option_map_or, option_or}
use Rattle.std.specs.Prelude.{is_some, option_map, Result, OnOk, OnErr, IfOk, IfErr}
use Rattle.std.proofs.lemmas.Bool.{le-leb}
use Rattle.sample_codes.specs.Formats.{values}
use Rattle.field_map.specs.declared.place.Place.{Place}
use Rattle.frame_cut.specs.Cuts.{IsCut}
use Rattle.frame_cut.specs.Traces.{count_of}
use Rattle.frame_cut.specs.Volume.{Volume, bytes_of}
use Rattle.trace_store.specs.Swapped.{with_places_swapped, ArePlaces}
use Rattle.edit_overlay.specs.CountedVolume.{RisesAtMost}
use Rattle.bench_rules.specs.declared.chosen_edit.ChosenEdit.{ChosenEdit}
use Rattle.bench_rules.specs.declared.chosen_edit.ChosenEdit.TheVariants as each
use Rattle.bench_rules.specs.declared.edit.Edit.{Edit}
use Rattle.bench_rules.specs.declared.edit.Edit.TheVariants.{Renumber, Compute}
use Rattle.bench_rules.specs.declared.field.Field.{Field}
use Rattle.bench_rules.specs.declared.operand.Operand.{Operand}
use Rattle.bench_rules.specs.declared.operator.Operator.{Operator}
use Rattle.bench_rules.specs.declared.refusal.Refusal.{Refusal}
use Rattle.bench_rules.specs.declared.refusal.Refusal.TheVariants.{OutOfMemory}
use Rattle.bench_rules.specs.ChosenEdits.{bytes_after_each, has_fields, refusal_of_edit}
use Rattle.bench_rules.specs.Computed.{Formula, formula_of}
use Rattle.bench_rules.specs.Conditions.{AreRising}
use Rattle.bench_rules.specs.FilledSamples.{sample_value_refusal}
use Rattle.bench_rules.specs.Looks.{each_looks, edit_looks, looks_at, put_looks, range_looks}
use Rattle.bench_rules.specs.Places.{place_in_trace}
use Rattle.bench_rules.specs.ReadFaults.{IsReadRefusal}
use Rattle.bench_rules.specs.Refused.{first_refusal}
use Rattle.bench_rules.specs.State.{State}
use Rattle.bench_rules.specs.SwappedFields.{two_places}
use Rattle.bench_rules.specs.Steps.{IsAfter, Step, StepUnless, FailsToRead}
use Rattle.bench_rules.proofs.ChosenLemmas.{rising-few}
use Rattle.bench_rules.proofs.ManyValueLemmas.{IsRead}
use Rattle.bench_rules.proofs.ToldLemmas.{told_is}
use Rattle.chosen_traces.specs.Gathered.{pairs_from, pairs_back}
use Rattle.chosen_traces.specs.Retold.{retold}
use Rattle.chosen_traces.proofs.ComputedFrontLemmas.{compute-back, compute-refused}
use Rattle.chosen_traces.proofs.FrontLemmas.{front-count, renumber-back, renumber-refused, with_front}
use Rattle.chosen_traces.proofs.GatheredLemmas.{brought_back}
use Rattle.frame_cut.specs.Parts.{with_each}
use Rattle.volume_records.proofs.EachLemmas.{length-put_each}
use Rattle.live_volume.specs.Chosen.{IsRefusedFor}
use Rattle.live_volume.specs.Refusals.{IsOfMachine}

-- ---- no traces

-- what is refused all the same is a value for samples
pub empty_none : (s : State) (edit : ChosenEdit) → ((first last : ℕ) (x : ℤ) → edit ≡ each.Fill first last x → ⊥) → refusal_of_edit s.volume s.fields edit [] ≡ None
empty_none s (each.Nothing names) other = refl
empty_none s (each.Renumber f first step) other = refl
empty_none s (each.Compute f source steps) other = by (formula_of s.fields f source steps)
  where
    by : (o : Option Formula) → option_map_or (λ (g : Formula). let r : Option Refusal = None in r) o None ≡ None
    by None = refl
    by (Some g) = refl
empty_none s each.Delete other = refl
empty_none s (each.Swap first second) other = by (two_places s.fields first second)
  where
    by : (o : Option (Place × Place)) → option_map_or (λ (places : Place × Place). let r : Option Refusal = None in r) o None ≡ None
    by None = refl
    by (Some places) = refl
empty_none s (each.Fill first last x) other = absurd (other first last x refl)

pub empty_filled : (s : State) (first last : ℕ) (x : ℤ) → refusal_of_edit s.volume s.fields (each.Fill first last x) [] ≡ sample_value_refusal (values s.volume.head.format) x
empty_filled s first last x = by (sample_value_refusal (values s.volume.head.format) x)
  where
    by : (o : Option Refusal) → option_or o None ≡ o
    by None = refl
    by (Some r) = refl

pub empty_cut : (s : State) (edit : ChosenEdit) → IsRead s → IsCut (bytes_after_each s.volume s.fields edit []) s.reading s.limits s.volume
empty_cut s (each.Nothing names) read = read
empty_cut s (each.Renumber f first step) read = by (place_in_trace s.fields f) refl
  where
    by : (o : Option Place) → place_in_trace s.fields f ≡ o → IsCut (bytes_after_each s.volume s.fields (each.Renumber f first step) []) s.reading s.limits s.volume
    by None e = rw e read
    by (Some place) e = rw e read
empty_cut s (each.Compute f source steps) read = by (formula_of s.fields f source steps) refl
  where
    by : (o : Option Formula) → formula_of s.fields f source steps ≡ o → IsCut (bytes_after_each s.volume s.fields (each.Compute f source steps) []) s.reading s.limits s.volume
    by None e = rw e read
    by (Some g) e = rw e read
empty_cut s each.Delete read = read
empty_cut s (each.Swap first second) read = by (two_places s.fields first second) refl
  where
    by : (o : Option (Place × Place)) → two_places s.fields first second ≡ o → IsCut (bytes_after_each s.volume s.fields (each.Swap first second) []) s.reading s.limits s.volume
    by None e = rw e read
    by (Some places) e = rw e read
empty_cut s (each.Fill first last x) read = read

-- a list without items
pub is_nothing : (ps : List ℕ) → length ps ≡ 0 → ps ≡ []
is_nothing [] e = refl
is_nothing (p ∷ ps) e = absurd (omega (arith, e))

-- ---- the count

-- numbers laid over traces leave as many of them
pub counted_either : {T : Type 0} (r : Result T Refusal) (on_disk : Bool) (old new : State) (a at size : ℕ) (bs : List ℕ)
    → OnOk r (new ≡ record old { volume = with_each old.volume a at size bs }) → IfErr r (λ refusal. IsOfMachine on_disk refusal × (new ≡ old)) → count_of new.volume ≡ count_of old.volume
counted_either (Ok x) on_disk old new a at size bs ok err = ap (λ (s : State). count_of s.volume) ok ∙ length-put_each old.volume.traces (a - 1) at size bs
counted_either (Err e) on_disk old new a at size bs ok err = ap (λ (s : State). count_of s.volume) err.1

-- ---- the step in front

-- an edit that was done was not refused
pub taken : {T : Type 0} (o : Option Refusal) (old new : State) (edit : Edit) (x : T) → first_refusal old edit ≡ o → StepUnless o old edit (Ok x) new → (first_refusal old edit ≡ None) × IsAfter old edit new
taken (Some r) old new edit x e step = absurd step
taken None old new edit x e step = (e, step)

-- and one that was refused met a refusal, or want of memory, or a read that failed
pub refused : (T : Type 0) (o : Option Refusal) (old new : State) (edit : Edit) (r : Refusal) → first_refusal old edit ≡ o → (let e : Result T Refusal = Err r in StepUnless o old edit e new)
    → (r ≡ OutOfMemory) ⊎ FailsToRead old edit r ⊎ (first_refusal old edit ≡ Some r)
refused T (Some x) old new edit r e (inl is, same) = by (told_is old edit x r is)
  where
    by : (r ≡ x) ⊎ (r ≡ OutOfMemory) → (r ≡ OutOfMemory) ⊎ FailsToRead old edit r ⊎ (first_refusal old edit ≡ Some r)
    by (inl told) = inr (inr (e ∙ ap (λ (y : Refusal). let o : Option Refusal = Some y in o) (sym told)))
    by (inr want) = inl want
refused T (Some x) old new edit r e (inr read, same) = inr (inl read)
refused T None old new edit r e (inl want, same) = inl want.0
refused T None old new edit r e (inr read, same) = inr (inl read)

-- the traces are in front, and then back
pub front_is : (s s1 : State) (ps : List ℕ) (pairs : List (ℕ × ℕ)) → s1 ≡ record s { volume = with_places_swapped s.volume pairs } → pairs ≡ pairs_from 1 ps → s1 ≡ with_front s ps
front_is s s1 ps pairs is same = is ∙ ap (λ (qs : List (ℕ × ℕ)). let u : State = record s { volume = with_places_swapped s.volume qs } in u) same

pub back_is : (s2 s3 : State) (ps : List ℕ) (pairs : List (ℕ × ℕ)) → s3 ≡ record s2 { volume = with_places_swapped s2.volume pairs } → pairs ≡ pairs_back 1 ps → s3 ≡ record s2 { volume = with_places_swapped s2.volume (pairs_back 1 ps) }
back_is s2 s3 ps pairs is same = is ∙ ap (λ (qs : List (ℕ × ℕ)). let u : State = record s2 { volume = with_places_swapped s2.volume qs } in u) same

-- the exchanges look at none
pub risen : (a b c d n m : ℕ) → b ≡ a → d ≡ c → n ≡ m → RisesAtMost b c n → RisesAtMost a d m
risen a b c d n m e f g rises = (omega (arith, e, f, rises.0), omega (arith, e, f, g, rises.1))

-- all are brought back
pub back_again : (s s1 s2 s3 : State) (ps : List ℕ) → AreRising 1 (count_of s.volume) ps → s1 ≡ with_front s ps → s2 ≡ s1 → s3 ≡ record s2 { volume = with_places_swapped s2.volume (pairs_back 1 ps) } → s3 ≡ s
back_again s s1 s2 s3 ps up front same back =
    back
    ∙ ap (λ (u : State). let v : State = record u { volume = with_places_swapped u.volume (pairs_back 1 ps) } in v) (same ∙ front)
    ∙ ap (λ (ts : List (List ℕ)). let v : State = record s { volume = record s.volume { traces = ts } } in v) (brought_back [] s.volume.traces 1 ps (omega arith) up)

module _ (s s1 s2 : State) (ps : List ℕ) (up : AreRising 1 (count_of s.volume) ps) (some : 0 < length ps) (front : s1 ≡ with_front s ps) where
  abbrev n : ℕ
  n = length ps

  looked : range_looks (with_front s ps).volume 1 n ≡ n
  looked =
      let few : 1 + n ≤ count_of s.volume + 1 = rising-few 1 (count_of s.volume) ps (omega arith) up in
      let count = front-count s ps up some in
      let least : leb 1 (count_of (with_front s ps).volume) ≡ true = le-leb 1 (count_of (with_front s ps).volume) (omega (arith, few, count, some)) in
      let all : leb n (count_of (with_front s ps).volume) ≡ true = le-leb n (count_of (with_front s ps).volume) (omega (arith, few, count)) in
      rw (least, le-leb 1 n some, all) (omega arith)

  -- ---- a field counted up

  module _ (f : Field) (first step : ℤ) where
    pub renumber_looks : edit_looks s1 (Renumber 1 n f first step) ≡ each_looks s.fields (each.Renumber f first step) n
    renumber_looks = rw front (ap (λ (k : ℕ). put_looks s.fields (place_in_trace s.fields f) (2 * k)) looked)

    pub renumber_done : {T : Type 0} (x : T) → IsRead s → is_some (place_in_trace s.fields f) ≡ true → Step s1 (Renumber 1 n f first step) (Ok x) s2
        → (refusal_of_edit s.volume s.fields (each.Renumber f first step) ps ≡ None)
        × IsCut (bytes_after_each s.volume s.fields (each.Renumber f first step) ps) s.reading s.limits (with_places_swapped s2.volume (pairs_back 1 ps)) × (s2.fields ≡ s.fields)
    renumber_done x read has done =
        let is = taken (first_refusal s1 (Renumber 1 n f first step)) s1 s2 (Renumber 1 n f first step) x refl done in
        let none : first_refusal (with_front s ps) (Renumber 1 n f first step) ≡ None = rw front at is.0 in
        let after : IsAfter (with_front s ps) (Renumber 1 n f first step) s2 = rw front at is.1 in
        (sym (renumber-refused s ps up some f first step) ∙ none, renumber-back s ps up some f first step s2 read has none after, after.fields)

    pub renumber_told : (T : Type 0) (r : Refusal) → (let e : Result T Refusal = Err r in Step s1 (Renumber 1 n f first step) e s2) → IsRefusedFor s (each.Renumber f first step) ps r
    renumber_told T r done = by (refused T (first_refusal s1 (Renumber 1 n f first step)) s1 s2 (Renumber 1 n f first step) r refl done)
      where
        by : (r ≡ OutOfMemory) ⊎ FailsToRead s1 (Renumber 1 n f first step) r ⊎ (first_refusal s1 (Renumber 1 n f first step) ≡ Some r) → IsRefusedFor s (each.Renumber f first step) ps r
        by (inl want) = inl want
        by (inr (inl read)) = inr (inl (subst (λ (u : State). IsReadRefusal u.on_disk r) front read.1, subst (λ (k : ℕ). 0 < k) renumber_looks read.0))
        by (inr (inr is)) = inr (inr (sym (renumber-refused s ps up some f first step) ∙ ap (λ (u : State). first_refusal u (Renumber 1 n f first step)) (sym front) ∙ is))

  -- ---- a computed field

  module _ (f : Field) (source : Operand) (steps : List (Operator × Operand)) (has : is_some (formula_of s.fields f source steps) ≡ true) where
    abbrev edit : Edit
    edit = Compute 1 n f source steps

    some_looks : {X : Type 0} (o : Option X) (k : ℕ) → is_some o ≡ true → looks_at o k ≡ k
    some_looks None k e = absurd cc
    some_looks (Some x) k e = refl

    pub compute_looks : edit_looks s1 edit ≡ 2 * n
    compute_looks = rw front (ap (λ (k : ℕ). looks_at (formula_of s.fields f source steps) (2 * k)) looked ∙ some_looks (formula_of s.fields f source steps) (2 * n) has)

    pub compute_done : {T : Type 0} (x : T) → IsRead s → Step s1 edit (Ok x) s2
        → (refusal_of_edit s.volume s.fields (each.Compute f source steps) ps ≡ None)
        × IsCut (bytes_after_each s.volume s.fields (each.Compute f source steps) ps) s.reading s.limits (with_places_swapped s2.volume (pairs_back 1 ps)) × (s2.fields ≡ s.fields)
    compute_done x read done =
        let is = taken (first_refusal s1 edit) s1 s2 edit x refl done in
        let none : first_refusal (with_front s ps) edit ≡ None = rw front at is.0 in
        let after : IsAfter (with_front s ps) edit s2 = rw front at is.1 in
        (sym (compute-refused s ps up some f source steps has) ∙ ap (option_map (retold ps)) none, compute-back s ps up some f source steps s2 read none after, after.fields)

    retold_want : retold ps OutOfMemory ≡ OutOfMemory
    retold_want = refl

    retold_read : (on_disk : Bool) (r : Refusal) → IsReadRefusal on_disk r → IsReadRefusal on_disk (retold ps r)
    retold_read on_disk r (disk, inl is) = (disk, inl (ap (retold ps) is))
    retold_read on_disk r (disk, inr is) = (disk, inr (ap (retold ps) is))

    pub compute_told : (T : Type 0) (r : Refusal) → (let e : Result T Refusal = Err r in Step s1 edit e s2) → IsRefusedFor s (each.Compute f source steps) ps (retold ps r)
    compute_told T r done = by (refused T (first_refusal s1 edit) s1 s2 edit r refl done)
      where
        by : (r ≡ OutOfMemory) ⊎ FailsToRead s1 edit r ⊎ (first_refusal s1 edit ≡ Some r) → IsRefusedFor s (each.Compute f source steps) ps (retold ps r)
        by (inl want) = inl (ap (retold ps) want)
        by (inr (inl read)) = inr (inl (retold_read s.on_disk r (subst (λ (u : State). IsReadRefusal u.on_disk r) front read.1), subst (λ (k : ℕ). 0 < k) compute_looks read.0))
        by (inr (inr is)) =
            inr (inr (sym (compute-refused s ps up some f source steps has) ∙ ap (λ (u : State). option_map (retold ps) (first_refusal u edit)) (sym front) ∙ ap (option_map (retold ps)) is))
