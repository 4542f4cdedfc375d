-- The slices whose numbers are kept after a value in a trace header are as they were.
use Rattle.std.proofs.Common.{◌≡◌, ℕ, ℤ, ◌+◌, ◌*◌, ◌-◌, ◌≤◌, Bool, true, false, cond, eqb, List, [], ◌∷◌, length, Option, Some, None, refl, sym, ap, ◌∙◌, arith}
use Rattle.std.specs.Prelude.{codes, filter, not}
use Rattle.std.specs.List.{list_any}
use Rattle.std.proofs.lemmas.Bool.{eqb-true}
use Rattle.std.proofs.lemmas.Bool.Decides.{Decides-int_eq}
use Rattle.num_order.specs.Number.{bytes}
use Rattle.num_order.proofs.InRangeLemmas.{length-number}
use Rattle.field_map.specs.declared.place.Place.{Place}
use Rattle.field_map.specs.Pairs.{Pairs}
use Rattle.frame_cut.specs.declared.file_head.Head.{Head}
use Rattle.frame_cut.specs.Cuts.{IsTrace, IsCut}
use Rattle.frame_cut.specs.Frames.{trace_length}
use Rattle.frame_cut.specs.Splice.{splice}
use Rattle.frame_cut.specs.Traces.{trace_at, with_trace}
use Rattle.frame_cut.specs.Volume.{Volume, bytes_of}
use Rattle.frame_cut.proofs.OneCutLemmas.{at_most_one_cut}
use Rattle.trace_view.specs.Values.{samples_at, sample_of}
use Rattle.trace_record.specs.OfTrace.{bound_value}
use Rattle.bench_rules.specs.Slices.{slice_of}
use Rattle.bench_rules.specs.declared.edit.Edit.{Edit}
use Rattle.bench_rules.specs.declared.edit.Edit.TheVariants.{Set}
use Rattle.bench_rules.specs.declared.field.Field.{Field}
use Rattle.bench_rules.specs.After.{bytes_after}
use Rattle.bench_rules.specs.Kept.{same_cell, kept_after_edit}
use Rattle.bench_rules.specs.Places.{place_in_trace}
use Rattle.bench_rules.specs.Refused.{first_refusal, with_value}
use Rattle.bench_rules.specs.Reports.{slice_in}
use Rattle.bench_rules.specs.State.{State}
use Rattle.bench_rules.specs.Steps.{IsAfter}
use Rattle.bench_rules.proofs.HeaderEditLemmas.{no_place}
use Rattle.bench_rules.proofs.PlaceLemmas.{stands, sized, at_most_8}
use Rattle.bench_laws.proofs.ReadsSetLemmas.{made}
use Rattle.bench_rules.proofs.SetLemmas.{Accepted, both, whole_trace}
use Rattle.bench_laws.proofs.SliceRowLemmas.{SameRow, slice_of-set, sample_of-header}

-- ---- a number that is kept

abbrev pub Has : ℕ → List ℕ → Type 0
Has k kept = list_any (λ j. eqb j k) kept ≡ true

pub kept_if : (b : Bool) (kept : List ℕ) (k : ℕ) → Has k (cond b kept []) → b ≡ true
kept_if true kept k e = refl
kept_if false kept k e = absurd cc

pub kept_unless : (b : Bool) (kept : List ℕ) (k : ℕ) → Has k (cond b [] kept) → b ≡ false
kept_unless true kept k e = absurd cc
kept_unless false kept k e = refl

pub none_kept : (k : ℕ) → Has k [] → ⊥
none_kept k e = absurd cc

-- a number that passed a filter
pub kept_apart : (p : ℕ → Bool) (kept : List ℕ) (k : ℕ) → Has k (filter (λ j. not (p j)) kept) → p k ≡ false
kept_apart p [] k e = absurd cc
kept_apart p (j ∷ kept) k e = by (p j) refl (eqb j k) refl (λ rest. kept_apart p kept k rest)
  where
    by : (b : Bool) → p j ≡ b → (d : Bool) → eqb j k ≡ d → (Has k (filter (λ i. not (p i)) kept) → p k ≡ false) → p k ≡ false
    by true f d g rest = rest (rw f at e)
    by false f true g rest = ap p (sym (eqb-true j k g)) ∙ f
    by false f false g rest = rest (rw (f, g) at e)

-- ---- the volume that an edit makes

pub one_volume : (old new : State) (edit : Edit) (w : Volume) → IsAfter old edit new → IsCut (bytes_after old edit) old.reading old.limits w → new.volume ≡ w
one_volume old new edit w after cut = at_most_one_cut (bytes_after old edit) old.reading old.limits new.volume w after.volume cut

-- its slice, where the field map stays
pub slice_after : (old new : State) (k : ℕ) (w : Volume) → new.volume ≡ w → new.fields ≡ old.fields → slice_in new k ≡ slice_of w.head old.fields k w.traces
slice_after old new k w e f = ap (λ (v : Volume). slice_of v.head new.fields k v.traces) e ∙ ap (λ (fields : Pairs). slice_of w.head fields k w.traces) f

-- ---- a value in a trace header

set_row : (s : State) (p : ℕ) (place : Place) (x : ℤ) (k : ℕ) → IsCut (bytes_of s.volume) s.reading s.limits s.volume → Accepted s.volume p place x
    → same_cell s.volume.head s.fields (trace_at s.volume p) (with_value s.volume.head (trace_at s.volume p) place x) ≡ true
    → SameRow s.volume.head s.fields s.fields k (trace_at s.volume p) (with_value s.volume.head (trace_at s.volume p) place x)
set_row s p place x k cut a cell =
    let h : Head = s.volume.head in
    let t : List ℕ = trace_at s.volume p in
    let u : List ℕ = with_value h t place x in
    let new : List ℕ = bytes h.order place.kind x in
    let at : ℕ = 240 * place.extension + place.byte - 1 in
    let size : length new ≡ place.kind.size = length-number h.order place.kind x in
    let same : u ≡ splice t at (length new) new = ap (λ (n : ℕ). splice t at n new) (sym size) in
    let is : IsTrace h t = whole_trace s p cut a.first a.last in
    let there = stands h t place a.has in
    let few : length new ≤ 8 = omega (arith, size, at_most_8 place.kind.size (sized place.kind.size there.size)) in
    let front : at + length new ≤ samples_at h t = omega (arith, size, there.first, there.last, there.header) in
    let exact : trace_length h (splice t at (length new) new) ≡ Some (length t) = sym (ap (trace_length h) same) ∙ a.length in
    let values = both _ _ cell in
    record {
      inline = sym ((Decides-int_eq (bound_value h s.fields t (codes "inline")) (bound_value h s.fields u (codes "inline"))).0 values.0);
      crossline = sym ((Decides-int_eq (bound_value h s.fields t (codes "crossline")) (bound_value h s.fields u (codes "crossline"))).0 values.1);
      sample = ap (λ (y : List ℕ). sample_of h y k) same ∙ sample_of-header h t new at k is few front exact;
    }

-- ---- each set

pub set_stays : (old new : State) (p : ℕ) (f : Field) (x : ℤ) (kept : List ℕ) (k : ℕ) → IsCut (bytes_of old.volume) old.reading old.limits old.volume → first_refusal old (Set p f x) ≡ None → IsAfter old (Set p f x) new
    → Has k (kept_after_edit old (Set p f x) kept) → slice_in new k ≡ slice_in old k
set_stays old new p f x kept k cut none after any = by (place_in_trace old.fields f) refl
  where
    by : (o : Option Place) → place_in_trace old.fields f ≡ o → slice_in new k ≡ slice_in old k
    by None e = absurd (no_place old p f x e none)
    by (Some place) e =
        let h : Head = old.volume.head in
        let u : List ℕ = with_value h (trace_at old.volume p) place x in
        let m = made old p f place x new.volume e cut none after.volume in
        let cell = kept_if (same_cell h old.fields (trace_at old.volume p) u) kept k (rw e at any) in
        slice_after old new k (with_trace old.volume p u) m.same after.fields
        ∙ slice_of-set h old.fields k old.volume.traces (p - 1) u (set_row old p place x k cut m.accepted cell)
