-- The slices whose numbers are kept after an edit are as they were.
use Rattle.std.proofs.Common.{◌≡◌, ℕ, ◌-◌, Bool, true, false, List, length, Option, Some, None, refl, sym, ap, ◌∙◌}
use Rattle.std.specs.Prelude.{bytes_eq, codes}
use Rattle.std.proofs.lemmas.Slice.Eq.{bytes_eq-Decides}
use Rattle.field_map.specs.declared.map_fault.MapFault.TheVariants as faults
use Rattle.field_map.specs.declared.place.Place.{Place}
use Rattle.field_map.specs.Binding.{is_geometry, unbind_fault}
use Rattle.field_map.specs.Pairs.{Pairs, place_of, bound, unbound}
use Rattle.field_map.proofs.GeometryLemmas.{place-bound, place-removed}
use Rattle.frame_cut.specs.declared.file_head.Head.{Head}
use Rattle.frame_cut.specs.Cuts.{IsTrace}
use Rattle.frame_cut.specs.Traces.{trace_at, with_trace}
use Rattle.frame_cut.specs.Parts.{untailed}
use Rattle.frame_cut.specs.Volume.{Volume}
use Rattle.bench_rules.specs.KeptSlices.{is_from}
use Rattle.bench_rules.specs.Slices.{slice_of}
use Rattle.bench_rules.specs.declared.edit.Edit.TheVariants.{Set, SetBin, Declare, DropTail, SetText, Map, MapAs, Unmap, Patch, Blank, Copy, Delete, Move, MoveBlock, Resize, Renumber, Compute, Sort, OfChosen}
use Rattle.bench_laws.specs.KeptLaws.{KeptSlicesStay}
use Rattle.bench_rules.specs.Places.{place_in_binary, place_in_trace}
use Rattle.bench_rules.specs.Reports.{slice_in}
use Rattle.bench_rules.specs.State.{State}
use Rattle.bench_rules.proofs.AcceptedLemmas.{unless_so, patch_accepted}
use Rattle.bench_rules.proofs.HeaderEditLemmas.{no_bin_place, no_map_place, no_fault, with_binary, bin_accepted, bin_is_after, with_text, text_accepted, text_is_after}
use Rattle.declared_frame.specs.Written.{with_declared}
use Rattle.bench_rules.proofs.DeclareLemmas.{declare_is_after, drop_tail_is_after}
use Rattle.bench_rules.proofs.PatchLemmas.{with_samples}
use Rattle.bench_rules.proofs.SetLemmas.{whole_trace}
use Rattle.bench_laws.proofs.SliceRowLemmas.{slice_of-set, slice_of-bound, front_of-patched, sample_of-patched, bound_value-front}
use Rattle.bench_rules.proofs.TraceStepLemmas.{patch_is_after}
pub use Rattle.bench_laws.proofs.KeptSetLemmas.{Has}
use Rattle.bench_laws.proofs.KeptSetLemmas.{kept_unless, none_kept, kept_apart, one_volume, slice_after, set_stays}
use Rattle.bench_laws.proofs.KeptNumberLemmas.{renumber_stays, compute_stays}

-- ---- names of the field map

-- a name that is no geometry name is neither the inline nor the crossline
no_geometry : (name q : List ℕ) → is_geometry q ≡ true → is_geometry name ≡ false → bytes_eq q name ≡ false
no_geometry name q g none = by (bytes_eq q name) refl
  where
    by : (b : Bool) → bytes_eq q name ≡ b → bytes_eq q name ≡ false
    by true e = let same : true ≡ false = sym g ∙ ap is_geometry ((bytes_eq-Decides q name).0 e) ∙ none in absurd cc
    by false e = e

slice_renamed : (old new : State) (k : ℕ) (fields : Pairs) → new.volume ≡ old.volume → new.fields ≡ fields
    → ((q : List ℕ) → is_geometry q ≡ true → place_of fields q ≡ place_of old.fields q) → slice_in new k ≡ slice_in old k
slice_renamed old new k fields e f same =
    ap (λ (v : Volume). slice_of v.head new.fields k v.traces) e
    ∙ ap (λ (pairs : Pairs). slice_of old.volume.head pairs k old.volume.traces) f
    ∙ slice_of-bound old.volume.head fields old.fields k old.volume.traces (same (codes "inline") refl) (same (codes "crossline") refl)

-- ---- each edit

pub kept_slices_stay : KeptSlicesStay
kept_slices_stay old new (Set p f x) kept k cut has none after any = set_stays old new p f x kept k cut none after any
kept_slices_stay old new (SetBin f x) kept k cut has none after any = by (place_in_binary f) refl
  where
    by : (o : Option Place) → place_in_binary f ≡ o → slice_in new k ≡ slice_in old k
    by None e = absurd (no_bin_place old f x e none)
    by (Some place) e =
        let w : Volume = with_binary old.volume place x in
        slice_after old new k w (one_volume old new (SetBin f x) w after (bin_is_after old f place x e cut (bin_accepted old f place x e none)).volume) after.fields
kept_slices_stay old new Declare kept k cut has none after any =
    let w : Volume = with_declared old.reading old.volume in
    slice_after old new k w (one_volume old new Declare w after (declare_is_after old cut).volume) after.fields
kept_slices_stay old new DropTail kept k cut has none after any =
    let w : Volume = untailed old.volume in
    slice_after old new k w (one_volume old new DropTail w after (drop_tail_is_after old cut).volume) after.fields
kept_slices_stay old new (SetText q text) kept k cut has none after any =
    let w : Volume = with_text old.volume q text in
    slice_after old new k w (one_volume old new (SetText q text) w after (text_is_after old q text cut (text_accepted old q text none)).volume) after.fields
kept_slices_stay old new (Map name f) kept k cut has none after any = by (place_in_trace old.fields f) refl
  where
    free : is_geometry name ≡ false
    free = kept_unless (is_geometry name) kept k any

    by : (o : Option Place) → place_in_trace old.fields f ≡ o → slice_in new k ≡ slice_in old k
    by None e = absurd (no_map_place old name f e none)
    by (Some place) e =
        slice_renamed old new k (bound old.fields name place) (one_volume old new (Map name f) old.volume after cut) (rw e at after.fields)
        (λ q g. place-bound old.fields name place q (no_geometry name q g free))
kept_slices_stay old new (MapAs mapping) kept k cut has none after any = absurd (none_kept k any)
kept_slices_stay old new (Unmap name) kept k cut has none after any =
    let free = unless_so (is_geometry name) faults.Geometry _ (no_fault (unbind_fault old.fields name) _ none) in
    slice_renamed old new k (unbound old.fields name) (one_volume old new (Unmap name) old.volume after cut) after.fields
    (λ q g. place-removed old.fields name q (no_geometry name q g free.0))
kept_slices_stay old new (Patch p first values) kept k cut has none after any =
    let h : Head = old.volume.head in
    let t : List ℕ = trace_at old.volume p in
    let a = patch_accepted old p first values none in
    let u : List ℕ = with_samples h a.format t first values in
    let w : Volume = with_trace old.volume p u in
    let is : IsTrace h t = whole_trace old p cut a.place.first a.place.last in
    let apart = kept_apart (λ j. is_from first (length values) j) kept k any in
    let front = front_of-patched h a.format t first values is a.inside in
    slice_after old new k w (one_volume old new (Patch p first values) w after (patch_is_after old a.format p first values a.reads cut none).volume) after.fields
    ∙ slice_of-set h old.fields k old.volume.traces (p - 1) u (record {
      inline = bound_value-front h old.fields t u (codes "inline") refl has front;
      crossline = bound_value-front h old.fields t u (codes "crossline") refl has front;
      sample = sample_of-patched h a.format t first values k a.reads is a.inside apart;
    })
kept_slices_stay old new (Blank p) kept k cut has none after any = absurd (none_kept k any)
kept_slices_stay old new (Copy q p) kept k cut has none after any = absurd (none_kept k any)
kept_slices_stay old new (Delete p) kept k cut has none after any = absurd (none_kept k any)
kept_slices_stay old new (Move a b) kept k cut has none after any = absurd (none_kept k any)
kept_slices_stay old new (MoveBlock a b to) kept k cut has none after any = absurd (none_kept k any)
kept_slices_stay old new (Resize p m) kept k cut has none after any = absurd (none_kept k any)
kept_slices_stay old new (Renumber a b f first step) kept k cut has none after any = renumber_stays old new a b f first step kept k cut none after any
kept_slices_stay old new (Compute a b f source steps) kept k cut has none after any = compute_stays old new a b f source steps kept k cut none after any
kept_slices_stay old new (Sort a b fs falls) kept k cut has none after any = absurd (none_kept k any)
kept_slices_stay old new (OfChosen c edit) kept k cut has none after any = absurd (none_kept k any)
