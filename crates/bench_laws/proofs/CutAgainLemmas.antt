-- An edit that is not refused leaves a file that is cut.
use Rattle.std.proofs.Common.{◌≡◌, Option, Some, None, refl, sym, ◌∙◌}
use Rattle.std.specs.Prelude.{nat_abs, map}
use Rattle.field_map.specs.declared.place.Place.{Place}
use Rattle.frame_cut.specs.Cuts.{IsCut}
use Rattle.frame_cut.specs.Volume.{Volume}
use Rattle.frame_cut.specs.Traces.{trace_at, with_trace}
use Rattle.bench_rules.specs.declared.edit.Edit.TheVariants.{Set, SetBin, Declare, DropTail, SetText, Map, MapAs, Unmap, Patch, Blank, Copy, Delete, Move, MoveBlock, Resize, Renumber, Compute, Sort, OfChosen}
use Rattle.bench_rules.proofs.ChosenLemmas.{chosen_cut}
use Rattle.bench_laws.specs.EditLaws.{StaysCut}
use Rattle.bench_rules.specs.Places.{place_in_trace, place_in_binary}
use Rattle.bench_rules.specs.Refused.{with_value}
use Rattle.bench_rules.specs.After.{bytes_after}
use Rattle.frame_cut.specs.Parts.{untailed, with_inserted, without, with_moved}
use Rattle.bench_rules.specs.BlockMoves.{block_order, first_moved, last_moved}
use Rattle.bench_rules.specs.WholeTraces.{blank_trace}
use Rattle.bench_rules.proofs.AcceptedLemmas.{patch_accepted}
use Rattle.bench_rules.proofs.PatchLemmas.{with_samples}
use Rattle.bench_rules.proofs.TraceStepLemmas.{patch_is_after, blank_done, copy_done, delete_done, move_done}
use Rattle.bench_rules.proofs.ManyValueLemmas.{with_traces}
use Rattle.bench_rules.proofs.ResizeLemmas.{resize_done}
use Rattle.bench_rules.proofs.SetLemmas.{accepted, is_after}
use Rattle.bench_rules.proofs.HeaderEditLemmas.{same_refused, same_after, no_place, bin_accepted, with_binary, bin_is_after, text_accepted, with_text, text_is_after, no_bin_place}
use Rattle.declared_frame.specs.Written.{with_declared}
use Rattle.bench_rules.proofs.DeclareLemmas.{declare_is_after, drop_tail_is_after}
use Rattle.bench_rules.specs.Sorted.{in_order, with_order}
use Rattle.bench_rules.proofs.ComputeLemmas.{compute_accepted}
use Rattle.bench_rules.proofs.SortedLemmas.{sort_accepted, sort_done}
use Rattle.bench_rules.proofs.BlockMoveLemmas.{block_accepted, block_done}
use Rattle.bench_laws.proofs.RenumberingLemmas.{unplaced, counted_traces, cut_counted, computed_traces, cut_computed}
use Rattle.bench_laws.proofs.ResizeLemmas.{with_resized}

pub stays_cut : StaysCut
stays_cut s (Set p f x) cut none = by (place_in_trace s.fields f) refl
  where
    by : (o : Option Place) → place_in_trace s.fields f ≡ o → (v : Volume) × IsCut (bytes_after s (Set p f x)) s.reading s.limits v × (v.head ≡ s.volume.head)
    by None e = absurd (no_place s p f x e none)
    by (Some place) e =
        let v : Volume = with_trace s.volume p (with_value s.volume.head (trace_at s.volume p) place x) in
        let a = is_after s p place x cut (accepted s p place x (sym (same_refused s p f place x e) ∙ none)) in
        (v, (same_after s p f place x (record s { volume = v }) e a).volume, refl)
stays_cut s (SetBin f x) cut none = by (place_in_binary f) refl
  where
    by : (o : Option Place) → place_in_binary f ≡ o → (v : Volume) × IsCut (bytes_after s (SetBin f x)) s.reading s.limits v × (v.head ≡ s.volume.head)
    by None e = absurd (no_bin_place s f x e none)
    by (Some place) e =
        let v : Volume = with_binary s.volume place x in
        (v, (bin_is_after s f place x e cut (bin_accepted s f place x e none)).volume, refl)
stays_cut s Declare cut none = (with_declared s.reading s.volume, (declare_is_after s cut).volume, refl)
stays_cut s DropTail cut none = (untailed s.volume, (drop_tail_is_after s cut).volume, refl)
stays_cut s (SetText q text) cut none = (with_text s.volume q text, (text_is_after s q text cut (text_accepted s q text none)).volume, refl)
stays_cut s (Map name field) cut none = (s.volume, cut, refl)
stays_cut s (MapAs mapping) cut none = (s.volume, cut, refl)
stays_cut s (Unmap name) cut none = (s.volume, cut, refl)
stays_cut s (Patch p k values) cut none =
    let a = patch_accepted s p k values none in
    let w : Volume = with_trace s.volume p (with_samples s.volume.head a.format (trace_at s.volume p) k values) in
    (w, (patch_is_after s a.format p k values a.reads cut none).volume, refl)
stays_cut s (Blank p) cut none = (with_inserted s.volume p (blank_trace s.volume.head), (blank_done s p _ _ cut none refl refl).volume, refl)
stays_cut s (Copy q p) cut none = (with_inserted s.volume p (trace_at s.volume q), (copy_done s q p _ _ cut none refl refl).volume, refl)
stays_cut s (Delete p) cut none = (without s.volume p, (delete_done s p _ cut none refl).volume, refl)
stays_cut s (Move a b) cut none = (with_moved s.volume a b, (move_done s a b _ cut none refl).volume, refl)
stays_cut s (MoveBlock a b to) cut none =
    let w : Volume = with_order s.volume (first_moved a to) (last_moved a b to) (block_order a b to) in
    (w, (block_done s a b to w cut (block_accepted s.volume a b to none) refl).volume, refl)
stays_cut s (Resize p m) cut none =
    let w : Volume = with_resized s.volume p (nat_abs m) in
    (w, (resize_done s p m w _ cut none refl refl).volume, refl)
stays_cut s (Renumber a b f first step) cut none = by (place_in_trace s.fields f) refl
  where
    by : (o : Option Place) → place_in_trace s.fields f ≡ o → (v : Volume) × IsCut (bytes_after s (Renumber a b f first step)) s.reading s.limits v × (v.head ≡ s.volume.head)
    by None e = absurd (unplaced s a b f first step e none)
    by (Some place) e = ((with_traces s (counted_traces s a b place first step)).volume, (cut_counted s a b f first step place cut e none).volume, refl)
stays_cut s (Compute a b f source steps) cut none =
    let c = compute_accepted s a b f source steps none in
    ((with_traces s (computed_traces s a b c.formula)).volume, (cut_computed s a b f source steps cut c).volume, refl)
stays_cut s (Sort a b fs falls) cut none =
    let c = sort_accepted s a b fs falls none in
    let w : Volume = with_order s.volume a b (map (λ row. row.0) (in_order falls c.rows)) in
    (w, (sort_done s a b fs falls w cut c refl).volume, refl)
stays_cut s (OfChosen c edit) cut none = chosen_cut s c edit cut none
