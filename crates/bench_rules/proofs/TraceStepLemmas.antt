-- Edits of samples and of whole traces that are done.
use Rattle.std.proofs.Common.{◌≡◌, ℕ, ℤ, ◌+◌, ◌*◌, ◌^◌, ◌≤◌, true, List, length, Option, Some, None, refl, sym, ap, subst, ◌∙◌, arith}
use Rattle.std.proofs.Math.Nat.{mul-le-mul_right}
use Rattle.std.proofs.lemmas.Bool.{leb-true, le-leb}
use Rattle.sample_codes.specs.declared.value_format.ValueFormat.{ValueFormat}
use Rattle.sample_codes.specs.Formats.{width, values as read_as, samples_bytes}
use Rattle.sample_codes.proofs.WidthLemmas.{width-positive}
use Rattle.frame_cut.specs.declared.file_head.Head.{Head}
use Rattle.frame_cut.specs.Cuts.{IsTrace, IsCut}
use Rattle.frame_cut.specs.Frames.{trace_length, sample_count}
use Rattle.frame_cut.proofs.EditLemmas.{length-splice}
use Rattle.frame_cut.specs.Splice.{splice}
use Rattle.frame_cut.proofs.HeadFrontLemmas.{has_head}
use Rattle.frame_cut.specs.Traces.{count_of, is_trace, trace_at, with_trace}
use Rattle.frame_cut.specs.Volume.{Volume, bytes_of}
use Rattle.trace_view.specs.Values.{samples_at}
use Rattle.bench_rules.specs.declared.edit.Edit.{Edit}
use Rattle.bench_rules.specs.declared.edit.Edit.TheVariants.{Patch, Blank, Copy, Delete, Move}
use Rattle.bench_rules.specs.After.{bytes_after, fields_after}
use Rattle.bench_rules.specs.Refused.{first_refusal}
use Rattle.bench_rules.specs.State.{State}
use Rattle.bench_rules.specs.Steps.{IsAfter}
use Rattle.frame_cut.specs.Parts.{with_inserted, without, with_moved}
use Rattle.bench_rules.specs.WholeTraces.{blank_trace}
use Rattle.bench_rules.proofs.AcceptedLemmas.{patch_accepted, blank_accepted, copy_accepted, there_is, move_accepted}
use Rattle.bench_rules.proofs.PatchLemmas.{with_samples, samples_inside, cut_patched, length-values, measured}
use Rattle.bench_rules.proofs.PlaceLemmas.{length_same}
use Rattle.bench_rules.proofs.SetLemmas.{both, whole_trace}
use Rattle.bench_rules.proofs.WholeTraceLemmas.{cut_inserted, cut_deleted, cut_moved, blank_is_trace, length-without}

-- an edit is done where the volume is the cut of the bytes after it, and the edit leaves the field map
done : (s : State) (edit : Edit) (v w : Volume) → IsCut (bytes_after s edit) s.reading s.limits v → fields_after s.fields edit ≡ s.fields → w ≡ v → IsAfter s edit (record s { volume = w })
done s edit v w cut same is =
    record {
      volume = subst (λ (u : Volume). IsCut (bytes_after s edit) s.reading s.limits u) (sym is) cut;
      fields = sym same;
      reading = refl;
      limits = refl;
      on_disk = refl;
    }

pub blank_done : (s : State) (p : ℕ) (w : Volume) (t : List ℕ) → IsCut (bytes_of s.volume) s.reading s.limits s.volume → first_refusal s (Blank p) ≡ None → t ≡ blank_trace s.volume.head → w ≡ with_inserted s.volume p t
    → IsAfter s (Blank p) (record s { volume = w })
blank_done s p w t cut none e is =
    let v : Volume = s.volume in
    let a = blank_accepted s p none in
    done s (Blank p) (with_inserted v p (blank_trace v.head)) w (cut_inserted s.reading s.limits v p (blank_trace v.head) cut (blank_is_trace v.head) a.few a.small) refl
    (is ∙ ap (λ (u : List ℕ). with_inserted v p u) e)

pub copy_done : (s : State) (q p : ℕ) (w : Volume) (t : List ℕ) → IsCut (bytes_of s.volume) s.reading s.limits s.volume → first_refusal s (Copy q p) ≡ None → t ≡ trace_at s.volume q → w ≡ with_inserted s.volume p t
    → IsAfter s (Copy q p) (record s { volume = w })
copy_done s q p w t cut none e is =
    let v : Volume = s.volume in
    let a = copy_accepted s q p none in
    let whole = whole_trace s q cut a.source.first a.source.last in
    done s (Copy q p) (with_inserted v p (trace_at v q)) w (cut_inserted s.reading s.limits v p (trace_at v q) cut whole a.room.few a.room.small) refl
    (is ∙ ap (λ (u : List ℕ). with_inserted v p u) e)

pub delete_done : (s : State) (p : ℕ) (w : Volume) → IsCut (bytes_of s.volume) s.reading s.limits s.volume → first_refusal s (Delete p) ≡ None → w ≡ without s.volume p → IsAfter s (Delete p) (record s { volume = w })
delete_done s p w cut none is =
    let a = there_is s.volume p none in
    done s (Delete p) (without s.volume p) w (cut_deleted s.reading s.limits s.volume p cut a.first a.last) refl is

pub move_done : (s : State) (a b : ℕ) (w : Volume) → IsCut (bytes_of s.volume) s.reading s.limits s.volume → first_refusal s (Move a b) ≡ None → w ≡ with_moved s.volume a b → IsAfter s (Move a b) (record s { volume = w })
move_done s a b w cut none is =
    let m = move_accepted s a b none in
    done s (Move a b) (with_moved s.volume a b) w (cut_moved s.reading s.limits s.volume a b cut m.source.first m.source.last) refl is

pub patch_is_after : (s : State) (f : ValueFormat) (p k : ℕ) (values : List ℤ) → read_as s.volume.head.format ≡ Some f → IsCut (bytes_of s.volume) s.reading s.limits s.volume → first_refusal s (Patch p k values) ≡ None
    → IsAfter s (Patch p k values) (record s { volume = with_trace s.volume p (with_samples s.volume.head f (trace_at s.volume p) k values) })
patch_is_after s f p k values reads cut none =
    let v : Volume = s.volume in
    let a = patch_accepted s p k values none in
    let w : Volume = with_trace v p (with_samples v.head f (trace_at v p) k values) in
    done s (Patch p k values) w w (cut_patched s.reading s.limits v f p k values reads cut a.place.first a.place.last a.inside) refl refl

-- the values' bytes at their place in the trace
pub patch_done : (s : State) (f : ValueFormat) (p k : ℕ) (values : List ℤ) (w : Volume) (at : ℕ) (new : List ℕ) → read_as s.volume.head.format ≡ Some f → IsCut (bytes_of s.volume) s.reading s.limits s.volume → first_refusal s (Patch p k values) ≡ None
    → at ≡ samples_at s.volume.head (trace_at s.volume p) + width s.volume.head.format * k → new ≡ samples_bytes s.volume.head.order f values
    → w ≡ with_trace s.volume p (splice (trace_at s.volume p) at (length new) new) → IsAfter s (Patch p k values) (record s { volume = w })
patch_done s f p k values w at new reads cut none e g is =
    let v : Volume = s.volume in
    let size : length new ≡ width v.head.format * length values = ap (λ (u : List ℕ). length u) g ∙ length-values v.head f values reads in
    let same : w ≡ with_trace v p (with_samples v.head f (trace_at v p) k values) = is ∙ rw (size, e, g) refl in
    subst (λ (u : Volume). IsAfter s (Patch p k values) (record s { volume = u })) (sym same) (patch_is_after s f p k values reads cut none)

-- they lie inside the trace, and leave it a whole trace
pub record IsPatch (h : Head) (t : List ℕ) (at : ℕ) (new : List ℕ) : Type 0 where
  pub inside : at + length new ≤ length t
  pub whole : IsTrace h (splice t at (length new) new)

pub patch_fits : (s : State) (f : ValueFormat) (p k : ℕ) (values : List ℤ) (at : ℕ) (new : List ℕ) → read_as s.volume.head.format ≡ Some f → IsCut (bytes_of s.volume) s.reading s.limits s.volume → first_refusal s (Patch p k values) ≡ None
    → at ≡ samples_at s.volume.head (trace_at s.volume p) + width s.volume.head.format * k → new ≡ samples_bytes s.volume.head.order f values
    → IsPatch s.volume.head (trace_at s.volume p) at new
patch_fits s f p k values at new reads cut none e g =
    let h : Head = s.volume.head in
    let t : List ℕ = trace_at s.volume p in
    let a = patch_accepted s p k values none in
    let is : IsTrace h t = whole_trace s p cut a.place.first a.place.last in
    let size : length new ≡ width h.format * length values = ap (λ (u : List ℕ). length u) g ∙ length-values h f values reads in
    let inside : at + length new ≤ length t = omega (arith, size, e, samples_inside h t k values is a.inside) in
    let exact : trace_length h (splice t at (length new) new) ≡ Some (length t) = length_same h t at new is inside (omega (arith, e, (measured h t is).front)) in
    let len : length (splice t at (length new) new) ≡ length t = length-splice t at new inside in
    record {
      inside = inside;
      whole = record { whole = omega (arith, len, is.whole); exact = exact ∙ ap (λ (n : ℕ). let o : Option ℕ = Some n in o) (sym len) };
    }

-- the place of a sample in the trace that was looked at
pub sample_place : (v : Volume) (h : Head) (t : List ℕ) (p k at : ℕ) → h ≡ v.head → t ≡ trace_at v p → at ≡ samples_at h t + width h.format * k → at ≡ samples_at v.head (trace_at v p) + width v.head.format * k
sample_place v h t p k at head e is = is ∙ rw (head, e) refl

-- a trace is no longer than the file
is_there : (v : Volume) (p : ℕ) → 1 ≤ p → p ≤ count_of v → is_trace v p ≡ true
is_there v p first last = rw (le-leb 1 p first, le-leb p (count_of v) last) refl

pub length-trace : (s : State) (p : ℕ) → IsCut (bytes_of s.volume) s.reading s.limits s.volume → is_trace s.volume p ≡ true → length (trace_at s.volume p) ≤ 2 ^ 40
length-trace s p cut there =
    let v : Volume = s.volume in
    let range = both _ _ there in
    let whole = length-without v p (leb-true 1 p range.0) (leb-true p (count_of v) range.1) in
    omega (arith, whole, (has_head (bytes_of v) s.reading s.limits v.head cut.parts.head).small, s.limits.small)

-- and has no more samples than bytes
pub few_values : (s : State) (p k : ℕ) (values : List ℤ) → IsCut (bytes_of s.volume) s.reading s.limits s.volume → first_refusal s (Patch p k values) ≡ None → length values ≤ 2 ^ 40
few_values s p k values cut none =
    let h : Head = s.volume.head in
    let t : List ℕ = trace_at s.volume p in
    let a = patch_accepted s p k values none in
    let m = measured h t (whole_trace s p cut a.place.first a.place.last) in
    let there = length-trace s p cut (is_there s.volume p a.place.first a.place.last) in
    let n : ℕ = sample_count h t in
    let least : 1 * n ≤ width h.format * n = mul-le-mul_right n (width-positive h.format) in
    omega (arith, a.inside, m.whole, there, least)
