-- The record of a trace that is looked at.
use Rattle.std.proofs.Common.{◌≡◌, ℕ, ◌+◌, ◌-◌, ◌≤◌, ◌^◌, Bool, true, false, List, length, refl, subst, sym, ap, ap₂, ◌∙◌, arith}
use Rattle.std.specs.Prelude.{nat_lt, if◌then◌else◌, Result, Ok, Err, IfOk}
use Rattle.field_map.specs.Maps.{NameMap}
use Rattle.field_map.specs.Binding.{HasGeometry}
use Rattle.frame_cut.specs.declared.file_head.Head.{Head}
use Rattle.frame_cut.specs.Frames.{sample_count}
use Rattle.frame_cut.specs.Traces.{trace_at}
use Rattle.frame_cut.specs.Volume.{Volume}
use Rattle.trace_view.specs.declared.view.TraceView.{TraceView}
use Rattle.trace_view.specs.Shown.{head_of, bytes_of}
use Rattle.trace_record.specs.OfTrace.{has_geometry}
use Rattle.trace_record.proofs.GeometryLemmas.{geometry_of_each_trace}
use Rattle.edit_overlay.specs.CountedVolume.{CountedVolume, one_more, RisesAtMost, after_look, IsSeen, IsViewOf, HasShapeOf}
use Rattle.edit_overlay.specs.Reads.{Follow}
use Rattle.volume_records.proofs.FewLemmas.{samples_within}

-- what holds of a value holds of what follows from it
pub if_ok : {T E : Type 0} {P Q : T → Type 0} (r : Result T E) → ((v : T) → P v → Q v) → IfOk r P → IfOk r Q
if_ok (Ok v) f p = f v p
if_ok (Err e) f p = tt

-- a map for the view's file gives its trace a geometry
pub geometry_in_view : (view : TraceView) (m : NameMap) → HasGeometry m.extensions m.pairs → m.extensions ≡ (head_of view).extensions → has_geometry (head_of view) m.pairs (bytes_of view) ≡ true
geometry_in_view view m has same =
    geometry_of_each_trace (head_of view) m.pairs (bytes_of view) (subst (λ n. HasGeometry n m.pairs) same has) view.whole

-- a map for the volume is one for the file of a view of its traces
pub same_extensions : (v : Volume) (p n : ℕ) (view : TraceView) → n ≡ v.head.extensions → HasShapeOf v p view → n ≡ (head_of view).extensions
same_extensions v p n view same shown = same ∙ sym (ap (λ (h : Head). h.extensions) shown.0)

-- what is made of the head and the bytes of a view is made of those of the trace that it shows
pub of_view : {T : Type 0} (f : Head → List ℕ → T) (v : Volume) (p : ℕ) (view : TraceView) → IsViewOf v p view → f (head_of view) (bytes_of view) ≡ f v.head (trace_at v p)
of_view f v p view shown = ap₂ f shown.0 shown.1

-- a view has no more samples than its trace has bytes
pub few_in_view : (v : Volume) (p n : ℕ) (view : TraceView) → n ≡ sample_count (head_of view) (bytes_of view) → HasShapeOf v p view → n ≤ length (trace_at v p)
few_in_view v p n view is shape =
    let within : sample_count (head_of view) (bytes_of view) ≤ length (bytes_of view) = samples_within (head_of view) (bytes_of view) view.whole in
    let long : length (bytes_of view) ≡ length (trace_at v p) = shape.1 in
    omega (arith, is, within, long)

-- ---- how often traces were looked at

-- a count of looks after one more
rises_by_one : (n : ℕ) → RisesAtMost n (one_more n) 1
rises_by_one n = by (nat_lt n (2 ^ 64 - 1))
  where
    by : (b : Bool) → RisesAtMost n (if b then n + 1 else n) 1
    by true = (omega arith, omega arith)
    by false = (omega arith, omega arith)

-- and after another
pub rises_more : (old now last n : ℕ) → RisesAtMost old now n → last ≡ one_more now → RisesAtMost old last (n + 1)
rises_more old now last n rose is =
    let one = rises_by_one now in
    let rise : RisesAtMost old (one_more now) (n + 1) = (omega (arith, rose, one), omega (arith, rose, one)) in
    subst (λ (k : ℕ). RisesAtMost old k (n + 1)) (sym is) rise

module _ {T : Type 0} where
  -- an overlay is as it was
  pub seen_none : (o : CountedVolume T) → IsSeen o o 0
  seen_none o = record { volume = refl; prepared = refl; payloads = refl; payloads_prepared = refl; loaded = refl; looks = (omega arith, omega arith); reads = record { agreed = λ sure. sure; failures = omega arith } }

  -- after one look more
  pub seen_more : (old now last : CountedVolume T) (n : ℕ) → IsSeen old now n → last ≡ after_look now last.reads → Follow now.reads last.reads → IsSeen old last (n + 1)
  seen_more old now last n seen look fell =
      record {
        volume = ap (λ (o : CountedVolume T). o.volume) look ∙ seen.volume;
        prepared = ap (λ (o : CountedVolume T). o.prepared) look ∙ seen.prepared;
        payloads = ap (λ (o : CountedVolume T). o.payloads) look ∙ seen.payloads;
        payloads_prepared = ap (λ (o : CountedVolume T). o.payloads_prepared) look ∙ seen.payloads_prepared;
        loaded = ap (λ (o : CountedVolume T). o.loaded) look ∙ seen.loaded;
        looks = rises_more old.looks now.looks last.looks n seen.looks (ap (λ (o : CountedVolume T). o.looks) look);
        reads = record { agreed = λ sure. seen.reads.agreed (fell.agreed sure); failures = omega (arith, seen.reads.failures, fell.failures) };
      }

  -- after some looks and then some more
  pub seen_both : (old now last : CountedVolume T) (n m : ℕ) → IsSeen old now n → IsSeen now last m → IsSeen old last (n + m)
  seen_both old now last n m seen more =
      let rose = seen.looks in
      let again = more.looks in
      record {
        volume = more.volume ∙ seen.volume;
        prepared = more.prepared ∙ seen.prepared;
        payloads = more.payloads ∙ seen.payloads;
        payloads_prepared = more.payloads_prepared ∙ seen.payloads_prepared;
        loaded = more.loaded ∙ seen.loaded;
        looks = (omega (arith, rose, again), omega (arith, rose, again));
        reads = record { agreed = λ sure. seen.reads.agreed (more.reads.agreed sure); failures = omega (arith, seen.reads.failures, more.reads.failures) };
      }

  -- after at most so many
  pub seen_at_most : (old now : CountedVolume T) (n m : ℕ) → IsSeen old now n → n ≤ m → IsSeen old now m
  seen_at_most old now n m seen less =
      let rose = seen.looks in
      record {
        volume = seen.volume;
        prepared = seen.prepared;
        payloads = seen.payloads;
        payloads_prepared = seen.payloads_prepared;
        loaded = seen.loaded;
        looks = (rose.0, omega (arith, rose.1, less));
        reads = seen.reads;
      }
