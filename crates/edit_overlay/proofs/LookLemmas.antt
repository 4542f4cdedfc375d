-- What an overlay is after a look, and what the view shows.
use Rattle.std.proofs.Common.{◌≡◌, ℕ, ◌-◌, List, [], length, ap, ◌∙◌, subst, IsTrue, Option, Some, None, Result, Err}
use Rattle.std.specs.Prelude.{slice_index_or, IsOk}
use Rattle.base_file.specs.HeldBytes.{IsInMemory, IsSure}
use Rattle.base_file.specs.declared.read_fault.ReadFault.{ReadFault}
use Rattle.frame_cut.specs.Volume.{Volume}
use Rattle.trace_view.specs.declared.view.TraceView.{TraceView}
use Rattle.trace_view.specs.Shown.{head_of, bytes_of}
use Rattle.trace_store.specs.declared.prepared.Prepared.{Prepared}
use Rattle.trace_store.specs.declared.store.TraceStore.{TraceStore}
use Rattle.trace_store.specs.Ahead.{traces_ahead}
use Rattle.trace_store.specs.Faults.{IsFaultOf}
use Rattle.trace_store.specs.Reread.{IsReread}
use Rattle.trace_store.specs.Stores.{traces_of}
use Rattle.trace_store.proofs.AheadLemmas.{ahead_kept}
use Rattle.edit_overlay.specs.CountedVolume.{CountedVolume, after_look, with_reads, HasShapeOf}
use Rattle.edit_overlay.specs.Held.{looked_of, CanLend, HasChangedAhead}
use Rattle.edit_overlay.specs.Looks.{HasMissed, HasShown}
use Rattle.edit_overlay.specs.Reads.{Follow, IsFaultOfLook}
use Rattle.edit_overlay.specs.Standings.{reads_in}
use Rattle.edit_overlay.specs.declared.laid.Laid.{Laid}
use Rattle.edit_overlay.specs.declared.overlay.Overlay.TheInside.{Inside}
use Rattle.edit_overlay.proofs.HeldLemmas.{same_reread, shown_relaid}
use Rattle.edit_overlay.proofs.StandingLemmas.{fault_told, on_disk_else, reads_follow, refused_in_memory, sure_is}

-- a trace that has changed was not read as it was loaded
pub unsure_ahead : {T : Type 0} (s : TraceStore T) (p : ℕ) (prepared : Option Prepared) → HasChangedAhead s p prepared → ¬ IsSure s.loaded.standing
unsure_ahead s p None changed = changed.unsure
unsure_ahead s p (Some prepared) changed = changed.unsure

-- the look was counted, and then the loaded bytes were read
module _ {T : Type 0} (o : CountedVolume T) (i : Inside T) (l : Laid T) (reread : IsReread i.laid.store l.store) (kept : l.prepared ≡ i.laid.prepared) (counted : looked_of i ≡ after_look o o.reads) where
  -- nothing else is changed
  looked_so : looked_of (record i { laid = l }) ≡ after_look o (reads_in l.store.loaded)
  looked_so = shown_relaid i l reread kept ∙ ap (λ (x : CountedVolume T). with_reads x (reads_in l.store.loaded)) counted

  -- and the reads go on
  reads_on : Follow o.reads (reads_in l.store.loaded)
  reads_on = subst (λ (x : CountedVolume T). Follow x.reads (reads_in l.store.loaded)) counted (reads_follow i.laid.store.loaded l.store.loaded reread.loaded)

  -- where the look was refused
  pub has_missed : {HasChanged : Type 0} (fault : ReadFault) → CanLend i.laid.store.loaded → (HasChanged → ¬ IsSure l.store.loaded.standing) → IsFaultOf HasChanged i.laid.store.loaded l.store.loaded fault → HasMissed o (looked_of (record i { laid = l })) fault
  has_missed fault lends changed told = record {
    looked = looked_so;
    reads = reads_on;
    fault = subst (λ (x : CountedVolume T). IsFaultOfLook x.reads (reads_in l.store.loaded) fault) counted (fault_told i.laid.store.loaded l.store.loaded fault lends changed told);
  }

  -- the head and the traces are those of the volume
  pub head_looked : l.store.head ≡ o.volume.head
  head_looked = reread.head ∙ ap (λ (x : CountedVolume T). x.volume.head) counted

  pub traces_looked : traces_of l.store ≡ o.volume.traces
  traces_looked = (same_reread i l.store reread).traces ∙ ap (λ (x : CountedVolume T). x.volume.traces) counted

  pub head_ahead : l.store.head ≡ o.prepared.head
  head_ahead = reread.head ∙ ap (λ (x : CountedVolume T). x.prepared.head) counted

  pub traces_looked_ahead : traces_ahead l.store l.prepared ≡ o.prepared.traces
  traces_looked_ahead =
      ap (λ (p : Option Prepared). traces_ahead l.store p) kept ∙ ahead_kept i.laid.store l.store i.laid.prepared (same_reread i l.store reread) ∙ ap (λ (x : CountedVolume T). x.prepared.traces) counted

  -- the view shows trace p of these
  pub has_shown : (of : Volume) (ts : List (List ℕ)) (p : ℕ) (view : TraceView) → l.store.head ≡ of.head → ts ≡ of.traces → head_of view ≡ l.store.head → (IsSure l.store.loaded.standing → bytes_of view ≡ slice_index_or ts (p - 1) [])
      → HasShown o (looked_of (record i { laid = l })) of p view
  has_shown of ts p view same traces head bytes = record {
    looked = looked_so;
    reads = reads_on;
    trace = λ sure. (head ∙ same, bytes (sure_is l.store.loaded.standing sure) ∙ ap (λ (xs : List (List ℕ)). slice_index_or xs (p - 1) []) traces);
  }

  pub has_shape : (of : Volume) (ts : List (List ℕ)) (p : ℕ) (view : TraceView) → l.store.head ≡ of.head → ts ≡ of.traces → head_of view ≡ l.store.head → length (bytes_of view) ≡ length (slice_index_or ts (p - 1) []) → HasShapeOf of p view
  has_shape of ts p view same traces head size = (head ∙ same, size ∙ ap (λ (xs : List (List ℕ)). length (slice_index_or xs (p - 1) [])) traces)

  -- a read that failed was one on disk
  pub failed_on_disk : {A E : Type 0} (r : Result A E) (fault : E) → r ≡ Err fault → (IsInMemory i.laid.store.loaded.standing → IsOk r) → IsTrue o.loaded.on_disk
  failed_on_disk r fault is memory =
      subst (λ (x : CountedVolume T). IsTrue x.loaded.on_disk) counted (on_disk_else i.laid.store.loaded.standing (λ inside. refused_in_memory r fault is (memory inside)))
