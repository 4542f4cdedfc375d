-- A store whose loaded bytes have been read again: they stand as before, or have fallen.
use Rattle.std.proofs.Common.{◌≡◌, ℕ, List, length, refl, sym, ap, ◌∙◌, subst, arith, Option, Some, None}
use Rattle.std.specs.Prelude.{IsSomeAnd, IfErr, Result, Ok, Err}
use Rattle.slab.specs.Slab.{Slab, get}
use Rattle.base_file.specs.HeldBytes.{HeldBytes, IsStill}
use Rattle.base_file.specs.declared.read_fault.ReadFault.{ReadFault}
use Rattle.base_file.specs.declared.read_fault.ReadFault.TheVariants.{ReadFailed, Changed, TooLarge}
use Rattle.base_file.proofs.HeldLemmas.{on_disk_before, sure_before, IsStill-refl, IsStill-trans}
use Rattle.frame_cut.specs.declared.file_head.Head.{Head}
use Rattle.frame_cut.specs.Cuts.{IsTrace}
use Rattle.trace_seq.specs.Order.{ChunkOrder}
use Rattle.trace_view.specs.Runs.{Fit}
use Rattle.trace_store.specs.declared.prepared.Prepared.{Prepared}
use Rattle.trace_store.specs.declared.slot.Slot.{Slot}
use Rattle.trace_store.specs.declared.store.TraceStore.{TraceStore}
use Rattle.trace_store.specs.Ahead.{IsReady}
use Rattle.trace_store.specs.declared.base.Base.{Base}
use Rattle.trace_store.specs.declared.base.Base.TheVariants.{Loaded, Added}
use Rattle.trace_store.specs.Faults.{IsFaultOf}
use Rattle.trace_store.specs.Reread.{IsReread}
use Rattle.trace_store.specs.Slots.{base_of, bytes_in, AreHeld, HasRoomFor, IsHeldUnder, IsInside, IsSlot, IsStore}
use Rattle.trace_store.proofs.AheadLemmas.{IsSame, ready_kept}

-- why a trace was not read, where it has changed in one sense if it has in another
pub fault_so : {T This That : Type 0} (result : Result T ReadFault) (before now : HeldBytes) → (This → That) → IfErr result (IsFaultOf This before now) → IfErr result (IsFaultOf That before now)
fault_so (Ok x) before now so fault = tt
fault_so (Err ReadFailed) before now so fault = fault
fault_so (Err TooLarge) before now so fault = fault
fault_so (Err Changed) before now so fault = so fault

-- there is room as before
room_falls : (old new : HeldBytes) (base : Base) → IsStill old new → HasRoomFor old base → HasRoomFor new base
room_falls old new (Loaded extent) still room = λ disk. omega (arith, still.most, room (on_disk_before old.standing new.standing still.standing disk))
room_falls old new (Added bytes) still room = tt

module _ {T : Type 0} where
  -- a slot lies over them as before
  pub slot_falls : (old new : HeldBytes) (h : Head) (slot : Slot T) → IsStill old new → IsSlot old h slot → IsSlot new h slot
  slot_falls old new h slot still sound = record {
    inside = subst (λ (bytes : List ℕ). IsInside bytes slot.layers.base) (sym still.bytes) sound.inside;
    room = room_falls old new slot.layers.base still sound.room;
    fit = subst (λ (bytes : List ℕ). Fit slot.layers.runs (length (base_of bytes slot.layers.base))) (sym still.bytes) sound.fit;
    whole = λ sure. subst (λ (bytes : List ℕ). IsTrace h (bytes_in bytes slot)) (sym still.bytes) (sound.whole (sure_before old.standing new.standing still.standing sure));
  }

  one_falls : (old new : HeldBytes) (h : Head) (o : Option (Slot T)) → IsStill old new → IsSomeAnd o (IsSlot old h) → IsSomeAnd o (IsSlot new h)
  one_falls old new h None still held = held
  one_falls old new h (Some slot) still held = slot_falls old new h slot still held

  pub held_under_falls : (old new : HeldBytes) (h : Head) (slots : Slab (Slot T)) (id : ℕ) → IsStill old new → IsHeldUnder old h slots id → IsHeldUnder new h slots id
  held_under_falls old new h slots id still held = one_falls old new h (get slots id) still held

  pub held_falls : (old new : HeldBytes) (h : Head) (ids : List ℕ) (slots : Slab (Slot T)) → IsStill old new → AreHeld old h ids slots → AreHeld new h ids slots
  held_falls old new h ids slots still held id some = held_under_falls old new h slots id still (held id some)

  pub store_falls : (old new : HeldBytes) (h : Head) (ids : List ℕ) (slots : Slab (Slot T)) → IsStill old new → IsStore old h ids slots → IsStore new h ids slots
  store_falls old new h ids slots still sound = record {
    held = held_falls old new h ids slots still sound.held;
    distinct = sound.distinct;
    no_more = sound.no_more;
    few = sound.few;
  }

  -- a store whose loaded bytes have been read again has the same traces
  pub reread : (s t : TraceStore T) → t.head ≡ s.head → t.order ≡ s.order → t.slots ≡ s.slots → IsStill s.loaded t.loaded → IsReread s t
  reread s t head order slots still = record {
    head = head;
    order = order;
    slots = slots;
    loaded = still;
    bases = rw (order, slots, still.bytes) refl;
    traces = rw (order, slots, still.bytes) refl;
    payloads = rw (order, slots) refl;
  }

  pub IsReread-refl : (s : TraceStore T) → IsReread s s
  IsReread-refl s = reread s s refl refl refl (IsStill-refl s.loaded)

  pub IsReread-trans : (s t u : TraceStore T) → IsReread s t → IsReread t u → IsReread s u
  IsReread-trans s t u first second = record {
    head = second.head ∙ first.head;
    order = second.order ∙ first.order;
    slots = second.slots ∙ first.slots;
    loaded = IsStill-trans s.loaded t.loaded u.loaded first.loaded second.loaded;
    bases = second.bases ∙ first.bases;
    traces = second.traces ∙ first.traces;
    payloads = second.payloads ∙ first.payloads;
  }

  pub same_fetched : (s t : TraceStore T) → IsReread s t → IsSame s t
  same_fetched s t again = record {
    head = again.head;
    standing = again.loaded.standing;
    bases = again.bases;
    traces = again.traces;
    payloads = again.payloads;
    room = omega (arith, ap (λ (o : ChunkOrder). o.spare) again.order);
  }

  -- and what was ready for it is ready still
  pub ready_falls : (s t : TraceStore T) (prepared : Prepared) → IsReread s t → IsReady s prepared → IsReady t prepared
  ready_falls s t prepared again ready = ready_kept s t (Some prepared) (same_fetched s t again) ready
