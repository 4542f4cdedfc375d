-- A store over a file that is being read: more bytes behind those that were there change no trace.
use Rattle.std.proofs.Common.{◌≡◌, ℕ, zero, suc, ◌+◌, ◌<◌, ◌≤◌, List, [], ◌∷◌, ◌++◌, length, take, drop, map, refl, sym, ap, ◌∙◌, subst, arith, Option, Some, None, All, inl, inr}
use Rattle.std.specs.Prelude.{IsSomeAnd}
use Rattle.std.specs.Option.{option_map_or}
use Rattle.std.proofs.lemmas.Bool.{cases_eq}
use Rattle.std.proofs.lemmas.List.{length-take, take-append-drop}
use Rattle.slab.specs.Slab.{Slab, get}
use Rattle.base_file.specs.HeldBytes.{HeldBytes, after_pass, HasGrown, IsOnDisk, IsSure}
use Rattle.base_file.proofs.HeldLemmas.{sure_in_pass}
use Rattle.frame_cut.specs.declared.file_head.Head.{Head}
use Rattle.frame_cut.specs.Cuts.{IsTrace}
use Rattle.frame_cut.proofs.BlockLemmas.{slice-append}
use Rattle.trace_seq.specs.Order.{times}
use Rattle.trace_seq.proofs.TimeLemmas.{times-other, times-self}
use Rattle.trace_view.specs.declared.run.Run.{Run}
use Rattle.trace_view.specs.Runs.{Fit, bytes_with_runs}
use Rattle.trace_view.proofs.WrittenLemmas.{length-written}
use Rattle.trace_store.specs.declared.base.Base.{Base}
use Rattle.trace_store.specs.declared.base.Base.TheVariants.{Loaded, Added}
use Rattle.trace_store.specs.declared.slot.Slot.{Slot}
use Rattle.trace_store.specs.declared.store.TraceStore.{TraceStore}
use Rattle.trace_store.specs.Grown.{HasMore}
use Rattle.trace_store.specs.Slots.{base_of, base_under, bytes_in, bytes_under, HasRoomFor, IsInside, IsSlot, IsStore}
use Rattle.trace_store.proofs.SlotLemmas.{base-length}

-- ---- bytes

-- there are no fewer than there were
pub no_fewer : (old new : List ℕ) → take (length old) new ≡ old → length old ≤ length new
no_fewer old new begins = omega (arith, ap length begins, length-take (length old) new)

-- those between two places are the same
pub slice_grown : (old new : List ℕ) (start n : ℕ) → take (length old) new ≡ old → start + n ≤ length old → take n (drop start new) ≡ take n (drop start old)
slice_grown old new start n begins inside =
    let seam : new ≡ old ++ drop (length old) new = sym (take-append-drop (length old) new) ∙ ap (λ (s : List ℕ). s ++ drop (length old) new) begins in
    ap (λ (s : List ℕ). take n (drop start s)) seam ∙ slice-append start n old (drop (length old) new) inside

-- ---- slots

inside_grown : (old new : List ℕ) (base : Base) → take (length old) new ≡ old → IsInside old base → IsInside new base
inside_grown old new (Loaded extent) begins inside = omega (arith, inside, no_fewer old new begins)
inside_grown old new (Added bytes) begins inside = tt

base_grown : (old new : List ℕ) (base : Base) → take (length old) new ≡ old → IsInside old base → base_of new base ≡ base_of old base
base_grown old new (Loaded extent) begins inside = slice_grown old new extent.start extent.length begins inside
base_grown old new (Added bytes) begins inside = refl

room_grown : (old new : HeldBytes) (base : Base) → HasGrown old new → HasRoomFor old base → HasRoomFor new base
room_grown old new (Loaded extent) grown room = λ disk. omega (arith, grown.most, room (subst IsOnDisk grown.standing disk))
room_grown old new (Added bytes) grown room = tt

-- there is room for what lies under a trace that there is room for
room_settled : (new : HeldBytes) (loaded : List ℕ) (base : Base) (runs : List Run) → IsInside loaded base → Fit runs (length (base_of loaded base))
    → (IsOnDisk new.standing → length (bytes_with_runs (base_of loaded base) runs) ≤ new.most) → HasRoomFor new base
room_settled new loaded (Loaded extent) runs inside fit short =
    λ disk. omega (arith, short disk, length-written (base_of loaded (Loaded extent)) runs fit, base-length loaded (Loaded extent) inside)
room_settled new loaded (Added bytes) runs inside fit short = tt

module _ {T : Type 0} where
  slot_grown : (old new : HeldBytes) (h : Head) (slot : Slot T) → HasGrown old new → IsSlot old h slot → IsSlot new h slot
  slot_grown old new h slot grown sound =
      let same : base_of new.bytes slot.layers.base ≡ base_of old.bytes slot.layers.base = base_grown old.bytes new.bytes slot.layers.base grown.begins sound.inside in
      record {
        inside = inside_grown old.bytes new.bytes slot.layers.base grown.begins sound.inside;
        room = room_grown old new slot.layers.base grown sound.room;
        fit = subst (λ (b : List ℕ). Fit slot.layers.runs (length b)) (sym same) sound.fit;
        whole = λ sure. subst (λ (b : List ℕ). IsTrace h (bytes_with_runs b slot.layers.runs)) (sym same) (sound.whole (subst IsSure grown.standing sure));
      }

  one_grown : (old new : HeldBytes) (h : Head) (o : Option (Slot T)) → HasGrown old new → IsSomeAnd o (IsSlot old h) → IsSomeAnd o (IsSlot new h)
  one_grown old new h None grown held = held
  one_grown old new h (Some slot) grown held = slot_grown old new h slot grown held

  pub store_grown : (old new : HeldBytes) (h : Head) (ids : List ℕ) (slots : Slab (Slot T)) → HasGrown old new → IsStore old h ids slots → IsStore new h ids slots
  store_grown old new h ids slots grown sound = record {
    held = λ id some. one_grown old new h (get slots id) grown (sound.held id some);
    distinct = sound.distinct;
    no_more = sound.no_more;
    few = sound.few;
  }

  -- ---- traces

  bytes_grown : (old new : HeldBytes) (h : Head) (o : Option (Slot T)) → HasGrown old new → IsSomeAnd o (IsSlot old h) → option_map_or (bytes_in new.bytes) o [] ≡ option_map_or (bytes_in old.bytes) o []
  bytes_grown old new h None grown held = refl
  bytes_grown old new h (Some slot) grown held = ap (λ (b : List ℕ). bytes_with_runs b slot.layers.runs) (base_grown old.bytes new.bytes slot.layers.base grown.begins held.inside)

  bases_grown : (old new : HeldBytes) (h : Head) (o : Option (Slot T)) → HasGrown old new → IsSomeAnd o (IsSlot old h)
      → option_map_or (λ (slot : Slot T). base_of new.bytes slot.layers.base) o [] ≡ option_map_or (λ (slot : Slot T). base_of old.bytes slot.layers.base) o []
  bases_grown old new h None grown held = refl
  bases_grown old new h (Some slot) grown held = base_grown old.bytes new.bytes slot.layers.base grown.begins held.inside

module _ {X : Type 0} where
  -- what stands under the ids of a list is the same, where it is under each of them
  map_held : (f g : ℕ → X) (ids : List ℕ) → ((id : ℕ) → 0 < times id ids → f id ≡ g id) → map f ids ≡ map g ids
  map_held f g [] same = refl
  map_held f g (x ∷ xs) same =
      let here : f x ≡ g x = same x (times-self x xs) in
      let rest : map f xs ≡ map g xs = map_held f g xs (λ id some. same id (omega (arith, some))) in
      cc

  -- what holds of each thing under the ids of a list holds of that under one of them
  each_held : (P : X → Type 0) (f : ℕ → X) (ids : List ℕ) → All P (map f ids) → (id : ℕ) → 0 < times id ids → P (f id)
  each_held P f [] each id some = absurd (omega (arith, some))
  each_held P f (x ∷ xs) each id some = elim (cases_eq x id) [
    | inl e ↦ subst (λ (k : ℕ). P (f k)) e (each zero (f x) (omega arith))
    | inr ne ↦ each_held P f xs (λ k d short. each (suc k) d (omega (arith, short))) id (omega (arith, some, times-other id x ne))
  ]

module _ {T : Type 0} where
  -- a store over more bytes has the same traces
  pub has_more : (s t : TraceStore T) → t.head ≡ s.head → t.order ≡ s.order → t.slots ≡ s.slots → HasGrown s.loaded t.loaded → HasMore s t
  has_more s t head order slots grown = record {
    head = head;
    loaded = grown;
    bases = rw (order, slots) (map_held (base_under t.loaded.bytes s.slots) (base_under s.loaded.bytes s.slots) s.order.ids
        (λ id some. bases_grown s.loaded t.loaded s.head (get s.slots id) grown (s.sound.held id some)));
    traces = rw (order, slots) (map_held (bytes_under t.loaded.bytes s.slots) (bytes_under s.loaded.bytes s.slots) s.order.ids
        (λ id some. bytes_grown s.loaded t.loaded s.head (get s.slots id) grown (s.sound.held id some)));
    payloads = rw (order, slots) refl;
  }

  settled : (old new : HeldBytes) (h : Head) (o : Option (Slot T)) → new.bytes ≡ old.bytes → new.standing ≡ after_pass old.standing → (IsOnDisk new.standing → length (option_map_or (bytes_in old.bytes) o []) ≤ new.most)
      → IsSomeAnd o (IsSlot old h) → IsSomeAnd o (IsSlot new h)
  settled old new h None bytes standing short held = held
  settled old new h (Some slot) bytes standing short held = record {
    inside = subst (λ (b : List ℕ). IsInside b slot.layers.base) (sym bytes) held.inside;
    room = room_settled new old.bytes slot.layers.base slot.layers.runs held.inside held.fit short;
    fit = subst (λ (b : List ℕ). Fit slot.layers.runs (length (base_of b slot.layers.base))) (sym bytes) held.fit;
    whole = λ sure. subst (λ (b : List ℕ). IsTrace h (bytes_in b slot)) (sym bytes) (held.whole (sure_in_pass old.standing (subst IsSure standing sure)));
  }

  -- a store over the same bytes, whose pass has ended, is sound where there is room for each trace
  pub store_settled : (old new : HeldBytes) (h : Head) (ids : List ℕ) (slots : Slab (Slot T)) → new.bytes ≡ old.bytes → new.standing ≡ after_pass old.standing
      → (IsOnDisk new.standing → All (λ t. length t ≤ new.most) (map (bytes_under old.bytes slots) ids)) → IsStore old h ids slots → IsStore new h ids slots
  store_settled old new h ids slots bytes standing short sound = record {
    held = λ id some. settled old new h (get slots id) bytes standing
        (λ disk. each_held (λ t. length t ≤ new.most) (bytes_under old.bytes slots) ids (short disk) id some) (sound.held id some);
    distinct = sound.distinct;
    no_more = sound.no_more;
    few = sound.few;
  }
