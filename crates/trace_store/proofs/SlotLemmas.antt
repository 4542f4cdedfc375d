-- Traces in slots: what a change of one slot, or of the order, does to them.
use Rattle.std.proofs.Common.{◌≡◌, ◌≢◌, ℕ, zero, suc, ◌+◌, ◌-◌, ◌<◌, ◌≤◌, List, [], ◌∷◌, length, drop, map, get_or, refl, sym, ap, ◌∙◌, subst, arith, cond, is_some, Option, Some, None, Result, Ok, Err, OnErr, inl, inr}
use Rattle.std.specs.Prelude.{IsSome, slice_index, slice_index_or, slice_set, IsSomeAnd}
use Rattle.std.specs.Option.{option_map_or}
use Rattle.std.specs.List.{insert, remove}
use Rattle.std.proofs.lemmas.Bool.{cases_eq}
use Rattle.std.proofs.lemmas.List.{get_or-set_same, get_or-set_other, length-take, length-drop}
use Rattle.std.proofs.lemmas.List.Sums.{sum_by-set}
use Rattle.std.proofs.lemmas.List.Edits.{length-insert, length-remove}
use Rattle.std.proofs.lemmas.Option.{slice_get_within, get_or_from_slice_get}
use Rattle.base_file.specs.HeldBytes.{HeldBytes, IsSure}
use Rattle.slab.specs.Slab.{Slab, get, slab_len, with_value, ContainsKey, Updates, SameValues}
use Rattle.frame_cut.specs.declared.file_head.Head.{Head}
use Rattle.frame_cut.specs.Cuts.{IsTrace}
use Rattle.trace_seq.specs.Order.{times, id_at, with_id_moved, AreDistinct}
use Rattle.trace_seq.proofs.TimeLemmas.{times-insert, times-other, times-remove, absent-remove}
use Rattle.trace_view.specs.Runs.{Fit, bytes_with_runs}
use Rattle.trace_store.specs.declared.base.Base.{Base}
use Rattle.trace_store.specs.declared.base.Base.TheVariants.{Loaded, Added}
use Rattle.trace_store.specs.declared.slot.Slot.{Slot}
use Rattle.trace_store.specs.Layers.{Layered}
use Rattle.trace_store.specs.Slots.{base_of, base_under, bytes_in, bytes_under, AreHeld, HasRoomFor, IsHeldUnder, IsInside, IsSlot, size_of}
use Rattle.trace_store.proofs.OrderLemmas.{place-of, held-at_place, map-alike, map-others, map-changed, map-insert, map-remove, map-at}

-- ---- a slot

-- how long the bytes under the runs are
pub base-length : (loaded : List ℕ) (base : Base) → IsInside loaded base → length (base_of loaded base) ≡ size_of base
base-length loaded (Loaded extent) inside = omega (arith, length-take extent.length (drop extent.start loaded), length-drop extent.start loaded)
base-length loaded (Added bytes) inside = refl

-- a slot of this base without runs
module _ {T : Type 0} where
  pub record IsFreshSlot (file : HeldBytes) (h : Head) (slot : Slot T) (base : Base) : Type 0 where
    pub sound : IsSlot file h slot
    pub shows : bytes_in file.bytes slot ≡ base_of file.bytes base

module _ {T : Type 0} where
  pub fresh-slot : (file : HeldBytes) (h : Head) (slot : Slot T) (base : Base) → slot.layers ≡ record { base = base; runs = [] } → IsInside file.bytes base → HasRoomFor file base → IsTrace h (base_of file.bytes base) → IsFreshSlot file h slot base
  fresh-slot file h slot base e inside room whole =
      let shown : bytes_in file.bytes slot ≡ base_of file.bytes base = ap (λ (l : Layered). bytes_with_runs (base_of file.bytes l.base) l.runs) e in
      let empty : Fit [] (length (base_of file.bytes base)) = omega arith in
      record {
        sound = record {
          inside = subst (λ (l : Layered). IsInside file.bytes l.base) (sym e) inside;
          room = subst (λ (l : Layered). HasRoomFor file l.base) (sym e) room;
          fit = subst (λ (l : Layered). Fit l.runs (length (base_of file.bytes l.base))) (sym e) empty;
          whole = λ _. subst (λ (t : List ℕ). IsTrace h t) (sym shown) whole;
        };
        shows = shown;
      }

-- ---- the slot under an id

-- the slot that was found under an id is whole
module _ {T : Type 0} where
  pub held-slot : (file : HeldBytes) (h : Head) (slots : Slab (Slot T)) (id : ℕ) (slot : Slot T) → IsHeldUnder file h slots id → get slots id ≡ Some slot → IsSlot file h slot
  held-slot file h slots id slot held found = subst (λ (o : Option (Slot T)). IsSomeAnd o (IsSlot file h)) found held

module _ {T : Type 0} where
  pub held-missed : (file : HeldBytes) (h : Head) (slots : Slab (Slot T)) (id : ℕ) → IsHeldUnder file h slots id → get slots id ≡ None → ⊥
  held-missed file h slots id held none = subst (λ (o : Option (Slot T)). IsSomeAnd o (IsSlot file h)) none held

-- and has the trace's bytes
module _ {T : Type 0} where
  pub bytes-there : (loaded : List ℕ) (slots : Slab (Slot T)) (id : ℕ) (slot : Slot T) → get slots id ≡ Some slot → bytes_under loaded slots id ≡ bytes_in loaded slot
  bytes-there loaded slots id slot found = ap (λ (o : Option (Slot T)). option_map_or (bytes_in loaded) o []) found

-- the id at a position has a slot
module _ {T : Type 0} where
  pub slot-at : (file : HeldBytes) (h : Head) (ids : List ℕ) (slots : Slab (Slot T)) (p id : ℕ) → AreHeld file h ids slots → id_at ids p ≡ Some id → IsHeldUnder file h slots id
  slot-at file h ids slots p id held at = held id (held-at_place ids id (p - 1) (place-of ids id p at))

-- the slot that was found under it is whole
module _ {T : Type 0} where
  pub slot-found : (file : HeldBytes) (h : Head) (ids : List ℕ) (slots : Slab (Slot T)) (p id : ℕ) (slot : Slot T) → AreHeld file h ids slots → id_at ids p ≡ Some id → get slots id ≡ Some slot → IsSlot file h slot
  slot-found file h ids slots p id slot held at found = held-slot file h slots id slot (slot-at file h ids slots p id held at) found

module _ {T : Type 0} where
  pub slot-missed : (file : HeldBytes) (h : Head) (ids : List ℕ) (slots : Slab (Slot T)) (p id : ℕ) → AreHeld file h ids slots → id_at ids p ≡ Some id → get slots id ≡ None → ⊥
  slot-missed file h ids slots p id held at none = held-missed file h slots id (slot-at file h ids slots p id held at) none

module _ {T : Type 0} where
  is-there : (file : HeldBytes) (h : Head) (o : Option (Slot T)) → IsSomeAnd o (IsSlot file h) → IsSome o
  is-there file h None held = absurd held
  is-there file h (Some slot) held = refl

module _ {T : Type 0} where
  pub contains-at : (file : HeldBytes) (h : Head) (ids : List ℕ) (slots : Slab (Slot T)) (p id : ℕ) → AreHeld file h ids slots → id_at ids p ≡ Some id → ContainsKey slots id
  contains-at file h ids slots p id held at = is-there file h (get slots id) (slot-at file h ids slots p id held at)

-- the trace at a position
module _ {T : Type 0} where
  pub trace-at : (loaded : List ℕ) (ids : List ℕ) (slots : Slab (Slot T)) (p id : ℕ) (slot : Slot T) → id_at ids p ≡ Some id → get slots id ≡ Some slot
      → slice_index_or (map (bytes_under loaded slots) ids) (p - 1) [] ≡ bytes_in loaded slot
  trace-at loaded ids slots p id slot at found =
      map-at (bytes_under loaded slots) ids (p - 1) id [] (place-of ids id p at)
      ∙ bytes-there loaded slots id slot found

-- ---- a slot is changed

-- a key with a slot is inside
module _ {T : Type 0} where
  key-within : (slots : List (Option (Slot T))) (key : ℕ) (slot : Slot T) → slice_index_or slots key None ≡ Some slot → key < length slots
  key-within [] key slot found = absurd (cc)
  key-within (x ∷ xs) zero slot found = omega arith
  key-within (x ∷ xs) (suc key) slot found = omega (arith, key-within xs key slot found)

-- a value in place of another leaves how many there are
module _ {T : Type 0} where
  pub write-counts : (slots : Slab (Slot T)) (key : ℕ) (old new : Slot T) (n : ℕ) → get slots key ≡ Some old → slab_len slots ≡ n → slab_len (with_value slots key new) ≡ n
  write-counts slots key old new n found count =
      let one : Option (Slot T) → ℕ = λ o. cond (is_some o) 1 0 in
      let was : one (get slots key) ≡ 1 = ap one found in
      omega (arith, count, was, sum_by-set one slots.slots key (Some new) None (key-within slots.slots key old found))

-- a write through the slot's reference
module _ {T : Type 0} where
  pub write-updates : (slots : Slab (Slot T)) (key : ℕ) (old new : Slot T) → get slots key ≡ Some old → Updates slots (with_value slots key new) key (Some new)
  write-updates slots key old new found = record {
    changed = get_or-set_same slots.slots key (Some new) None (key-within slots.slots key old found);
    others = λ other ne. get_or-set_other slots.slots key other (Some new) None ne;
  }

-- the others' bytes stay
module _ {T : Type 0} where
  others-stay : (loaded : List ℕ) (old new : Slab (Slot T)) (key : ℕ) (o : Option (Slot T)) → Updates old new key o → (k : ℕ) → k ≢ key → bytes_under loaded new k ≡ bytes_under loaded old k
  others-stay loaded old new key o up k ne = ap (λ (x : Option (Slot T)). option_map_or (bytes_in loaded) x []) (up.others k ne)

module _ {T : Type 0} where
  pub traces-changed : (loaded ids : List ℕ) (old new : Slab (Slot T)) (p id : ℕ) (slot : Slot T) → AreDistinct ids → id_at ids p ≡ Some id → Updates old new id (Some slot)
      → map (bytes_under loaded new) ids ≡ slice_set (map (bytes_under loaded old) ids) (p - 1) (bytes_in loaded slot)
  traces-changed loaded ids old new p id slot distinct at up =
      map-changed (bytes_under loaded new) (bytes_under loaded old) id ids (p - 1) (distinct id) (place-of ids id p at) (others-stay loaded old new id (Some slot) up)
      ∙ ap (λ (o : Option (Slot T)). slice_set (map (bytes_under loaded old) ids) (p - 1) (option_map_or (bytes_in loaded) o [])) up.changed

module _ {T : Type 0} where
  pub held-changed : (file : HeldBytes) (h : Head) (ids : List ℕ) (old new : Slab (Slot T)) (key : ℕ) (slot : Slot T) → AreHeld file h ids old → Updates old new key (Some slot) → IsSlot file h slot → AreHeld file h ids new
  held-changed file h ids old new key slot held up whole id some = elim (cases_eq id key) [
    | inl e ↦ subst (λ (o : Option (Slot T)). IsSomeAnd o (IsSlot file h)) (sym up.changed ∙ ap (get new) (sym e)) whole
    | inr ne ↦ subst (λ (o : Option (Slot T)). IsSomeAnd o (IsSlot file h)) (sym (up.others id ne)) (held id some)
  ]

-- the bytes under the runs of the trace at a position
module _ {T : Type 0} where
  pub base-at : (loaded : List ℕ) (ids : List ℕ) (slots : Slab (Slot T)) (p id : ℕ) (slot : Slot T) → id_at ids p ≡ Some id → get slots id ≡ Some slot
      → slice_index_or (map (base_under loaded slots) ids) (p - 1) [] ≡ base_of loaded slot.layers.base
  base-at loaded ids slots p id slot at found =
      map-at (base_under loaded slots) ids (p - 1) id [] (place-of ids id p at)
      ∙ ap (λ (o : Option (Slot T)). option_map_or (λ (x : Slot T). base_of loaded x.layers.base) o []) found

-- a slot with other runs over the same base
module _ {T : Type 0} where
  pub runs-slot : (file : HeldBytes) (h : Head) (old new : Slot T) (base : List ℕ) → new.layers.base ≡ old.layers.base → base ≡ base_of file.bytes old.layers.base → IsSlot file h old
      → Fit new.layers.runs (length base) → (IsSure file.standing → IsTrace h (bytes_with_runs base new.layers.runs)) → IsSlot file h new
  runs-slot file h old new base b is whole fit trace =
      let same : base ≡ base_of file.bytes new.layers.base = is ∙ ap (base_of file.bytes) (sym b) in
      record {
        inside = subst (λ (x : Base). IsInside file.bytes x) (sym b) whole.inside;
        room = subst (λ (x : Base). HasRoomFor file x) (sym b) whole.room;
        fit = subst (λ (xs : List ℕ). Fit new.layers.runs (length xs)) same fit;
        whole = λ sure. subst (λ (xs : List ℕ). IsTrace h (bytes_with_runs xs new.layers.runs)) same (trace sure);
      }

module _ {T : Type 0} where
  pub bases-kept : (loaded ids : List ℕ) (old new : Slab (Slot T)) (key : ℕ) (before after : Slot T) → get old key ≡ Some before → after.layers.base ≡ before.layers.base → Updates old new key (Some after)
      → map (base_under loaded new) ids ≡ map (base_under loaded old) ids
  bases-kept loaded ids old new key before after found b up =
      let base : Option (Slot T) → List ℕ = λ o. option_map_or (λ (x : Slot T). base_of loaded x.layers.base) o [] in
      let here : base_under loaded new key ≡ base_under loaded old key = ap base up.changed ∙ (ap (base_of loaded) b ∙ ap base (sym found)) in
      map-alike (base_under loaded new) (base_under loaded old) ids (λ k. elim (cases_eq k key) [
        | inl e ↦ ap (base_under loaded new) e ∙ (here ∙ ap (base_under loaded old) (sym e))
        | inr ne ↦ ap base (up.others k ne)
      ])

module _ {T : Type 0} where
  pub traces-kept : (loaded ids : List ℕ) (old new : Slab (Slot T)) (key : ℕ) (before after : Slot T) → get old key ≡ Some before → after.layers.base ≡ before.layers.base → after.layers.runs ≡ before.layers.runs → Updates old new key (Some after)
      → map (bytes_under loaded new) ids ≡ map (bytes_under loaded old) ids
  traces-kept loaded ids old new key before after found b r up =
      let bytes : Option (Slot T) → List ℕ = λ o. option_map_or (bytes_in loaded) o [] in
      let same : bytes_in loaded after ≡ bytes_in loaded before = rw (b, r) refl in
      let here : bytes_under loaded new key ≡ bytes_under loaded old key = ap bytes up.changed ∙ (same ∙ ap bytes (sym found)) in
      map-alike (bytes_under loaded new) (bytes_under loaded old) ids (λ k. elim (cases_eq k key) [
        | inl e ↦ ap (bytes_under loaded new) e ∙ (here ∙ ap (bytes_under loaded old) (sym e))
        | inr ne ↦ ap bytes (up.others k ne)
      ])

-- ---- an id comes

-- an id without a slot is not in the order
module _ {T : Type 0} where
  pub vacant-absent : (file : HeldBytes) (h : Head) (ids : List ℕ) (slots : Slab (Slot T)) (key : ℕ) → AreHeld file h ids slots → get slots key ≡ None → times key ids ≡ 0
  vacant-absent file h ids slots key held none =
      let missed : 0 < times key ids → ⊥ = λ some. subst (λ (o : Option (Slot T)). IsSomeAnd o (IsSlot file h)) none (held key some) in
      omega (arith, missed)

module _ {T : Type 0} where
  pub held-inserted : (file : HeldBytes) (h : Head) (ids : List ℕ) (old new : Slab (Slot T)) (i key : ℕ) (slot : Slot T) → AreHeld file h ids old → Updates old new key (Some slot) → IsSlot file h slot → AreHeld file h (insert ids i key) new
  held-inserted file h ids old new i key slot held up whole id some = elim (cases_eq id key) [
    | inl e ↦ subst (λ (o : Option (Slot T)). IsSomeAnd o (IsSlot file h)) (sym up.changed ∙ ap (get new) (sym e)) whole
    | inr ne ↦
        let back : key ≢ id = λ e. ne (sym e) in
        let more : 0 < times id ids = omega (arith, some, times-insert id ids i key, times-other id key back) in
        subst (λ (o : Option (Slot T)). IsSomeAnd o (IsSlot file h)) (sym (up.others id ne)) (held id more)
  ]

module _ {T : Type 0} where
  pub traces-inserted : (loaded ids : List ℕ) (old new : Slab (Slot T)) (i key : ℕ) (slot : Slot T) → times key ids ≡ 0 → Updates old new key (Some slot)
      → map (bytes_under loaded new) (insert ids i key) ≡ insert (map (bytes_under loaded old) ids) i (bytes_in loaded slot)
  traces-inserted loaded ids old new i key slot absent up =
      map-insert (bytes_under loaded new) ids i key
      ∙ (ap (λ (ts : List (List ℕ)). insert ts i (bytes_under loaded new key)) (map-others (bytes_under loaded new) (bytes_under loaded old) key ids absent (others-stay loaded old new key (Some slot) up))
      ∙ ap (λ (o : Option (Slot T)). insert (map (bytes_under loaded old) ids) i (option_map_or (bytes_in loaded) o [])) up.changed)

-- ---- an id goes

module _ {T : Type 0} where
  pub held-removed : (file : HeldBytes) (h : Head) (ids : List ℕ) (old new : Slab (Slot T)) (i key : ℕ) → AreHeld file h ids old → Updates old new key None → i < length ids → times key (remove ids i) ≡ 0 → AreHeld file h (remove ids i) new
  held-removed file h ids old new i key held up short absent id some = elim (cases_eq id key) [
    | inl e ↦ absurd (omega (arith, some, absent, ap (λ (x : ℕ). times x (remove ids i)) e))
    | inr ne ↦
        let more : 0 < times id ids = omega (arith, some, times-remove id ids i 0 short) in
        subst (λ (o : Option (Slot T)). IsSomeAnd o (IsSlot file h)) (sym (up.others id ne)) (held id more)
  ]

module _ {T : Type 0} where
  pub traces-removed : (loaded ids : List ℕ) (old new : Slab (Slot T)) (i key : ℕ) → times key (remove ids i) ≡ 0 → Updates old new key None
      → map (bytes_under loaded new) (remove ids i) ≡ remove (map (bytes_under loaded old) ids) i
  traces-removed loaded ids old new i key absent up =
      map-others (bytes_under loaded new) (bytes_under loaded old) key (remove ids i) absent (others-stay loaded old new key None up)
      ∙ map-remove (bytes_under loaded old) ids i

-- the id at a position is not left where it was taken out
pub absent-removed : (ids : List ℕ) (p id : ℕ) → AreDistinct ids → id_at ids p ≡ Some id → times id (remove ids (p - 1)) ≡ 0
absent-removed ids p id distinct at =
    let place = place-of ids id p at in
    let read : get_or ids (p - 1) 0 ≡ id = get_or_from_slice_get ids (p - 1) id 0 place in
    ap (λ (x : ℕ). times x (remove ids (p - 1))) (sym read) ∙ absent-remove ids (p - 1) 0 (slice_get_within ids (p - 1) id place) distinct

-- ---- an id moves

pub times-moved : (id : ℕ) (ids : List ℕ) (a b : ℕ) → a - 1 < length ids → times id (with_id_moved ids a b) ≡ times id ids
times-moved id ids a b short =
    omega (arith, times-insert id (remove ids (a - 1)) (b - 1) (slice_index ids (a - 1)), times-remove id ids (a - 1) 0 short)

pub length-moved : (ids : List ℕ) (a b : ℕ) → a - 1 < length ids → b - 1 < length ids → length (with_id_moved ids a b) ≡ length ids
length-moved ids a b short most =
    let less : length (remove ids (a - 1)) + 1 ≡ length ids = length-remove ids (a - 1) short in
    let inside : b - 1 ≤ length (remove ids (a - 1)) = omega arith in
    omega (arith, length-insert (remove ids (a - 1)) (b - 1) (slice_index ids (a - 1)) inside)

module _ {T : Type 0} where
  pub held-moved : (file : HeldBytes) (h : Head) (ids : List ℕ) (slots : Slab (Slot T)) (a b : ℕ) → AreHeld file h ids slots → a - 1 < length ids → AreHeld file h (with_id_moved ids a b) slots
  held-moved file h ids slots a b held short id some = held id (omega (arith, some, times-moved id ids a b short))

-- ---- no value changes

-- only the room for more values grew
module _ {T : Type 0} where
  pub room-made : (old new : Slab (Slot T)) (room : ℕ) → new ≡ record old { capacity = room } → SameValues old new
  room-made old new room e id = ap (λ (s : Slab (Slot T)). get s id) e

module _ {T : Type 0} where
  pub room-counts : (old new : Slab (Slot T)) (room : ℕ) → new ≡ record old { capacity = room } → slab_len new ≡ slab_len old
  room-counts old new room e = ap (λ (s : Slab (Slot T)). slab_len s) e

-- a value that was put under a vacant key is taken out again
module _ {T : Type 0} where
  pub taken-back : (old mid new : Slab (Slot T)) (key : ℕ) (o : Option (Slot T)) → get old key ≡ None → Updates old mid key o → Updates mid new key None → SameValues old new
  taken-back old mid new key o none put took id = elim (cases_eq id key) [
    | inl e ↦ ap (get new) e ∙ (took.changed ∙ (sym none ∙ ap (get old) (sym e)))
    | inr ne ↦ took.others id ne ∙ put.others id ne
  ]

module _ {T : Type 0} where
  pub held-same : (file : HeldBytes) (h : Head) (ids : List ℕ) (old new : Slab (Slot T)) → AreHeld file h ids old → SameValues old new → AreHeld file h ids new
  held-same file h ids old new held same id some = subst (λ (o : Option (Slot T)). IsSomeAnd o (IsSlot file h)) (sym (same id)) (held id some)

module _ {T : Type 0} where
  pub traces-same : (loaded ids : List ℕ) (old new : Slab (Slot T)) → SameValues old new → map (bytes_under loaded new) ids ≡ map (bytes_under loaded old) ids
  traces-same loaded ids old new same =
      map-alike (bytes_under loaded new) (bytes_under loaded old) ids (λ k. ap (λ (x : Option (Slot T)). option_map_or (bytes_in loaded) x []) (same k))

module _ {T : Type 0} where
  pub bases-same : (loaded ids : List ℕ) (old new : Slab (Slot T)) → SameValues old new → map (base_under loaded new) ids ≡ map (base_under loaded old) ids
  bases-same loaded ids old new same =
      map-alike (base_under loaded new) (base_under loaded old) ids (λ k. ap (λ (x : Option (Slot T)). option_map_or (λ (slot : Slot T). base_of loaded slot.layers.base) x []) (same k))

-- what holds at any rate
pub on_err : {T E : Type 0} → (r : Result T E) (P : Type 0) → P → OnErr r P
on_err (Ok x) P p = tt
on_err (Err e) P p = p
