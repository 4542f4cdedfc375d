-- The payloads of a store: what a change of one slot, or of the order, does to them.
use Rattle.std.proofs.Common.{◌≡◌, ℕ, zero, suc, ◌-◌, ◌<◌, List, [], ◌∷◌, ◌++◌, length, map, take, drop, refl, sym, ap, ◌∙◌, arith, Option, Some, None, inl, inr}
use Rattle.std.specs.Prelude.{slice_get, slice_index, slice_set, option_map, IsSomeAnd}
use Rattle.std.specs.List.{insert, remove}
use Rattle.std.proofs.lemmas.Bool.{cases_eq}
use Rattle.std.proofs.lemmas.List.{length-map, map-append, take-map, drop-map}
use Rattle.std.proofs.lemmas.Option.{slice_get-map, slice_get-get_or}
use Rattle.base_file.specs.HeldBytes.{HeldBytes}
use Rattle.slab.specs.Slab.{Slab, get, Updates, SameValues}
use Rattle.frame_cut.specs.declared.file_head.Head.{Head}
use Rattle.trace_seq.specs.Order.{times, id_at, with_id_moved, AreDistinct}
use Rattle.trace_seq.proofs.TimeLemmas.{times-self}
use Rattle.trace_store.specs.declared.slot.Slot.{Slot}
use Rattle.trace_store.specs.Slots.{AreHeld, IsSlot}
use Rattle.trace_store.specs.Moved.{put_back}
use Rattle.trace_store.specs.Stores.{somes, payload_under, payloads_moved}
use Rattle.trace_seq.specs.Without.{without_each}
use Rattle.trace_seq.proofs.ThinLemmas.{map-without}
use Rattle.trace_store.proofs.OutLemmas.{map-held}
use Rattle.trace_store.proofs.OrderLemmas.{place-of, held-at_place, map-alike, map-others, map-changed, map-insert, map-remove}

module _ {T : Type 0} where
  abbrev some : T → Option T
  some t = Some t

  abbrev some_some : T → Option (Option T)
  some_some t = Some (Some t)

  -- ---- lists of which each item is there

  pub somes-all : (ps : List T) → somes (map some ps) ≡ ps
  somes-all [] = refl
  somes-all (p ∷ ps) = ap (λ (l : List T). p ∷ l) (somes-all ps)

  set-all : (ps : List T) (i : ℕ) (t : T) → slice_set (map some ps) i (some t) ≡ map some (slice_set ps i t)
  set-all [] i t = refl
  set-all (p ∷ ps) zero t = refl
  set-all (p ∷ ps) (suc i) t = ap (λ (l : List (Option T)). some p ∷ l) (set-all ps i t)

  insert-all : (ps : List T) (i : ℕ) (t : T) → insert (map some ps) i (some t) ≡ map some (insert ps i t)
  insert-all ps i t =
      let front : take i (map some ps) ≡ map some (take i ps) = take-map some i ps in
      let back : drop i (map some ps) ≡ map some (drop i ps) = drop-map some i ps in
      let all : map some (take i ps ++ t ∷ drop i ps) ≡ map some (take i ps) ++ some t ∷ map some (drop i ps) = map-append some (take i ps) (t ∷ drop i ps) in
      cc

  remove-all : (ps : List T) (i : ℕ) → remove (map some ps) i ≡ map some (remove ps i)
  remove-all ps i =
      let front : take i (map some ps) ≡ map some (take i ps) = take-map some i ps in
      let back : drop (suc i) (map some ps) ≡ map some (drop (suc i) ps) = drop-map some (suc i) ps in
      let all : map some (take i ps ++ drop (suc i) ps) ≡ map some (take i ps) ++ map some (drop (suc i) ps) = map-append some (take i ps) (drop (suc i) ps) in
      cc

  onto : (o : Option T) → ((t : T) × (o ≡ some t)) → (os : List (Option T)) → os ≡ map some (somes os) → o ∷ os ≡ map some (somes (o ∷ os))
  onto None there os rest = absurd (let e = there.1 in cc)
  onto (Some t) there os rest = ap (λ (l : List (Option T)). some t ∷ l) rest

  -- a list all of whose items are there is that of its items
  each-there : (f : ℕ → Option T) (ids : List ℕ) → ((id : ℕ) → 0 < times id ids → (t : T) × (f id ≡ some t)) → map f ids ≡ map some (somes (map f ids))
  each-there f [] there = refl
  each-there f (x ∷ xs) there =
      let rest : map f xs ≡ map some (somes (map f xs)) = each-there f xs (λ id held. there id (omega (arith, held))) in
      onto (f x) (there x (times-self x xs)) (map f xs) rest

  payload-in : (file : HeldBytes) (h : Head) (o : Option (Slot T)) → IsSomeAnd o (IsSlot file h) → (t : T) × (option_map (λ (slot : Slot T). slot.payload) o ≡ some t)
  payload-in file h None held = absurd held
  payload-in file h (Some slot) held = (slot.payload, refl)

  inner : (o : Option T) (t : T) → option_map some o ≡ some_some t → o ≡ some t
  inner None t e = absurd (cc)
  inner (Some x) t e = cc

module _ {T : Type 0} (file : HeldBytes) (h : Head) (ids : List ℕ) (slots : Slab (Slot T)) (held : AreHeld file h ids slots) where
  abbrev ps : List T
  ps = somes (map (payload_under slots) ids)

  all-there : map (payload_under slots) ids ≡ map some ps
  all-there = each-there (payload_under slots) ids (λ id there. payload-in file h (get slots id) (held id there))

  -- each trace has one
  pub payloads-counted : length ps ≡ length ids
  payloads-counted = sym (length-map ps some) ∙ (ap (λ (os : List (Option T)). length os) (sym all-there) ∙ length-map ids (payload_under slots))

  -- the payload at a place
  pub payload-found : (p id : ℕ) (slot : Slot T) → id_at ids p ≡ Some id → get slots id ≡ Some slot → slice_get ps (p - 1) ≡ Some slot.payload
  payload-found p id slot at found =
      let raw : slice_get (map (payload_under slots) ids) (p - 1) ≡ some_some slot.payload =
      slice_get-map (payload_under slots) ids (p - 1) ∙ ap (option_map (payload_under slots)) (place-of ids id p at) ∙ ap (λ (o : Option (Slot T)). some (option_map (λ (x : Slot T). x.payload) o)) found in
      inner (slice_get ps (p - 1)) slot.payload (sym (ap (λ (os : List (Option T)). slice_get os (p - 1)) all-there ∙ slice_get-map some ps (p - 1)) ∙ raw)

  -- a slot is changed
  pub payloads-changed : (new : Slab (Slot T)) (p id : ℕ) (slot : Slot T) → AreDistinct ids → id_at ids p ≡ Some id → Updates slots new id (Some slot) → somes (map (payload_under new) ids) ≡ slice_set ps (p - 1) slot.payload
  payloads-changed new p id slot distinct at up =
      let raw : map (payload_under new) ids ≡ slice_set (map (payload_under slots) ids) (p - 1) (some slot.payload) =
      map-changed (payload_under new) (payload_under slots) id ids (p - 1) (distinct id) (place-of ids id p at) (λ k ne. ap (option_map (λ (x : Slot T). x.payload)) (up.others k ne))
      ∙ ap (λ (o : Option (Slot T)). slice_set (map (payload_under slots) ids) (p - 1) (option_map (λ (x : Slot T). x.payload) o)) up.changed in
      ap (λ (os : List (Option T)). somes os) (raw ∙ (ap (λ (os : List (Option T)). slice_set os (p - 1) (some slot.payload)) all-there ∙ set-all ps (p - 1) slot.payload)) ∙ somes-all (slice_set ps (p - 1) slot.payload)

  -- an id comes
  pub payloads-inserted : (new : Slab (Slot T)) (i key : ℕ) (slot : Slot T) → times key ids ≡ 0 → Updates slots new key (Some slot) → somes (map (payload_under new) (insert ids i key)) ≡ insert ps i slot.payload
  payloads-inserted new i key slot absent up =
      let raw : map (payload_under new) (insert ids i key) ≡ insert (map (payload_under slots) ids) i (some slot.payload) =
      map-insert (payload_under new) ids i key
      ∙ (ap (λ (os : List (Option T)). insert os i (payload_under new key)) (map-others (payload_under new) (payload_under slots) key ids absent (λ k ne. ap (option_map (λ (x : Slot T). x.payload)) (up.others k ne)))
      ∙ ap (λ (o : Option (Slot T)). insert (map (payload_under slots) ids) i (option_map (λ (x : Slot T). x.payload) o)) up.changed) in
      ap (λ (os : List (Option T)). somes os) (raw ∙ (ap (λ (os : List (Option T)). insert os i (some slot.payload)) all-there ∙ insert-all ps i slot.payload)) ∙ somes-all (insert ps i slot.payload)

  -- an id goes
  pub payloads-removed : (new : Slab (Slot T)) (i key : ℕ) → times key (remove ids i) ≡ 0 → Updates slots new key None → somes (map (payload_under new) (remove ids i)) ≡ remove ps i
  payloads-removed new i key absent up =
      let raw : map (payload_under new) (remove ids i) ≡ remove (map (payload_under slots) ids) i =
      map-others (payload_under new) (payload_under slots) key (remove ids i) absent (λ k ne. ap (option_map (λ (x : Slot T). x.payload)) (up.others k ne)) ∙ map-remove (payload_under slots) ids i in
      ap (λ (os : List (Option T)). somes os) (raw ∙ (ap (λ (os : List (Option T)). remove os i) all-there ∙ remove-all ps i)) ∙ somes-all (remove ps i)

  -- many ids go
  pub payloads-without : (new : Slab (Slot T)) (positions : List ℕ) → ((id : ℕ) → 0 < times id (without_each ids positions) → get new id ≡ get slots id) → somes (map (payload_under new) (without_each ids positions)) ≡ without_each ps positions
  payloads-without new positions stay =
      let raw : map (payload_under new) (without_each ids positions) ≡ without_each (map (payload_under slots) ids) positions =
      map-held (payload_under new) (payload_under slots) (without_each ids positions) (λ k there. ap (option_map (λ (x : Slot T). x.payload)) (stay k there)) ∙ map-without (payload_under slots) 1 ids positions in
      ap (λ (os : List (Option T)). somes os) (raw ∙ (ap (λ (os : List (Option T)). without_each os positions) all-there ∙ sym (map-without some 1 ps positions))) ∙ somes-all (without_each ps positions)

  -- an id moves
  pub payloads-moved : (a b : ℕ) → a - 1 < length ids → somes (map (payload_under slots) (with_id_moved ids a b)) ≡ payloads_moved ps a b
  payloads-moved a b short =
      let id : ℕ = slice_index ids (a - 1) in
      let there : slice_get ids (a - 1) ≡ Some id = slice_get-get_or ids (a - 1) 0 short in
      let in_slot = payload-in file h (get slots id) (held id (held-at_place ids id (a - 1) there)) in
      let t : T = in_slot.0 in
      let at : slice_get ps (a - 1) ≡ some t =
      inner (slice_get ps (a - 1)) t (sym (ap (λ (os : List (Option T)). slice_get os (a - 1)) all-there ∙ slice_get-map some ps (a - 1)) ∙ (slice_get-map (payload_under slots) ids (a - 1) ∙ ap (option_map (payload_under slots)) there ∙ ap (λ (o : Option T). let q : Option (Option T) = Some o in q) in_slot.1)) in
      let raw : map (payload_under slots) (with_id_moved ids a b) ≡ insert (remove (map (payload_under slots) ids) (a - 1)) (b - 1) (some t) =
      map-insert (payload_under slots) (remove ids (a - 1)) (b - 1) id
      ∙ (ap (λ (os : List (Option T)). insert os (b - 1) (payload_under slots id)) (map-remove (payload_under slots) ids (a - 1))
      ∙ ap (λ (o : Option T). insert (remove (map (payload_under slots) ids) (a - 1)) (b - 1) o) in_slot.1) in
      ap (λ (os : List (Option T)). somes os) (raw ∙ (ap (λ (os : List (Option T)). insert (remove os (a - 1)) (b - 1) (some t)) all-there ∙ (ap (λ (os : List (Option T)). insert os (b - 1) (some t)) (remove-all ps (a - 1)) ∙ insert-all (remove ps (a - 1)) (b - 1) t)))
      ∙ somes-all (insert (remove ps (a - 1)) (b - 1) t)
      ∙ ap (λ (o : Option T). put_back o (remove ps (a - 1)) (b - 1)) (sym at)

-- ---- no payload changes

module _ {T : Type 0} where
  pub payloads-kept : (ids : List ℕ) (old new : Slab (Slot T)) (key : ℕ) (before after : Slot T) → get old key ≡ Some before → after.payload ≡ before.payload → Updates old new key (Some after)
      → map (payload_under new) ids ≡ map (payload_under old) ids
  payloads-kept ids old new key before after found same up =
      let payload : Option (Slot T) → Option T = λ o. option_map (λ (x : Slot T). x.payload) o in
      let here : payload_under new key ≡ payload_under old key = ap payload up.changed ∙ (ap some same ∙ ap payload (sym found)) in
      map-alike (payload_under new) (payload_under old) ids (λ k. elim (cases_eq k key) [
        | inl e ↦ ap (payload_under new) e ∙ (here ∙ ap (payload_under old) (sym e))
        | inr ne ↦ ap payload (up.others k ne)
      ])

  pub payloads-same : (ids : List ℕ) (old new : Slab (Slot T)) → SameValues old new → map (payload_under new) ids ≡ map (payload_under old) ids
  payloads-same ids old new same = map-alike (payload_under new) (payload_under old) ids (λ k. ap (λ (x : Option (Slot T)). option_map (λ (slot : Slot T). slot.payload) x) (same k))
