use Rattle.std.proofs.Common.{◌≡◌, ◌+◌, ◌-◌, ◌<◌, ◌≤◌, ◌∙◌, ℕ, List, Option, Some, length, map, sym, ap, subst, arith}
use Rattle.std.specs.List.{insert}
use Rattle.std.proofs.lemmas.List.{length-map}
use Rattle.std.proofs.lemmas.List.Edits.{length-insert}
use Rattle.slab.specs.Slab.{SameValues}
use Rattle.trace_seq.specs.Order.{times, AreDistinct}
use Rattle.trace_seq.proofs.TimeLemmas.{distinct-insert}
use Rattle.trace_store.specs.declared.slot.Slot.{Slot}
use Rattle.trace_store.specs.Slots.{base_under, bytes_in, bytes_under, AreHeld}
use Rattle.trace_store.proofs.SlotLemmas.{IsFreshSlot, fresh-slot, vacant-absent, room-made, room-counts, taken-back, held-same, bases-same, traces-same, on_err, held-inserted, traces-inserted}
use Rattle.trace_store.proofs.PayloadLemmas.{payloads-same, payloads-inserted}
use Rattle.trace_store.specs.Stores.{somes, payload_under}
use Rattle.trace_store.proofs.store.TraceStore.insert.Goals as goal

pub returns-in_err-told-clause-err : goal.returns-in_err-told-clause-err
returns-in_err-told-clause-err g c =
    let s = c.args.self.now in
    let room : SameValues s.slots c.reserve.new.self = room-made s.slots c.reserve.new.self c.reserve.new.self.capacity c.reserve.ensures.rest_kept in
    on_err c.from_residual-in_err-told.result _ (traces-same s.loaded.bytes s.order.ids s.slots c.reserve.new.self room)

-- where the order has no room, the slot is taken out again

pub invariant_of-self-then-is_err : goal.invariant_of-self-then-is_err
invariant_of-self-then-is_err g c =
    let s = c.args.self.now in
    let room : SameValues s.slots c.reserve.new.self = room-made s.slots c.reserve.new.self c.reserve.new.self.capacity c.reserve.ensures.rest_kept in
    let back : SameValues c.reserve.new.self c.remove.new.self = taken-back c.reserve.new.self c.insert_reserved-id.new.self c.remove.new.self c.insert_reserved-id.result (Some (record { layers = c.in_ok-layers.layers; payload = c.args.payload })) c.insert_reserved-id.ensures.was_vacant c.insert_reserved-id.ensures.updates c.remove.ensures.updates in
    let held : AreHeld s.loaded s.head s.order.ids c.remove.new.self =
    held-same s.loaded s.head s.order.ids c.reserve.new.self c.remove.new.self (held-same s.loaded s.head s.order.ids s.slots c.reserve.new.self s.sound.held room) back in
    record {
      sound = record {
        held = subst (λ (xs : List ℕ). AreHeld s.loaded s.head xs c.remove.new.self) (sym c.reserve_one.ensures.ids) held;
        distinct = subst AreDistinct (sym c.reserve_one.ensures.ids) s.sound.distinct;
        no_more = rw c.reserve_one.ensures.ids (omega (arith, s.sound.no_more, c.remove.ensures.len, c.insert_reserved-id.ensures.len, room-counts s.slots c.reserve.new.self c.reserve.new.self.capacity c.reserve.ensures.rest_kept));
        few = rw c.reserve_one.ensures.ids s.sound.few;
      };
    }

pub returns-then-is_err-clause-err : goal.returns-then-is_err-clause-err
returns-then-is_err-clause-err g c =
    let s = c.args.self.now in
    let room : SameValues s.slots c.reserve.new.self = room-made s.slots c.reserve.new.self c.reserve.new.self.capacity c.reserve.ensures.rest_kept in
    let back : SameValues c.reserve.new.self c.remove.new.self = taken-back c.reserve.new.self c.insert_reserved-id.new.self c.remove.new.self c.insert_reserved-id.result (Some (record { layers = c.in_ok-layers.layers; payload = c.args.payload })) c.insert_reserved-id.ensures.was_vacant c.insert_reserved-id.ensures.updates c.remove.ensures.updates in
    ap (λ (xs : List ℕ). map (bytes_under s.loaded.bytes c.remove.new.self) xs) c.reserve_one.ensures.ids
    ∙ (traces-same s.loaded.bytes s.order.ids c.reserve.new.self c.remove.new.self back ∙ traces-same s.loaded.bytes s.order.ids s.slots c.reserve.new.self room)

pub returns-then-is_err-clause-bases : goal.returns-then-is_err-clause-bases
returns-then-is_err-clause-bases g c =
    let s = c.args.self.now in
    let room : SameValues s.slots c.reserve.new.self = room-made s.slots c.reserve.new.self c.reserve.new.self.capacity c.reserve.ensures.rest_kept in
    let back : SameValues c.reserve.new.self c.remove.new.self = taken-back c.reserve.new.self c.insert_reserved-id.new.self c.remove.new.self c.insert_reserved-id.result (Some (record { layers = c.in_ok-layers.layers; payload = c.args.payload })) c.insert_reserved-id.ensures.was_vacant c.insert_reserved-id.ensures.updates c.remove.ensures.updates in
    ap (λ (xs : List ℕ). map (base_under s.loaded.bytes c.remove.new.self) xs) c.reserve_one.ensures.ids
    ∙ (bases-same s.loaded.bytes s.order.ids c.reserve.new.self c.remove.new.self back ∙ bases-same s.loaded.bytes s.order.ids s.slots c.reserve.new.self room)

pub invariant_of-self-2 : goal.invariant_of-self-2
invariant_of-self-2 g c =
    let s = c.args.self.now in
    let key = c.insert_reserved-id.result in
    let new : Slot g.row.T.Denot = record { layers = c.in_ok-layers.layers; payload = c.args.payload } in
    let fresh : IsFreshSlot s.loaded s.head new c.args.base = fresh-slot s.loaded s.head new c.args.base c.in_ok-layers.ensures.base c.requires.inside c.requires.room c.requires.whole in
    let room : SameValues s.slots c.reserve.new.self = room-made s.slots c.reserve.new.self c.reserve.new.self.capacity c.reserve.ensures.rest_kept in
    let held : AreHeld s.loaded s.head s.order.ids c.reserve.new.self = held-same s.loaded s.head s.order.ids s.slots c.reserve.new.self s.sound.held room in
    let absent : times key s.order.ids ≡ 0 = vacant-absent s.loaded s.head s.order.ids c.reserve.new.self key held c.insert_reserved-id.ensures.was_vacant in
    let ids : c.insert.new.self.ids ≡ insert s.order.ids (c.args.p - 1) key = c.insert.ensures.ids ∙ ap (λ (xs : List ℕ). insert xs (c.args.p - 1) key) c.reserve_one.ensures.ids in
    let within : c.args.p - 1 ≤ length s.order.ids = omega (arith, c.requires.first, c.requires.last, length-map s.order.ids (bytes_under s.loaded.bytes s.slots)) in
    let fewer : length s.order.ids + 1 < 4294967296 = omega (arith, c.requires.few, length-map s.order.ids (bytes_under s.loaded.bytes s.slots)) in
    record {
      sound = record {
        held = subst (λ (xs : List ℕ). AreHeld s.loaded s.head xs c.insert_reserved-id.new.self) (sym ids) (held-inserted s.loaded s.head s.order.ids c.reserve.new.self c.insert_reserved-id.new.self (c.args.p - 1) key new held c.insert_reserved-id.ensures.updates fresh.sound);
        distinct = subst AreDistinct (sym ids) (distinct-insert s.order.ids (c.args.p - 1) key absent s.sound.distinct);
        no_more = rw ids (omega (arith, s.sound.no_more, c.insert_reserved-id.ensures.len, room-counts s.slots c.reserve.new.self c.reserve.new.self.capacity c.reserve.ensures.rest_kept, length-insert s.order.ids (c.args.p - 1) key within));
        few = rw ids (omega (arith, fewer, length-insert s.order.ids (c.args.p - 1) key within));
      };
    }

pub returns-clause-ok : goal.returns-clause-ok
returns-clause-ok g c =
    let s = c.args.self.now in
    let key = c.insert_reserved-id.result in
    let new : Slot g.row.T.Denot = record { layers = c.in_ok-layers.layers; payload = c.args.payload } in
    let fresh : IsFreshSlot s.loaded s.head new c.args.base = fresh-slot s.loaded s.head new c.args.base c.in_ok-layers.ensures.base c.requires.inside c.requires.room c.requires.whole in
    let room : SameValues s.slots c.reserve.new.self = room-made s.slots c.reserve.new.self c.reserve.new.self.capacity c.reserve.ensures.rest_kept in
    let held : AreHeld s.loaded s.head s.order.ids c.reserve.new.self = held-same s.loaded s.head s.order.ids s.slots c.reserve.new.self s.sound.held room in
    let absent : times key s.order.ids ≡ 0 = vacant-absent s.loaded s.head s.order.ids c.reserve.new.self key held c.insert_reserved-id.ensures.was_vacant in
    ap (λ (xs : List ℕ). map (bytes_under s.loaded.bytes c.insert_reserved-id.new.self) xs) (c.insert.ensures.ids ∙ ap (λ (xs : List ℕ). insert xs (c.args.p - 1) key) c.reserve_one.ensures.ids)
    ∙ (traces-inserted s.loaded.bytes s.order.ids c.reserve.new.self c.insert_reserved-id.new.self (c.args.p - 1) key new absent c.insert_reserved-id.ensures.updates
    ∙ (ap (λ (ts : List (List ℕ)). insert ts (c.args.p - 1) (bytes_in s.loaded.bytes new)) (traces-same s.loaded.bytes s.order.ids s.slots c.reserve.new.self room)
    ∙ ap (λ (t : List ℕ). insert (map (bytes_under s.loaded.bytes s.slots) s.order.ids) (c.args.p - 1) t) fresh.shows))

pub returns-in_err-told-clause-payloads : goal.returns-in_err-told-clause-payloads
returns-in_err-told-clause-payloads g c =
    let s = c.args.self.now in
    let room : SameValues s.slots c.reserve.new.self = room-made s.slots c.reserve.new.self c.reserve.new.self.capacity c.reserve.ensures.rest_kept in
    on_err c.from_residual-in_err-told.result _ (ap (λ (os : List (Option g.row.T.Denot)). somes os) (payloads-same s.order.ids s.slots c.reserve.new.self room))

pub returns-then-is_err-clause-payloads : goal.returns-then-is_err-clause-payloads
returns-then-is_err-clause-payloads g c =
    let s = c.args.self.now in
    let room : SameValues s.slots c.reserve.new.self = room-made s.slots c.reserve.new.self c.reserve.new.self.capacity c.reserve.ensures.rest_kept in
    let back : SameValues c.reserve.new.self c.remove.new.self = taken-back c.reserve.new.self c.insert_reserved-id.new.self c.remove.new.self c.insert_reserved-id.result (Some (record { layers = c.in_ok-layers.layers; payload = c.args.payload })) c.insert_reserved-id.ensures.was_vacant c.insert_reserved-id.ensures.updates c.remove.ensures.updates in
    ap (λ (xs : List ℕ). somes (map (payload_under c.remove.new.self) xs)) c.reserve_one.ensures.ids
    ∙ ap (λ (os : List (Option g.row.T.Denot)). somes os) (payloads-same s.order.ids c.reserve.new.self c.remove.new.self back ∙ payloads-same s.order.ids s.slots c.reserve.new.self room)

pub returns-clause-put : goal.returns-clause-put
returns-clause-put g c =
    let s = c.args.self.now in
    let key = c.insert_reserved-id.result in
    let new : Slot g.row.T.Denot = record { layers = c.in_ok-layers.layers; payload = c.args.payload } in
    let room : SameValues s.slots c.reserve.new.self = room-made s.slots c.reserve.new.self c.reserve.new.self.capacity c.reserve.ensures.rest_kept in
    let held : AreHeld s.loaded s.head s.order.ids c.reserve.new.self = held-same s.loaded s.head s.order.ids s.slots c.reserve.new.self s.sound.held room in
    let absent : times key s.order.ids ≡ 0 = vacant-absent s.loaded s.head s.order.ids c.reserve.new.self key held c.insert_reserved-id.ensures.was_vacant in
    ap (λ (xs : List ℕ). somes (map (payload_under c.insert_reserved-id.new.self) xs)) (c.insert.ensures.ids ∙ ap (λ (xs : List ℕ). insert xs (c.args.p - 1) key) c.reserve_one.ensures.ids)
    ∙ (payloads-inserted s.loaded s.head s.order.ids c.reserve.new.self held c.insert_reserved-id.new.self (c.args.p - 1) key new absent c.insert_reserved-id.ensures.updates
    ∙ ap (λ (os : List (Option g.row.T.Denot)). insert (somes os) (c.args.p - 1) c.args.payload) (payloads-same s.order.ids s.slots c.reserve.new.self room))
