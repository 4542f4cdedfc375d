-- The traces of a store.
use Rattle.std.specs.Prelude.{ℕ, ◌-◌, List, [], ◌∷◌, map, Option, Some, None, option_map}
use Rattle.slab.specs.Slab.{Slab, get}
use Rattle.trace_store.specs.Moved.{with_moved}
use Rattle.trace_store.specs.Slots.{base_under, bytes_under}
use Rattle.trace_store.specs.declared.prepared.Prepared.{Prepared}
use Rattle.trace_store.specs.declared.prepared.Prepared.TheVariants.{Put, Runs, Move}
use Rattle.trace_store.specs.declared.slot.Slot.{Slot}
use Rattle.trace_store.specs.declared.store.TraceStore.{TraceStore}

-- the traces, in order
abbrev pub traces_of : {T : Type 0} → TraceStore T → List (List ℕ)
traces_of s = map (bytes_under s.loaded.bytes s.slots) s.order.ids

-- the bytes under the runs of each trace, in order
abbrev pub bases_of : {T : Type 0} → TraceStore T → List (List ℕ)
bases_of s = map (base_under s.loaded.bytes s.slots) s.order.ids

-- the items that are there
abbrev pub somes : {T : Type 0} → List (Option T) → List T
somes [] = []
somes (None ∷ os) = somes os
somes (Some x ∷ os) = x ∷ somes os

-- the payload under an id
abbrev pub payload_under : {T : Type 0} → Slab (Slot T) → ℕ → Option T
payload_under slots id = option_map (λ slot. slot.payload) (get slots id)

-- the payloads under these ids
abbrev pub payloads_under : {T : Type 0} → Slab (Slot T) → List ℕ → List T
payloads_under slots ids = somes (map (payload_under slots) ids)

-- the payload of each trace, in order
abbrev pub payloads_of : {T : Type 0} → TraceStore T → List T
payloads_of s = payloads_under s.slots s.order.ids

-- the payloads with that of trace a taken out, and put in again so that it is that of trace b
abbrev pub payloads_moved : {T : Type 0} → List T → ℕ → ℕ → List T
payloads_moved ps a b = with_moved ps (a - 1) (b - 1)

-- the payloads as they would be with the edit that is prepared
abbrev pub payloads_then : {T : Type 0} → List T → Prepared → List T
payloads_then ps (Put put) = ps
payloads_then ps (Runs runs) = ps
payloads_then ps (Move m) = payloads_moved ps m.from m.to

-- the same, where something may be prepared or nothing
abbrev pub payloads_ahead : {T : Type 0} → List T → Option Prepared → List T
payloads_ahead ps None = ps
payloads_ahead ps (Some prepared) = payloads_then ps prepared
