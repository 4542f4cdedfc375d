use Rattle.std.proofs.Common.{◌≡◌, ◌+◌, ◌<◌, ◌≤◌, ◌^◌, length, map}
use Rattle.trace_store.specs.Slots.{AreHeld}
use Rattle.edit_pieces.specs.Changes.{layers_under}
use Rattle.edit_pieces.specs.InPlace.{unfit_from, unfit_of}
use Rattle.edit_pieces.proofs.in_place.unfit_in.Given as goal

-- the traces so far are at their places: what is told of all is told of the others
abbrev pub invariant-traces : goal.invariant-traces
invariant-traces g l =
    ((goal.iterator-traces g).can_next l.ids × (goal.iterator-traces g).is_finite l.ids)
    × ((unfit_of l.tail l.store ≡ unfit_from l.at (l.p + 1) l.end (map (layers_under l.store.slots) l.ids))
    × (AreHeld l.store.loaded l.store.head l.ids l.store.slots
    × ((l.p + length l.ids < 2 ^ 32)
    × (l.at ≤ length l.store.loaded.bytes))))
