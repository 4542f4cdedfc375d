use Rattle.std.proofs.Common.{◌≡◌, ◌<◌, ◌^◌, length}
use Rattle.std.specs.List.{AllByRecursion}
use Rattle.trace_store.specs.Slots.{AreHeld}
use Rattle.edit_pieces.specs.RunsLeft.{runs_left, IsRunIn}
use Rattle.edit_pieces.proofs.runs_walk.RunsWalk.next.Given as goal

-- the runs that are left are those that were
abbrev pub invariant-traces : goal.invariant-traces
invariant-traces g l =
    ((runs_left l.self-inside ≡ l.fn.self)
    × ((length l.self-inside.store.now.loaded.bytes < 2 ^ 64)
    × (AllByRecursion (IsRunIn (length l.self-inside.store.now.loaded.bytes) l.self-inside.start) l.self-inside.runs.now
    × AreHeld l.self-inside.store.now.loaded l.self-inside.store.now.head l.self-inside.ids l.self-inside.store.now.slots)))

abbrev pub decreases-traces : goal.decreases-traces
decreases-traces g l = length l.self-inside.ids
