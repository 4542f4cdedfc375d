-- Which trace would be trace p with the edit that is prepared, and which runs would lie over it.
use Rattle.std.specs.Prelude.{ℕ, ◌+◌, ◌-◌, ◌==◌, nat_le, nat_lt, ◌&&◌, if◌then◌else◌, List, Option, Some, None, slice_get}
use Rattle.trace_view.specs.declared.run.Run.{Run}
use Rattle.trace_store.specs.declared.prepared.Prepared.{Prepared}
use Rattle.trace_store.specs.declared.prepared.Prepared.TheVariants.{Put, Runs, Move}
use Rattle.trace_store.specs.declared.prepared.TraceMove.{TraceMove}
use Rattle.trace_store.specs.declared.prepared.TraceRuns.{TraceRuns}

-- where the trace is now that would be trace p with the move
abbrev pub place_in_move : TraceMove → ℕ → ℕ
place_in_move m p =
    if p == m.to then m.from
    else if nat_le m.from p && nat_lt p m.to then p + 1
    else if nat_lt m.to p && nat_le p m.from then p - 1
    else p

-- where the trace is now that would be trace p with the edit that is prepared
abbrev pub place_then : Prepared → ℕ → ℕ
place_then (Put put) p = p
place_then (Runs runs) p = p
place_then (Move m) p = place_in_move m p

-- the runs for the trace at a place, counted from 0, if it is one of these traces
abbrev pub runs_over : TraceRuns → ℕ → Option (List Run)
runs_over runs i = if nat_lt i runs.place then None else slice_get runs.lists.items (i - runs.place)

-- the runs that the edit that is prepared lays over trace p, if it lays any
abbrev pub runs_then : Prepared → ℕ → Option (List Run)
runs_then (Put put) p = if p - 1 == put.place then Some put.runs else None
runs_then (Runs runs) p = runs_over runs (p - 1)
runs_then (Move m) p = None
