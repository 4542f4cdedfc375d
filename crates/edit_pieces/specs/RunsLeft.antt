-- The runs of the traces that a walk has still to give.
use Rattle.std.specs.Prelude.{ℕ, ◌+◌, ◌<◌, ◌≤◌, ◌^◌, List, ◌++◌, length, map}
use Rattle.std.specs.List.{flat_map, AllByRecursion}
use Rattle.journal_codes.specs.Codes.{Span}
use Rattle.trace_view.specs.declared.run.Run.{Run}
use Rattle.trace_view.specs.Runs.{end_of}
use Rattle.trace_store.specs.Slots.{AreHeld}
use Rattle.edit_pieces.specs.Changes.{layers_under, run_at, runs_in}
use Rattle.edit_pieces.specs.declared.runs_walk.RunsWalk.TheInside.{Inside}

-- a run over an extent that starts here has a byte, and ends inside a file of so many
pub record IsRunIn (file start : ℕ) (r : Run) : Type 0 where
  pub some : 0 < length r.bytes.items
  pub inside : start + end_of r ≤ file

-- the runs of the trace that was found last, and then those of the traces behind it
abbrev pub runs_left : {T : Type 0} → Inside T → List Span
runs_left w = map (run_at w.start) w.runs.now ++ flat_map runs_in (map (layers_under w.store.now.slots) w.ids)

-- they lie inside the file, and each trace behind is there
pub record AreRunsLeft {T : Type 0} (w : Inside T) : Type 0 where
  pub small : length w.store.now.loaded.bytes < 2 ^ 64
  pub inside : AllByRecursion (IsRunIn (length w.store.now.loaded.bytes) w.start) w.runs.now
  pub held : AreHeld w.store.now.loaded w.store.now.head w.ids w.store.now.slots
