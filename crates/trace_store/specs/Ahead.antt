-- The traces of a store as they would be with the edit that is prepared.
use Rattle.std.specs.Prelude.{ℕ, ◌≡◌, ◌+◌, ◌-◌, ◌<◌, ◌≤◌, List, [], ◌∷◌, length, slice_index_or, slice_set, Option, Some, None}
use Rattle.std.specs.List.{concat, insert, remove}
use Rattle.base_file.specs.HeldBytes.{Standing, IsSure}
use Rattle.frame_cut.specs.declared.file_head.Head.{Head}
use Rattle.frame_cut.specs.Cuts.{IsTrace}
use Rattle.trace_view.specs.declared.run.Run.{Run}
use Rattle.trace_view.specs.Runs.{Fit, bytes_with_runs}
use Rattle.trace_store.specs.declared.prepared.Prepared.{Prepared}
use Rattle.trace_store.specs.declared.prepared.Prepared.TheVariants.{Put, Runs, Move}
use Rattle.trace_store.specs.declared.prepared.TraceMove.{TraceMove}
use Rattle.trace_store.specs.declared.store.TraceStore.{TraceStore}
use Rattle.trace_store.specs.Stores.{bases_of, traces_of}

-- the traces with a list of runs over the base of each of those from `place` on
abbrev pub traces_with : (bases traces : List (List ℕ)) → ℕ → List (List Run) → List (List ℕ)
traces_with bases traces place [] = traces
traces_with bases traces place (runs ∷ lists) =
    traces_with bases (slice_set traces place (bytes_with_runs (slice_index_or bases place []) runs)) (place + 1) lists

-- the runs fit the base at `place`; and if the loaded bytes are sure, they show a whole trace over it
pub record AreRunsOf (standing : Standing) (h : Head) (bases : List (List ℕ)) (place : ℕ) (runs : List Run) : Type 0 where
  pub there : place < length bases
  pub fit : Fit runs (length (slice_index_or bases place []))
  pub whole : IsSure standing → IsTrace h (bytes_with_runs (slice_index_or bases place []) runs)

-- each list of runs fits its base from `place` on; and if the loaded bytes are sure, it shows a whole trace over it
abbrev pub AreRunsFrom : Standing → Head → (bases : List (List ℕ)) → ℕ → List (List Run) → Type 0
AreRunsFrom standing h bases place [] = Unit {0}
AreRunsFrom standing h bases place (runs ∷ lists) =
    AreRunsOf standing h bases place runs × AreRunsFrom standing h bases (place + 1) lists

-- the traces with trace a taken out, and put in again so that it is trace b
abbrev pub traces_moved : List (List ℕ) → ℕ → ℕ → List (List ℕ)
traces_moved traces a b = insert (remove traces (a - 1)) (b - 1) (slice_index_or traces (a - 1) [])

-- the store has both traces of the move, and its order has room for it
pub record MayMove {T : Type 0} (s : TraceStore T) (m : TraceMove) : Type 0 where
  pub from_first : 1 ≤ m.from
  pub from_last : m.from ≤ length (traces_of s)
  pub to_first : 1 ≤ m.to
  pub to_last : m.to ≤ length (traces_of s)
  pub room : 1 ≤ s.order.spare

-- the traces of the store as they would be
abbrev pub traces_then : {T : Type 0} → TraceStore T → Prepared → List (List ℕ)
traces_then s (Put put) = traces_with (bases_of s) (traces_of s) put.place (put.runs ∷ [])
traces_then s (Runs runs) = traces_with (bases_of s) (traces_of s) runs.place runs.lists.items
traces_then s (Move m) = traces_moved (traces_of s) m.from m.to

-- what is prepared fits the store
abbrev pub IsFit : {T : Type 0} → TraceStore T → Prepared → Type 0
IsFit s (Put put) = AreRunsFrom s.loaded.standing s.head (bases_of s) put.place (put.runs ∷ [])
IsFit s (Runs runs) = AreRunsFrom s.loaded.standing s.head (bases_of s) runs.place runs.lists.items
IsFit s (Move m) = MayMove s m

-- what is prepared fits the store, and all its traces together stay as long as they are
pub record IsReady {T : Type 0} (s : TraceStore T) (prepared : Prepared) : Type 0 where
  pub fit : IsFit s prepared
  pub length : length (concat (traces_then s prepared)) ≡ length (concat (traces_of s))

-- the traces of the store as they would be, where something may be prepared or nothing
abbrev pub traces_ahead : {T : Type 0} → TraceStore T → Option Prepared → List (List ℕ)
traces_ahead s None = traces_of s
traces_ahead s (Some prepared) = traces_then s prepared

-- what is prepared, if anything, fits the traces of the store
abbrev pub IsReadyIfSome : {T : Type 0} → TraceStore T → Option Prepared → Type 0
IsReadyIfSome s None = Unit {0}
IsReadyIfSome s (Some prepared) = IsReady s prepared
