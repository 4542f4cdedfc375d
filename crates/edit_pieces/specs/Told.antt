-- What is told of a volume's edits: their pieces, or why they have none.
use Rattle.std.specs.Prelude.{ℕ, ◌≡◌, List, Result, Ok, Err, Some, None}
use Rattle.trace_store.specs.declared.store.TraceStore.{TraceStore}
use Rattle.edit_pieces.specs.InPlace.{unfit_of}
use Rattle.edit_pieces.specs.Pieces.{pieces_of}
use Rattle.edit_pieces.specs.Walks.{Walk}
use Rattle.edit_pieces.specs.declared.unfit.Unfit.{Unfit}

-- each trace of the store is at its place, and the pieces are those of its changes; or else why one is not
abbrev pub IsTold : {T : Type 0} → List ℕ → List ℕ → ℕ → TraceStore T → Result Walk Unfit → Type 0
IsTold text bin n s (Ok walk) = (unfit_of n s ≡ None) × (walk.all ≡ pieces_of text bin s)
IsTold text bin n s (Err unfit) = unfit_of n s ≡ Some unfit
