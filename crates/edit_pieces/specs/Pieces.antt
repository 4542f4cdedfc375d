-- Changes as pieces, none of them longer than the room for one.
use Rattle.std.specs.Prelude.{ℕ, zero, suc, ◌+◌, ◌<◌, ◌≤◌, List, [], ◌∷◌, length, take, drop}
use Rattle.std.specs.List.{flat_map, AllByRecursion}
use Rattle.journal_codes.specs.Codes.{Span}
use Rattle.journal_codes.specs.declared.heads.TheConstants.{PIECE_ROOM}
use Rattle.trace_store.specs.declared.store.TraceStore.{TraceStore}
use Rattle.edit_pieces.specs.Changes.{changes_of}

-- bytes in pieces of `room` bytes and the rest, one behind the other from a place on: n pieces at most
abbrev pub cut_by : (room n at : ℕ) → List ℕ → List Span
cut_by room n at [] = []
cut_by room zero at (b ∷ bs) = []
cut_by room (suc n) at (b ∷ bs) = (at, take room (b ∷ bs)) ∷ cut_by room n (at + room) (drop room (b ∷ bs))

-- a change in pieces of 65,536 bytes and the rest, of which there are no more than it has bytes
abbrev pub pieces_in : Span → List Span
pieces_in s = cut_by PIECE_ROOM (length s.1) s.0 s.1

-- the pieces of all changes
abbrev pub pieces_of : {T : Type 0} → List ℕ → List ℕ → TraceStore T → List Span
pieces_of text bin s = flat_map pieces_in (changes_of text bin s)

-- a piece of a file of so many bytes: it has a byte, fits the room and ends inside
pub record IsPieceOf (file : ℕ) (s : Span) : Type 0 where
  pub some : 0 < length s.1
  pub small : length s.1 ≤ PIECE_ROOM
  pub inside : s.0 + length s.1 ≤ file

-- each of them is one
abbrev pub ArePiecesOf : ℕ → List Span → Type 0
ArePiecesOf file ss = AllByRecursion (IsPieceOf file) ss
