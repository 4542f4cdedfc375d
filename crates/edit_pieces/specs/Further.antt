-- Where an earlier repair wrote, and the loaded bytes that go back there.
use Rattle.std.specs.Prelude.{ℕ, ◌+◌, ◌≤◌, List, take, drop}
use Rattle.journal_codes.specs.Codes.{Span}
use Rattle.journal_codes.specs.declared.heads.Head.{Head}
use Rattle.journal_codes.specs.declared.heads.TheConstants.{PIECE_ROOM}
use Rattle.journal_save.specs.Disk.{Range}

-- where a piece lies
abbrev pub range_at : Head → Range
range_at h = (h.place, h.size)

-- the loaded bytes that go back where a piece was written
abbrev pub put_back : List ℕ → Head → Span
put_back loaded h = (h.place, take h.size (drop h.place loaded))

-- a piece of a file of so many bytes: it fits the room and ends inside
pub record IsWithin (file : ℕ) (h : Head) : Type 0 where
  pub small : h.size ≤ PIECE_ROOM
  pub inside : h.place + h.size ≤ file
