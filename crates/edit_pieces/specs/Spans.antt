-- Bytes that go to a place of the file.
use Rattle.std.specs.Prelude.{◌+◌, ◌<◌, ◌^◌, length}
use Rattle.journal_codes.specs.Codes.{Span}
use Rattle.edit_pieces.specs.declared.change.Change.{Change}

-- a change, as a place and its bytes
abbrev pub span_of : Change → Span
span_of c = (c.place, c.bytes.now)

-- its bytes end inside 64 bits
abbrev pub IsBounded : Change → Type 0
IsBounded c = c.place + length c.bytes.now < 2 ^ 64
