-- Pieces at hand, as a walk gives them.
use Rattle.std.specs.Prelude.{List, map}
use Rattle.journal_codes.specs.Codes.{Span}
use Rattle.journal_save.specs.declared.piece_edits.Piece.{Piece}
use Rattle.journal_save.specs.declared.piece_edits.PieceEdits.{PieceEdits}

-- a piece at hand: its place, and its bytes
abbrev pub span_of : Piece → Span
span_of p = (p.place, p.bytes.items)

-- all pieces of such a walk
abbrev pub spans_of : PieceEdits → List Span
spans_of e = map span_of e.pieces.now
