-- What a walk over the pieces of a volume's edits shows.
use Rattle.std.specs.Prelude.{List}
use Rattle.journal_codes.specs.Codes.{Span}

-- all pieces, and those that the walk has still to give
pub record Walk : Type 0 where
  pub all : List Span
  pub left : List Span
