use Rattle.std.proofs.Common.{◌≡◌, ◌++◌, length, map}
use Rattle.journal_save.specs.Saving.{ranges}
use Rattle.edit_pieces.specs.Further.{range_at}
use Rattle.edit_pieces.proofs.heads.heads_of.Given as goal

-- the places that are held are those of the pieces so far
abbrev pub invariant-pieces : goal.invariant-pieces
invariant-pieces g l = record {
  room : length l.room ≡ 65536;
  all : l.edits.all ≡ l.fn.edits.all;
  held : map range_at l.heads.items ++ ranges l.edits.left ≡ ranges l.fn.edits.all;
}

abbrev pub decreases-pieces : goal.decreases-pieces
decreases-pieces g l = length l.edits.left
