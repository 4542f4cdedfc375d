use Rattle.std.proofs.Common.{◌↔◌, length}
use Rattle.std.specs.List.{AllByRecursion}
use Rattle.edit_pieces.specs.Further.{IsWithin}
use Rattle.edit_pieces.proofs.heads.are_within.Given as goal

-- the pieces so far lie within
abbrev pub invariant-heads : goal.invariant-heads
invariant-heads l = AllByRecursion (IsWithin l.file) l.heads ↔ AllByRecursion (IsWithin l.file) l.left

abbrev pub decreases-heads : goal.decreases-heads
decreases-heads l = length l.left
