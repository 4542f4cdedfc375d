-- The pieces of a repair behind an earlier one, and those that are still to be given.
use Rattle.std.specs.Prelude.{◌++◌, length, map}
use Rattle.std.specs.List.{AllByRecursion}
use Rattle.edit_pieces.specs.Further.{put_back, IsWithin}
use Rattle.edit_pieces.specs.Walks.{Walk}
use Rattle.edit_pieces.specs.declared.further_edits.FurtherEdits.TheInside.{Inside}

-- the loaded bytes that go back, and then the pieces of the edits
abbrev pub walk_of : {T : Type 0} → Inside T → Walk
walk_of e = record {
  all = map (put_back e.loaded.now) e.written.now ++ e.edits.all;
  left = map (put_back e.loaded.now) e.left.now ++ e.edits.left;
}

-- each piece that is to be put back lies within the loaded bytes
pub record IsFurtherWalk {T : Type 0} (e : Inside T) : Type 0 where
  pub written : AllByRecursion (IsWithin (length e.loaded.now)) e.written.now
  pub left : AllByRecursion (IsWithin (length e.loaded.now)) e.left.now
