-- The bytes of a base that were read last.
use Rattle.std.specs.Prelude.{ℕ, ◌≡◌, ◌+◌, ◌≤◌, Bool, IsTrue, List, length, take, drop}
use Rattle.base_file.specs.declared.room.Room.{Room}

-- the bytes that stand in a room
abbrev pub read_last : Room → List ℕ
read_last r = take r.filled r.block.items

-- what stands in a room lies inside these bytes, and is what they have there, if each read so far gave them
pub record IsOf (bytes : List ℕ) (agreed : Bool) (r : Room) : Type 0 where
  pub inside : r.from + r.filled ≤ length bytes
  pub same : IsTrue agreed → read_last r ≡ take r.filled (drop r.from bytes)
