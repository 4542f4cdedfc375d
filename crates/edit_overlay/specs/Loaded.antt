-- What a load read.
use Rattle.std.specs.Prelude.{ℕ, Bool, List}

-- the bytes that a load read, and whether they stay on disk
pub record Loaded : Type 0 where
  pub bytes : List ℕ
  pub on_disk : Bool
