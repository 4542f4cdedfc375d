-- What is known of a file, or of the rest of one, from its first bytes and its length.
use Rattle.std.specs.Prelude.{◌≡◌, ℕ, List, length, take, Option, Some, None, Result, Ok, Err}
use Rattle.frame_cut.specs.declared.file_head.Head.{Head}
use Rattle.frame_cut.specs.declared.load_fault.LoadFault.{LoadFault}

-- the bytes begin with these, and are so many
pub record BeginsWith (front : List ℕ) (n : ℕ) (bytes : List ℕ) : Type 0 where
  pub begins : take (length front) bytes ≡ front
  pub long : length bytes ≡ n

-- what is told of a head, where it is told, is so
abbrev pub Tells : Result (Option Head) LoadFault → Result Head LoadFault → Type 0
Tells (Ok None) head = Unit {0}
Tells (Ok (Some h)) head = head ≡ Ok h
Tells (Err fault) head = head ≡ Err fault
