-- Pieces that come one after another.
use Rattle.std.specs.Prelude.{◌≡◌, ℕ, ◌≤◌, List, [], ◌∷◌, ◌++◌, take, drop, Option, Some, None}
use Rattle.md5.specs.Md5.{Holds}
use Rattle.md5.specs.declared.Md5.{Md5}
use Rattle.journal_codes.specs.Codes.{Span, IsPiece, ArePieces, span_in, size_in, IsRefusedAs}
use Rattle.journal_codes.specs.declared.file_facts.FileFacts.{FileFacts}
use Rattle.journal_codes.specs.declared.heads.Head.{Head}
use Rattle.journal_codes.specs.declared.journal_fault.JournalFault.TheVariants.{Broken}
use Rattle.journal_save.specs.declared.errors.RecoverError.{RecoverError}
use Rattle.journal_save.specs.declared.errors.RecoverError.TheVariants.{Refused, Failed}
use Rattle.journal_save.specs.declared.listing.Listed.{Listed}

-- the first of the pieces that are left, whose bytes begin the room; or there is none
abbrev pub IsNext : Option Head → List ℕ → List Span → List Span → Type 0
IsNext None room old new = old ≡ []
IsNext (Some head) room old new = (head.size ≤ 65536) × (old ≡ (head.place, take head.size room) ∷ new)

-- the piece that the rest of a journal begins with, whose bytes begin the room
pub record IsListedAt (file : ℕ) (rest : List ℕ) (listed : Listed) (room : List ℕ) : Type 0 where
  pub piece : IsPiece file rest
  pub front : listed.front ≡ take 16 rest
  pub size : listed.head.size ≡ size_in rest
  pub span : (listed.head.place, take listed.head.size room) ≡ span_in rest
  pub bytes : take listed.head.size room ≡ take listed.head.size (drop 16 rest)

-- it begins with none
abbrev pub IsUnlisted : RecoverError → ℕ → List ℕ → Type 0
IsUnlisted (Refused fault) file rest = (fault ≡ Broken) × (IsPiece file rest → ⊥)
IsUnlisted (Failed error) file rest = Unit {0}

-- they are pieces, and the hasher took them in
pub record AreTaken (file : ℕ) (rest : List ℕ) (old new : Md5) : Type 0 where
  pub pieces : ArePieces file 0 rest
  pub held : (m : List ℕ) → Holds old m → Holds new (m ++ rest)

-- what is left of a journal is no pieces
abbrev pub AreUnlisted : RecoverError → ℕ → List ℕ → Type 0
AreUnlisted (Refused fault) file rest = (fault ≡ Broken) × (ArePieces file 0 rest → ⊥)
AreUnlisted (Failed error) file rest = Unit {0}

-- a journal is refused for what it is
abbrev pub IsRefusal : RecoverError → FileFacts → List ℕ → Type 0
IsRefusal (Refused fault) facts bs = IsRefusedAs facts bs fault
IsRefusal (Failed error) facts bs = Unit {0}
