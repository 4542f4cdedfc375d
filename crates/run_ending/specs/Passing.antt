-- A file that may not be open yet passes on what it is given.
use Rattle.std.specs.Prelude.{ℕ, List, Option, Some, None, Result, IsErr, []}
use Rattle.std.specs.Io.KnownBytes.{WriteAppends}

-- the open file took the first bytes behind those that it had, as many as are told, and none at an `Err`; where none is open that is an `Err`
abbrev pub PassesOn : {W E : Type 0} → (W → Option (List ℕ)) → Option W → Option W → Result ℕ E → List ℕ → Type 0
PassesOn contents None new result bytes = IsErr result
PassesOn contents (Some old) None result bytes = ⊥
PassesOn contents (Some old) (Some new) result bytes = WriteAppends (contents old) (contents new) result bytes
