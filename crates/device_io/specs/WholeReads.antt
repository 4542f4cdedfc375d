-- What a read of all bytes, up to a limit, takes from a reader.
use Rattle.std.specs.Prelude.{ℕ, ◌≡◌, ◌+◌, ◌≤◌, List, length, Option}
use Rattle.std.specs.Io.KnownBytes.{Consumes, IsAtEnd}
use Rattle.device_io.specs.Failures.{one_more}
use Rattle.device_io.specs.declared.read_fault.ReadFault.{ReadFault}
use Rattle.device_io.specs.declared.read_fault.ReadFault.TheVariants.{ReadFailed, TooLarge, OutOfMemory}

-- a reader gives these bytes, and is then at its end
pub record GivesAll (old new : Option (List ℕ)) (bytes : List ℕ) : Type 0 where
  pub taken : Consumes old new bytes
  pub end : IsAtEnd new

-- a reader gives some bytes, so many at least and so many at most
pub record GivesSome (old new : Option (List ℕ)) (least most : ℕ) : Type 0 where
  pub bytes : List ℕ
  pub taken : Consumes old new bytes
  pub no_fewer : least ≤ length bytes
  pub no_more : length bytes ≤ most

-- what a reader gives before it is left: at most the limit where a read fails, one byte more where that is too many,
-- and one to as many where memory is refused
abbrev pub GivesBefore : ReadFault → Option (List ℕ) → Option (List ℕ) → ℕ → Type 0
GivesBefore ReadFailed old new limit = GivesSome old new 0 limit
GivesBefore TooLarge old new limit = GivesSome old new (limit + 1) (limit + 1)
GivesBefore OutOfMemory old new limit = GivesSome old new 1 (limit + 1)

-- the count of failures afterwards: one more exactly where a read failed
abbrev pub FailuresAfter : ReadFault → ℕ → ℕ → Type 0
FailuresAfter ReadFailed old new = new ≡ one_more old
FailuresAfter TooLarge old new = new ≡ old
FailuresAfter OutOfMemory old new = new ≡ old
