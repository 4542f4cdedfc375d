-- What a write of all bytes adds to a writer.
use Rattle.std.specs.Prelude.{ℕ, ◌<◌, List, length, take, Option, Result, MatchResult}
use Rattle.std.specs.Io.KnownBytes.{Appends}
use Rattle.device_io.specs.declared.write_fault.WriteFault.{WriteFault}

-- a writer takes all the bytes, or exactly the first ones that the fault counts, which are not all
abbrev pub TakesAll : {T : Type 0} → Option (List ℕ) → Option (List ℕ) → List ℕ → Result T WriteFault → Type 0
TakesAll old new bytes result =
    MatchResult result (λ _. Appends old new bytes) (λ fault. Appends old new (take fault.written bytes) × (fault.written < length bytes))
