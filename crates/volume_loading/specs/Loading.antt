-- What a load does to a reader, and why it is refused.
use Rattle.std.specs.Prelude.{ℕ, ◌≡◌, ◌≢◌, ◌⊎◌, ◌+◌, ◌<◌, List, length, Option, IfSome}
use Rattle.device_io.specs.Failures.{one_more}
use Rattle.device_io.specs.WholeReads.{GivesSome}
use Rattle.frame_cut.specs.declared.limits.Limits.{Limits}
use Rattle.frame_cut.specs.declared.reading.Reading.{Reading}
use Rattle.frame_cut.specs.declared.load_fault.LoadFault.{LoadFault}
use Rattle.frame_cut.specs.declared.load_fault.LoadFault.TheVariants.{ReadFailed, TooLarge, OutOfMemory}
use Rattle.frame_cut.specs.Cuts.{IsRefused}

-- the reader's count of failures after a refused load: one more exactly where a read failed
abbrev pub FailuresAfterRefusal : LoadFault → ℕ → ℕ → Type 0
FailuresAfterRefusal fault old new = ((fault ≡ ReadFailed) × (new ≡ one_more old)) ⊎ ((fault ≢ ReadFailed) × (new ≡ old))

-- a load is refused for this reason: a read failed, memory was refused, or the reader's bytes, where they are known,
-- are a file that is refused for it
abbrev pub IsLoadFault : Option (List ℕ) → Reading → Limits → LoadFault → Type 0
IsLoadFault known reading limits fault =
    (fault ≡ ReadFailed) ⊎ (fault ≡ OutOfMemory) ⊎ IfSome known (λ file. IsRefused file reading limits fault)

-- not all bytes of a reader are read, for this reason: a read failed, memory was refused, or it gives more than the
-- limit
abbrev pub IsReadFault : Option (List ℕ) → Limits → LoadFault → Type 0
IsReadFault known limits fault =
    (fault ≡ ReadFailed) ⊎ (fault ≡ OutOfMemory) ⊎ ((fault ≡ TooLarge) × IfSome known (λ file. limits.bytes < length file))

-- what a refused load takes from its reader: at most one byte above the limit
abbrev pub TakesWithin : Option (List ℕ) → Option (List ℕ) → Limits → Type 0
TakesWithin old new limits = GivesSome old new 0 (limits.bytes + 1)
