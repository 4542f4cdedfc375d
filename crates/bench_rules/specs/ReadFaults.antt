-- What is told of bytes on disk that were not read.
use Rattle.std.specs.Prelude.{◌≡◌, ◌⊎◌, ◌<◌, Bool, IsTrue}
use Rattle.base_file.specs.declared.read_fault.ReadFault.{ReadFault}
use Rattle.base_file.specs.declared.read_fault.ReadFault.TheVariants as reads
use Rattle.edit_overlay.specs.Reads.{Reads, HaveAgreed}
use Rattle.bench_rules.specs.declared.ask_fault.AskFault.{AskFault}
use Rattle.bench_rules.specs.declared.ask_fault.AskFault.TheVariants as asks
use Rattle.bench_rules.specs.declared.refusal.Refusal.{Refusal}
use Rattle.bench_rules.specs.declared.refusal.Refusal.TheVariants.{FileChanged, ReadFailed}

-- the refusal of an edit whose trace was not read: the file has changed, or else a read failed
abbrev pub refusal_of : ReadFault → Refusal
refusal_of reads.ReadFailed = ReadFailed
refusal_of reads.Changed = FileChanged
refusal_of reads.TooLarge = ReadFailed

-- the same of a query
abbrev pub ask_fault_of : ReadFault → AskFault
ask_fault_of reads.ReadFailed = asks.ReadFailed
ask_fault_of reads.Changed = asks.FileChanged
ask_fault_of reads.TooLarge = asks.ReadFailed

-- an edit is told that a read failed, or gave what shows that the file has changed: only where the loaded bytes are on disk
abbrev pub IsReadRefusal : Bool → Refusal → Type 0
IsReadRefusal on_disk refusal = IsTrue on_disk × ((refusal ≡ ReadFailed) ⊎ (refusal ≡ FileChanged))

-- a query is
abbrev pub IsReadFault : Bool → AskFault → Type 0
IsReadFault on_disk fault = IsTrue on_disk × ((fault ≡ asks.ReadFailed) ⊎ (fault ≡ asks.FileChanged))

-- no read refuses a query so
abbrev pub IsFaultOfNoRead : AskFault → Type 0
IsFaultOfNoRead asks.ReadFailed = ⊥
IsFaultOfNoRead asks.FileChanged = ⊥
IsFaultOfNoRead fault = Unit {0}

-- no read refuses an edit so
abbrev pub IsRefusalOfNoRead : Refusal → Type 0
IsRefusalOfNoRead ReadFailed = ⊥
IsRefusalOfNoRead FileChanged = ⊥
IsRefusalOfNoRead refusal = Unit {0}

-- a query is refused as the reads tell: with E14 only where one of them failed meanwhile, with E15 only where they do not agree
abbrev pub IsFaultOfReads : (old new : Reads) → AskFault → Type 0
IsFaultOfReads old new asks.ReadFailed = old.failures < new.failures
IsFaultOfReads old new asks.FileChanged = ¬ HaveAgreed new
IsFaultOfReads old new fault = Unit {0}

-- an edit is
abbrev pub IsRefusalOfReads : (old new : Reads) → Refusal → Type 0
IsRefusalOfReads old new ReadFailed = old.failures < new.failures
IsRefusalOfReads old new FileChanged = ¬ HaveAgreed new
IsRefusalOfReads old new refusal = Unit {0}
