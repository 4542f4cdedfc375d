-- Why records are not made.
use Rattle.edit_overlay.specs.Reads.{Reads, IsFaultOfLook}
use Rattle.volume_records.specs.declared.records_fault.RecordsFault.{RecordsFault}
use Rattle.volume_records.specs.declared.records_fault.RecordsFault.TheVariants.{OutOfMemory, Read}

-- a trace was not read
abbrev pub IsOfRead : RecordsFault → Type 0
IsOfRead OutOfMemory = ⊥
IsOfRead (Read read) = Unit {0}

-- records were not made for this reason: a growth was refused, or a look was
abbrev pub IsFaultOfRecords : (old new : Reads) → RecordsFault → Type 0
IsFaultOfRecords old new OutOfMemory = Unit {0}
IsFaultOfRecords old new (Read read) = IsFaultOfLook old new read
