-- Refusals that tell nothing of the edit.
use Rattle.std.specs.Prelude.{◌≡◌, ◌⊎◌, Bool}
use Rattle.bench_rules.specs.declared.refusal.Refusal.{Refusal}
use Rattle.bench_rules.specs.declared.refusal.Refusal.TheVariants.{OutOfMemory}
use Rattle.bench_rules.specs.ReadFaults.{refusal_of, IsReadRefusal}
use Rattle.volume_records.specs.declared.records_fault.RecordsFault.{RecordsFault}
use Rattle.volume_records.specs.declared.records_fault.RecordsFault.TheVariants as records

-- want of memory, or a trace on disk that was not read
abbrev pub IsOfMachine : Bool → Refusal → Type 0
IsOfMachine on_disk refusal = (refusal ≡ OutOfMemory) ⊎ IsReadRefusal on_disk refusal

-- the refusal of an edit for which no records were made
abbrev pub refusal_of_records : RecordsFault → Refusal
refusal_of_records records.OutOfMemory = OutOfMemory
refusal_of_records (records.Read read) = refusal_of read
