-- Why no slice is given.
use Rattle.time_slice.specs.declared.slice_fault.SliceFault.{SliceFault}
use Rattle.time_slice.specs.declared.slice_fault.SliceFault.TheVariants.{OutOfMemory, Read}
use Rattle.edit_overlay.specs.Reads.{Reads, IsFaultOfLook}
use Rattle.bench_rules.specs.declared.ask_fault.AskFault.{AskFault}
use Rattle.bench_rules.specs.declared.ask_fault.AskFault.TheVariants as asks
use Rattle.bench_rules.specs.ReadFaults.{ask_fault_of}

-- a trace was not read
abbrev pub IsOfRead : SliceFault → Type 0
IsOfRead OutOfMemory = ⊥
IsOfRead (Read read) = Unit {0}

-- what a query for a slice is told
abbrev pub ask_fault_of_slice : SliceFault → AskFault
ask_fault_of_slice OutOfMemory = asks.OutOfMemory
ask_fault_of_slice (Read read) = ask_fault_of read

-- no slice is given for this reason: a growth was refused, or a look was
abbrev pub IsFaultOfSlice : (old new : Reads) → SliceFault → Type 0
IsFaultOfSlice old new OutOfMemory = Unit {0}
IsFaultOfSlice old new (Read read) = IsFaultOfLook old new read
