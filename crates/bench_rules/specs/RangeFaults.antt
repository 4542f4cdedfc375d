-- Why there is no answer about a range of traces.
use Rattle.std.specs.Prelude.{◌≡◌, ◌⊎◌, Option, Some, None, Err, IsOk}
use Rattle.bench_rules.specs.declared.ask_fault.AskFault.{AskFault}
use Rattle.bench_rules.specs.declared.ask_fault.AskFault.TheVariants.{NoTrace, NoField, NoPlace, NoSample, OutOfMemory, NoValues, ReadFailed, FileChanged}
use Rattle.bench_rules.specs.declared.refusal.Refusal.{Refusal}
use Rattle.bench_rules.specs.declared.refusal.Refusal.TheVariants as refusals
use Rattle.bench_rules.specs.Answer.{Reply}

-- the first fault of a range, or the reply where there is none
abbrev pub or_fault : Option AskFault → Reply → Reply
or_fault None reply = reply
or_fault (Some fault) reply = Err fault

-- E03 where a trace lacks a place, and so there is nothing to answer, else E11
abbrev pub fault_of : {X : Type 0} → Option X → AskFault
fault_of None = NoPlace
fault_of (Some answer) = OutOfMemory

-- a fault in place of this reply: the reply's own, or want of memory for an answer
abbrev pub IsFaultFor : AskFault → Reply → Type 0
IsFaultFor fault reply = (reply ≡ Err fault) ⊎ ((fault ≡ OutOfMemory) × IsOk reply)

-- the refusal of an edit whose traces are not chosen, or of a sort for whose numbers there is no table
abbrev pub refusal_for : AskFault → Refusal
refusal_for NoField = refusals.NoField
refusal_for NoPlace = refusals.NoPlace
refusal_for ReadFailed = refusals.ReadFailed
refusal_for FileChanged = refusals.FileChanged
refusal_for OutOfMemory = refusals.OutOfMemory
refusal_for NoValues = refusals.NoValues
refusal_for (NoTrace p count) = refusals.NoTrace p count
refusal_for (NoSample k count) = refusals.NoSample k count
