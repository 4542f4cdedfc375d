-- What stands under OUT behind the end of a run.
use Rattle.std.specs.Prelude.{◌≡◌, ◌⊎◌, ⊤, ℕ, Bool, true, false, List, Option, None}
use Rattle.safe_save.specs.Disk.{Disk}
use Rattle.safe_save.specs.Saving.{IsStored, IsNotStored, IsCause, given_up_at, ever_taken_by}
use Rattle.safe_save.specs.declared.save_error.Fault.{Fault}
use Rattle.safe_save.specs.declared.save_error.SaveError.{SaveError}
use Rattle.safe_save.specs.declared.save_error.SaveError.TheVariants.{NotSaved, NotSettled}
use Rattle.script_text.specs.declared.run_end.RunEnd.{RunEnd}
use Rattle.script_text.specs.declared.run_end.RunEnd.TheVariants.{Done, Stopped, Load, Script, Answers, Save, SaveAtEnd}
use Rattle.run_ending.specs.Ending.{exit_status}
use Rattle.run_ending.specs.declared.ending.SaveEnd.{SaveEnd}
use Rattle.run_ending.specs.declared.ending.SaveEnd.TheVariants as s
use Rattle.run_ending.specs.declared.out_end.OutEnd.{OutEnd}
use Rattle.run_ending.specs.declared.out_end.OutEnd.TheVariants.{NotBegun, Saved, Refused}

-- all lines were run, and a save is asked for
abbrev pub is_whole : Bool → RunEnd → Bool
is_whole asked (Done refused) = asked
is_whole asked (Stopped line) = false
is_whole asked (Load fault) = false
is_whole asked (Script fault) = false
is_whole asked (Answers written) = false
is_whole asked (Save fault) = false
is_whole asked (SaveAtEnd refused) = false

-- a save was begun: behind all lines, where it is asked for, or one that failed while it was written
abbrev pub is_saving : Bool → RunEnd → Bool
is_saving asked (Done refused) = asked
is_saving asked (Stopped line) = false
is_saving asked (Load fault) = false
is_saving asked (Script fault) = false
is_saving asked (Answers written) = false
is_saving asked (Save fault) = true
is_saving asked (SaveAtEnd refused) = false

-- how the save ended fits how the run did: OUT is never another file than before but behind a run of all lines that asked for it
abbrev pub FitsRun : Bool → RunEnd → OutEnd → Type 0
FitsRun asked end NotBegun = is_saving asked end ≡ false
FitsRun asked end Saved = is_whole asked end ≡ true
FitsRun asked end (Refused (NotSaved fault)) = is_saving asked end ≡ true
FitsRun asked end (Refused (NotSettled error)) = is_whole asked end ≡ true

-- the fault that a save was given up for, where it is one of those that leave OUT as it was
abbrev pub IsFaultOf : Fault → SaveError → Type 0
IsFaultOf fault (NotSaved why) = fault ≡ why
IsFaultOf fault (NotSettled error) = ⊤

-- what stands under OUT, where the writer of the save was given these bytes: what stood there, or those bytes, all of them
abbrev pub StandsAs : OutEnd → Option ℕ → List ℕ → Disk → Type 0
StandsAs NotBegun mode bytes d = d.out ≡ None
StandsAs Saved mode bytes d = IsStored mode bytes d
StandsAs (Refused error) mode bytes d = IsNotStored error mode bytes d

-- what is told of a save that was refused: behind all lines a step failed, the one that is told; one that was given up before tells the step that failed
-- last, or where none did the write that was not made; and how many bytes the new file took
abbrev pub TellsCause : Bool → OutEnd → Disk → Type 0
TellsCause whole NotBegun d = ⊤
TellsCause whole Saved d = ⊤
TellsCause true (Refused error) d = IsCause error d
TellsCause false (Refused (NotSaved fault)) d = (fault.step ≡ given_up_at d.failed) × (fault.taken ≡ ever_taken_by d)
TellsCause false (Refused (NotSettled error)) d = ⊥

-- what the one who called the program is told of a save that ended so: done, but that FILE may have changed while it was copied; or that it failed, or why
-- FILE was not taken for the one that was loaded; or that a power cut may undo it
abbrev pub MayTell : OutEnd → SaveEnd → Type 0
MayTell NotBegun told = told ≡ s.NotBegun
MayTell Saved told = (told ≡ s.Saved) ⊎ (told ≡ s.Doubtful)
MayTell (Refused (NotSaved fault)) told = (told ≡ s.Failed) ⊎ (told ≡ s.Stale) ⊎ (told ≡ s.Unseen)
MayTell (Refused (NotSettled error)) told = told ≡ s.Unsettled

-- the exit status of a run whose save ended so
abbrev pub IsStatusOf : RunEnd → OutEnd → ℕ → Type 0
IsStatusOf end ended status = (told : SaveEnd) × MayTell ended told × (status ≡ exit_status end told)
