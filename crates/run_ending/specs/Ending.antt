-- How a run ends for the one who called the program.
use Rattle.std.specs.Prelude.{◌≡◌, ℕ, Bool, true, false, nat_lt, is_some, if◌then◌else◌}
use Rattle.script_text.specs.declared.run_end.RunEnd.{RunEnd}
use Rattle.script_text.specs.declared.run_end.RunEnd.TheVariants.{Done, Stopped, Load, Script, Answers, Save, SaveAtEnd}
use Rattle.edit_pieces.specs.declared.repaired.Repaired.{Repaired}
use Rattle.edit_pieces.specs.declared.repaired.Repaired.TheVariants.{NotBegun, Saved, Unfit, Unsettled, Failed}
use Rattle.journal_save.specs.declared.errors.SaveError.{SaveError}
use Rattle.journal_save.specs.declared.errors.SaveError.TheVariants.{Untouched, Undone, Interrupted, NotSettled}
use Rattle.run_ending.specs.declared.ending.SaveEnd.{SaveEnd}
use Rattle.run_ending.specs.declared.ending.SaveEnd.TheVariants as s
use Rattle.run_ending.specs.declared.ending.Message.{Message}
use Rattle.run_ending.specs.declared.ending.Message.TheVariants as t

-- the status where all lines were run and what was to be saved is saved: whether any was refused
abbrev pub status_of_lines : ℕ → ℕ
status_of_lines refused = if nat_lt 0 refused then 1 else 0

-- the exit status
abbrev pub exit_status : RunEnd → SaveEnd → ℕ
exit_status (Done refused) s.NotBegun = status_of_lines refused
exit_status (Done refused) s.Saved = status_of_lines refused
exit_status (Done refused) s.Failed = 4
exit_status (Done refused) s.Unsettled = 4
exit_status (Done refused) s.Stale = 4
exit_status (Done refused) s.Unseen = 4
exit_status (Done refused) s.Doubtful = 4
exit_status (Stopped line) ended = 1
exit_status (Load fault) ended = 3
exit_status (Script fault) ended = 4
exit_status (Answers written) ended = 4
exit_status (Save fault) ended = 4
exit_status (SaveAtEnd refused) ended = 4

-- what standard error says of a save
abbrev pub told_of_save : SaveEnd → Message
told_of_save s.NotBegun = t.Nothing
told_of_save s.Saved = t.Nothing
told_of_save s.Failed = t.SaveFailed
told_of_save s.Unsettled = t.SaveUnsettled
told_of_save s.Stale = t.FileChanged
told_of_save s.Unseen = t.FileUnseen
told_of_save s.Doubtful = t.SaveDoubtful

-- what standard error says of a save that a failed read of FILE ended, or a failed write
abbrev pub told_of_failed : Bool → SaveEnd → Message
told_of_failed true ended = t.FileUnread
told_of_failed false ended = told_of_save ended

-- what standard error says
abbrev pub told : RunEnd → SaveEnd → Message
told (Done refused) ended = told_of_save ended
told (Stopped line) ended = t.Nothing
told (Load fault) ended = t.Nothing
told (Script fault) ended = t.Nothing
told (Answers written) ended = t.AnswersFailed
told (Save fault) ended = told_of_failed (is_some fault.read) ended
told (SaveAtEnd refused) ended = t.Nothing

-- whether a read of FILE ended the save
abbrev pub is_unread : RunEnd → Bool
is_unread (Done refused) = false
is_unread (Stopped line) = false
is_unread (Load fault) = false
is_unread (Script fault) = false
is_unread (Answers written) = false
is_unread (Save fault) = is_some fault.read
is_unread (SaveAtEnd refused) = false

-- what standard error says of a change of FILE behind a save that could not read it, and behind any other end: where no save was begun,
-- the answers may be wrong; one that found FILE changed has said so, and of all others no more is told
abbrev pub of_change : Bool → SaveEnd → Message
of_change true ended = t.ChangedUnread
of_change false s.NotBegun = t.AnswersDoubtful
of_change false s.Saved = t.Nothing
of_change false s.Failed = t.Nothing
of_change false s.Unsettled = t.Nothing
of_change false s.Stale = t.Nothing
of_change false s.Unseen = t.Nothing
of_change false s.Doubtful = t.Nothing

-- what standard error says behind what it says of the run and the save, where FILE was changed by another program
abbrev pub told_of_change : RunEnd → SaveEnd → Message
told_of_change end ended = of_change (is_unread end) ended

-- how the save of a repair ended that a call ended, where FILE had been changed by another program or not
abbrev pub failed_end : SaveError → Bool → SaveEnd
failed_end (Untouched error) stale = if stale then s.Stale else s.Failed
failed_end (Undone error) stale = s.Failed
failed_end (Interrupted error again) stale = s.Failed
failed_end (NotSettled error) stale = s.Unsettled

-- how the save of a repair ended
abbrev pub repair_end : Repaired → Bool → SaveEnd
repair_end NotBegun stale = s.NotBegun
repair_end Saved stale = s.Saved
repair_end (Unfit why) stale = s.Failed
repair_end (Unsettled error) stale = s.Failed
repair_end (Failed error) stale = failed_end error stale

-- the exit status is that of some end of the save
abbrev pub IsExitStatus : RunEnd → ℕ → Type 0
IsExitStatus end status = (ended : SaveEnd) × (status ≡ exit_status end ended)
