-- How a recovery ends for the one who called the program.
use Rattle.std.specs.Prelude.{◌≡◌, ℕ, Bool, true, false, Option, Result, Ok, Err}
use Rattle.journal_save.specs.declared.errors.PutBack.{PutBack}
use Rattle.journal_save.specs.declared.errors.RecoverError.{RecoverError}
use Rattle.journal_save.specs.declared.errors.RecoverError.TheVariants as r
use Rattle.run_ending.specs.declared.ending.RecoveryEnd.{RecoveryEnd}
use Rattle.run_ending.specs.declared.ending.RecoveryEnd.TheVariants.{Done, NotTold, NotOpened, Busy, Refused, Failed, NoMemory}

-- how it ended that was begun, and told of on standard output or not
abbrev pub recovery_end : Result (Option PutBack) RecoverError → (is_told : Bool) → RecoveryEnd
recovery_end (Ok back) true = Done
recovery_end (Ok back) false = NotTold
recovery_end (Err (r.Refused fault)) told = Refused
recovery_end (Err (r.Failed error)) told = Failed

-- the exit status
abbrev pub recovery_status : RecoveryEnd → ℕ
recovery_status Done = 0
recovery_status NotTold = 4
recovery_status NotOpened = 3
recovery_status Busy = 4
recovery_status Refused = 3
recovery_status Failed = 4
recovery_status NoMemory = 4

-- the exit status is that of some end
abbrev pub IsRecoveryStatus : ℕ → Type 0
IsRecoveryStatus status = (end : RecoveryEnd) × (status ≡ recovery_status end)
