-- Where the saves of a session go, and what each of them does there.
use Rattle.std.specs.Prelude.{◌≡◌, ◌⊎◌, ⊤, ℕ, Bool, true, false, List, length, Option, Some, Result, Ok, Err, if◌then◌else◌}
use Rattle.journal_save.specs.Disk.{Range, Disk, IsSame}
use Rattle.journal_save.specs.declared.errors.SaveError.{SaveError}
use Rattle.journal_save.specs.declared.errors.SaveError.TheVariants.{Untouched, Undone, Interrupted, NotSettled}
use Rattle.safe_save.specs.Places.{Holds as StandsWhere}
use Rattle.edit_pieces.specs.declared.attempt.Attempt.{Attempt}
use Rattle.edit_pieces.specs.declared.attempt.Attempt.TheVariants.{Stopped, NoMemory, Ended}
use Rattle.edit_pieces.specs.declared.repaired.Repaired.{Repaired}
use Rattle.edit_pieces.specs.declared.repaired.Repaired.TheVariants.{NotBegun, Saved, Unfit, Unsettled, Failed}
use Rattle.refusal_texts.specs.declared.session_fault.SessionFault.{SessionFault}
use Rattle.refusal_texts.specs.declared.session_fault.SessionFault.TheVariants.{NoOut, SaveFailed}
use Rattle.script_run.specs.InPlace.{Repairs}

-- OUT, of which it may be known what stands there; or FILE itself, which has the bytes that were loaded but where earlier repairs wrote, whose
-- saves may be stopped, and of which it may be known what is there, and what a crash leaves
pub data Place : Type 0 where
  Elsewhere : Option (List ℕ) → Place
  Itself : List ℕ → List Range → (is_stopped : Bool) → Option Disk → Place

-- it is a place for a volume of these bytes
abbrev pub Follows : Place → List ℕ → Type 0
Follows (Elsewhere known) bytes = ⊤
Follows (Itself loaded written is_stopped d) bytes = loaded ≡ bytes

-- ---- OUT

-- what a save of these bytes tells, and what stands under OUT behind it: at `Ok` these bytes, all of them, which are so many; at S07 and S08
-- what stood there, or, where only a power cut may undo it, these bytes
abbrev pub SavesElsewhere : Option (List ℕ) → List ℕ → Result ℕ SessionFault → Option (List ℕ) → Type 0
SavesElsewhere old bytes (Ok number) new = (number ≡ length bytes) × StandsWhere old (Some bytes) new
SavesElsewhere old bytes (Err fault) new =
    ((fault ≡ NoOut) × (new ≡ old))
    ⊎ ((taken : ℕ) × (fault ≡ SaveFailed taken) × ((new ≡ old) ⊎ StandsWhere old (Some bytes) new))

-- ---- FILE itself

-- whether FILE has the new bytes behind a save that failed so: then only a power cut may undo it
abbrev pub is_written_though : SaveError → Bool
is_written_though (Untouched error) = false
is_written_though (Undone error) = false
is_written_though (Interrupted error again) = false
is_written_though (NotSettled error) = true

-- whether it has them behind a repair
abbrev pub is_written_by : Repaired → Bool
is_written_by NotBegun = false
is_written_by Saved = true
is_written_by (Unfit why) = false
is_written_by (Unsettled error) = false
is_written_by (Failed error) = is_written_though error

-- and behind an attempt at one
abbrev pub is_written : Attempt → Bool
is_written Stopped = false
is_written NoMemory = false
is_written (Ended repaired) = is_written_by repaired

-- whether no save may follow one that failed so: it was cut off, or a power cut may undo it
abbrev pub is_last_fault : SaveError → Bool
is_last_fault (Untouched error) = false
is_last_fault (Undone error) = false
is_last_fault (Interrupted error again) = true
is_last_fault (NotSettled error) = true

-- and behind a repair
abbrev pub is_last_repair : Repaired → Bool
is_last_repair NotBegun = false
is_last_repair Saved = false
is_last_repair (Unfit why) = false
is_last_repair (Unsettled error) = false
is_last_repair (Failed error) = is_last_fault error

-- and behind an attempt at one
abbrev pub is_last : Attempt → Bool
is_last Stopped = false
is_last NoMemory = false
is_last (Ended repaired) = is_last_repair repaired

-- where saves are stopped, an attempt does nothing, and they stay so; else they are stopped behind the last
abbrev pub Stops : (was_stopped : Bool) → Attempt → (is_stopped : Bool) → Type 0
Stops true attempt is_stopped = (attempt ≡ Stopped) × (is_stopped ≡ true)
Stops false attempt is_stopped = is_stopped ≡ is_last attempt

-- what a repair tells of a volume of so many bytes: S08 with all of them, where only a power cut may undo it, and else with none
abbrev pub answer_to : Repaired → ℕ → Result ℕ SessionFault
answer_to NotBegun n = Err (SaveFailed 0)
answer_to Saved n = Ok n
answer_to (Unfit why) n = Err (SaveFailed 0)
answer_to (Unsettled error) n = Err (SaveFailed 0)
answer_to (Failed error) n = Err (SaveFailed (if is_written_though error then n else 0))

-- and an attempt at one
abbrev pub answer_of : Attempt → ℕ → Result ℕ SessionFault
answer_of Stopped n = Err (SaveFailed 0)
answer_of NoMemory n = Err (SaveFailed 0)
answer_of (Ended repaired) n = answer_to repaired n

-- where FILE, of which these bytes were loaded, has others: where it has the new bytes now, these have to be the loaded ones elsewhere
abbrev pub WritesAt : (is_written : Bool) → List ℕ → List Range → List ℕ → List Range → Type 0
WritesAt true loaded old bytes new = IsSame new loaded bytes
WritesAt false loaded old bytes new = new ≡ old

-- an attempt to make these bytes of FILE, which has the loaded ones but where earlier repairs wrote, and may have any there: nothing was done, or it
-- is a repair of all that FILE may hold then
abbrev pub Repairing : List ℕ → List Range → Option Disk → List ℕ → Attempt → Option Disk → Type 0
Repairing loaded old d bytes Stopped e = e ≡ d
Repairing loaded old d bytes NoMemory e = e ≡ d
Repairing loaded old d bytes (Ended repaired) e = (held : List ℕ) → IsSame old loaded held → Repairs true held bytes repaired d e

-- the same, and where FILE has others than the loaded bytes behind it
abbrev pub Tries : List ℕ → List Range → Option Disk → List ℕ → Attempt → List Range → Option Disk → Type 0
Tries loaded old d bytes attempt new e = WritesAt (is_written attempt) loaded old bytes new × Repairing loaded old d bytes attempt e

-- a save of these bytes in FILE itself: S07 where that is for the end alone, or an attempt, and what it tells
abbrev pub SavesItself : List ℕ → List Range → Bool → Option Disk → List ℕ → Result ℕ SessionFault → List Range → Bool → Option Disk → Type 0
SavesItself loaded old was_stopped d bytes result new is_stopped e =
    ((result ≡ Err NoOut) × (new ≡ old) × (is_stopped ≡ was_stopped) × (e ≡ d))
    ⊎ ((attempt : Attempt) × (result ≡ answer_of attempt (length bytes)) × Stops was_stopped attempt is_stopped × Tries loaded old d bytes attempt new e)

-- ---- both

-- what a save of these bytes tells, and what it does to the place
abbrev pub IsSaved : Place → List ℕ → Result ℕ SessionFault → Place → Type 0
IsSaved (Elsewhere old) bytes result (Elsewhere new) = SavesElsewhere old bytes result new
IsSaved (Elsewhere old) bytes result (Itself again written is_stopped e) = ⊥
IsSaved (Itself loaded written was_stopped d) bytes result (Elsewhere new) = ⊥
IsSaved (Itself loaded written was_stopped d) bytes result (Itself again more is_stopped e) = (again ≡ loaded) × SavesItself loaded written was_stopped d bytes result more is_stopped e
