-- What a save does to a writer.
use Rattle.std.specs.Prelude.{ℕ, ◌≡◌, ◌<◌, List, ◌++◌, length, take, slice_range, Option, Some, None, Result, IsTrue, MatchOption, MatchResult}
use Rattle.device_io.specs.Failures.{one_more}
use Rattle.std.specs.Io.KnownBytes.{Appends}
use Rattle.base_file.specs.HeldBytes.{HeldBytes}
use Rattle.base_file.specs.declared.read_fault.ReadFault.{ReadFault}
use Rattle.edit_overlay.specs.Reads.{IsFaultOfLook}
use Rattle.edit_overlay.specs.Standings.{is_on_disk, reads_in}
use Rattle.edit_overlay.specs.declared.save_fault.SaveFault.{SaveFault}
use Rattle.edit_overlay.specs.declared.waiting.Waiting.{Waiting}

-- the writer's bytes grow by all these, or by exactly the prefix that the fault names, which is not all
abbrev pub Saves : {T : Type 0} → Option (List ℕ) → Option (List ℕ) → List ℕ → Result T SaveFault → Type 0
Saves old new bytes result =
    MatchResult result (λ _. Appends old new bytes) (λ fault. Appends old new (take fault.written bytes) × (fault.written < length bytes))

-- a save counts a failure of the writer where the writer failed, and none where all went well or the loaded bytes could
-- not be read
abbrev pub CountsSaveFailure : {T : Type 0} → Result T SaveFault → ℕ → ℕ → Type 0
CountsSaveFailure result old new = MatchResult result (λ _. new ≡ old) (λ fault. MatchOption fault.read (new ≡ one_more old) (λ _. new ≡ old))

-- the loaded bytes could not be read, for this reason: they are on disk, and a read failed meanwhile or they have changed; or
-- there is none
abbrev pub IsUnread : (before now : HeldBytes) → Option ReadFault → Type 0
IsUnread before now None = Unit {0}
IsUnread before now (Some fault) = IsTrue (is_on_disk before.standing) × IsFaultOfLook (reads_in before) (reads_in now) fault

-- how far a save has come: how many bytes the writer took, and bytes that wait to be written
pub record Progress : Type 0 where
  pub written : ℕ
  pub waits : List ℕ

-- how far it has come where a range of the loaded bytes waits
abbrev pub progress : List ℕ → Waiting → Progress
progress loaded w = record { written = w.written; waits = slice_range loaded w.from w.to }

-- since it had these bytes the writer took some, and with those that wait they are all of these
pub record HasCome (start now : Option (List ℕ)) (at : Progress) (all : List ℕ) : Type 0 where
  pub taken : List ℕ
  pub appended : Appends start now taken
  pub joined : taken ++ at.waits ≡ all
  pub counted : at.written ≡ length taken

-- a save that has come to some bytes comes to these behind them too, or stops at a prefix that the fault names
abbrev pub GoesOn : {T : Type 0} → Option (List ℕ) → Option (List ℕ) → Progress → Progress → List ℕ → Result T SaveFault → Type 0
GoesOn old new from to bytes result = (start : Option (List ℕ)) (all : List ℕ) → HasCome start old from all
    → MatchResult result (λ _. HasCome start new to (all ++ bytes)) (λ fault. Appends start new (take fault.written (all ++ bytes)) × (fault.written < length (all ++ bytes)))
