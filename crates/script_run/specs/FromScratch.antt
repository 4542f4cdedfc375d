-- Lines, each answered by what reading the file from scratch gives.
use Rattle.std.specs.Prelude.{◌≡◌, ℕ, Bool, List}
use Rattle.field_map.specs.Pairs.{Pairs}
use Rattle.frame_cut.specs.declared.limits.Limits.{Limits}
use Rattle.frame_cut.specs.declared.reading.Reading.{Reading}
use Rattle.frame_cut.specs.Cuts.{IsCut}
use Rattle.frame_cut.specs.Volume.{Volume, bytes_of}
use Rattle.bench_rules.specs.State.{State}
use Rattle.script_text.specs.Replies.{Printed}
use Rattle.script_run.specs.Runs.{StepsBy}

-- a file as a save writes it, and the field map in force
pub record Saved : Type 0 where
  pub file : List ℕ
  pub fields : Pairs

-- what a save at this point writes
abbrev pub saved : State → Saved
saved s = record { file = bytes_of s.volume; fields = s.fields }

-- what a load of the saved file holds: this volume, read as the first load read it and from the same place, under the field map in force
abbrev pub loaded_again : Reading → Limits → Bool → Saved → Volume → State
loaded_again reading limits on_disk s volume = record { volume = volume; fields = s.fields; reading = reading; limits = limits; on_disk = on_disk }

module _ {L : Type 0} (Step : State → L → Printed → State → Type 0) (reading : Reading) (limits : Limits) (on_disk : Bool) where
  -- a line, answered by what a load of the file that is saved before it holds, and what is saved behind it
  pub record ScratchStep (old : Saved) (line : L) (printed : Printed) (new : Saved) : Type 0 where
    pub volume : Volume
    pub cut : IsCut old.file reading limits volume
    pub end : State
    pub step : Step (loaded_again reading limits on_disk old volume) line printed end
    pub new_is : new ≡ saved end

  -- the lines one after another, each answered so
  abbrev pub ScratchSteps : Saved → List L → List Printed → Saved → Type 0
  ScratchSteps old lines printed new = StepsBy ScratchStep old lines printed new
