-- How a run ends, and what the readers and writers told.
use Rattle.std.specs.Prelude.{◌≡◌, ◌⊎◌, ◌<◌, ℕ, ◌+◌, MatchOption, Bool, true, false, IsTrue, List, [], ◌∷◌, ◌++◌, length, take}
use Rattle.frame_cut.specs.declared.load_fault.LoadFault.{LoadFault}
use Rattle.frame_cut.specs.declared.load_fault.LoadFault.TheVariants as load_faults
use Rattle.std.specs.Io.KnownBytes.{Appends}
use Rattle.room.specs.Refusals.{WasRefused}
use Rattle.edit_overlay.specs.declared.save_fault.SaveFault.{SaveFault}
use Rattle.frame_cut.specs.Cuts.{IsCut}
use Rattle.frame_cut.specs.Volume.{bytes_of}
use Rattle.bench_rules.specs.State.{State}
use Rattle.script_run.specs.declared.options.Options.{Options}
use Rattle.script_text.specs.declared.run_end.RunEnd.{RunEnd}
use Rattle.script_text.specs.declared.run_end.RunEnd.TheVariants as ends
use Rattle.refusal_texts.specs.declared.script_fault.ScriptFault.{ScriptFault}
use Rattle.refusal_texts.specs.declared.script_fault.ScriptFault.TheVariants as script_faults
use Rattle.line_texts.specs.Devices.{Device, Takes, TakesPart, count_in_64_bits}
use Rattle.script_run.specs.Loading.{Loads, IsLoadRefused, ReadsScript, IsScriptRefused}
use Rattle.refusal_texts.specs.RefusalTexts.{load_refusal_line, script_refusal_line}
use Rattle.script_words.specs.Words.{script_lines}
use Rattle.script_run.specs.Causes.{Causes, Failures, ReadComesOf, any_cause, causes_in}
use Rattle.script_run.specs.FromScratch.{ScratchSteps, saved}
use Rattle.script_run.specs.Runs.{LineStep, RunsWhole, StopsAt, BreaksOff}

-- the readers of the volume and of the script, the writers of the answers and of the saved volume, and how often a growth was refused and a read of the loaded
-- bytes failed
pub record Devices : Type 0 where
  pub reader : Device
  pub script : Device
  pub answers : Device
  pub out : Device
  pub failures : Failures

-- the four devices of a run, and these counts
abbrev pub devices : Device → Device → Device → Device → Failures → Devices
devices reader script answers out failures = record { reader = reader; script = script; answers = answers; out = out; failures = failures }

-- the volume is loaded, then the script is read whole
pub record Begins (on_disk : Bool) (options : Options) (old new : Devices) (start : State) (script : List ℕ) : Type 0 where
  pub loaded : Loads old.reader new.reader options.reading options.limits on_disk start
  pub read : ReadsScript old.script new.script script

-- the volume is refused, with L16 only where a growth was refused: the script is not read, and nothing is saved
pub record RefusesLoad (options : Options) (old new : Devices) (fault : LoadFault) : Type 0 where
  pub refused : IsLoadRefused old.reader new.reader options.reading options.limits fault
  pub unread : new.script ≡ old.script
  pub unsaved : new.out ≡ old.out
  pub memory : fault ≡ load_faults.OutOfMemory → WasRefused old.failures.growths new.failures.growths

-- the volume is loaded and the script refused, with P03 only where a growth was refused: nothing is saved
pub record RefusesScript (on_disk : Bool) (options : Options) (old new : Devices) (fault : ScriptFault) : Type 0 where
  pub start : State
  pub loaded : Loads old.reader new.reader options.reading options.limits on_disk start
  pub refused : IsScriptRefused old.script new.script fault
  pub unsaved : new.out ≡ old.out
  pub memory : fault ≡ script_faults.OutOfMemory → WasRefused old.failures.growths new.failures.growths

-- all lines are run, with so many refused, E11 only where a growth was refused, E14 only where a read failed, and never E15, and the writer of the answers
-- takes what they print; what is held then is the cut of its own bytes, so that the file which a save writes is accepted, and loaded as what is held
pub record RunsThrough (on_disk : Bool) (options : Options) (old new : Devices) (refused : ℕ) (end : State) : Type 0 where
  pub start : State
  pub script : List ℕ
  pub text : List ℕ
  pub begins : Begins on_disk options old new start script
  pub lines : RunsWhole (causes_in on_disk old.failures new.failures) start script options.stop text refused end
  pub from_scratch : ScratchSteps (LineStep any_cause) options.reading options.limits on_disk (saved start) (script_lines script) lines.printed (saved end)
  pub cut : IsCut (bytes_of end.volume) options.reading options.limits end.volume
  pub printed : Takes old.answers new.answers text

-- the lines are run up to the first that is refused; nothing is saved
pub record Stops (on_disk : Bool) (options : Options) (old new : Devices) (line : ℕ) : Type 0 where
  pub start : State
  pub end : State
  pub script : List ℕ
  pub text : List ℕ
  pub begins : Begins on_disk options old new start script
  pub asked : IsTrue options.stop
  pub lines : StopsAt (causes_in on_disk old.failures new.failures) start script line text end
  pub from_scratch : ScratchSteps (LineStep any_cause) options.reading options.limits on_disk (saved start) (take line (script_lines script)) (lines.before ++ lines.last ∷ []) (saved end)
  pub printed : Takes old.answers new.answers text
  pub unsaved : new.out ≡ old.out

-- the lines are run up to one whose answer is not written whole; of all that is printed the writer takes so many bytes;
-- nothing is saved
pub record LosesAnswer (on_disk : Bool) (options : Options) (old new : Devices) (taken : ℕ) : Type 0 where
  pub start : State
  pub end : State
  pub script : List ℕ
  pub text : List ℕ
  pub begins : Begins on_disk options old new start script
  pub lines : BreaksOff (causes_in on_disk old.failures new.failures) start script options.stop taken text end
  pub from_scratch : ScratchSteps (LineStep any_cause) options.reading options.limits on_disk (saved start) (take (length lines.before + 1) (script_lines script)) (lines.before ++ lines.last ∷ []) (saved end)
  pub printed : TakesPart old.answers new.answers text taken
  pub unsaved : new.out ≡ old.out

-- a writer takes the first bytes of a text, not all, and no write fails
pub record TakesFirst (old new : Device) (text : List ℕ) (written : ℕ) : Type 0 where
  pub bytes : Appends old.bytes new.bytes (take written text)
  pub short : written < length text
  pub failures : new.failures ≡ old.failures

-- a save that failed: the writer took the first of the volume's bytes, and then a write failed, or on disk, for these causes alone, a read of the loaded bytes
abbrev pub SavesPart : Causes → Bool → Device → Device → List ℕ → SaveFault → Type 0
SavesPart why on_disk old new bytes fault =
    MatchOption fault.read (TakesPart old new bytes fault.written) (λ read. IsTrue on_disk × ReadComesOf why read × TakesFirst old new bytes fault.written)

-- where it is asked for, the writer takes the volume's bytes; else nothing is saved
abbrev pub SavesIf : Bool → Device → Device → List ℕ → Type 0
SavesIf true old new bytes = Takes old new bytes
SavesIf false old new bytes = new ≡ old

-- the line of a refusal is written and this is the end, or it is written in part
abbrev pub IsTold : Device → Device → List ℕ → RunEnd → RunEnd → Type 0
IsTold old new line end result =
    ((result ≡ end) × Takes old new line) ⊎ ((written : ℕ) × (result ≡ ends.Answers written) × TakesPart old new line written)

-- the readers and writers from before a run to its end, where the bytes of the volume are in memory or stay on disk
abbrev pub Runs : Bool → Options → Devices → Devices → RunEnd → Type 0
Runs on_disk options old new (ends.Done refused) =
    (end : State) × RunsThrough on_disk options old new refused end × SavesIf options.save old.out new.out (bytes_of end.volume)
Runs on_disk options old new (ends.Stopped line) = Stops on_disk options old new line
Runs on_disk options old new (ends.Load fault) = RefusesLoad options old new fault × Takes old.answers new.answers (load_refusal_line fault)
Runs on_disk options old new (ends.Script fault) = RefusesScript on_disk options old new fault × Takes old.answers new.answers (script_refusal_line fault)
Runs on_disk options old new (ends.Answers written) =
    ((fault : LoadFault) × RefusesLoad options old new fault × TakesPart old.answers new.answers (load_refusal_line fault) written)
    ⊎ ((fault : ScriptFault) × RefusesScript on_disk options old new fault × TakesPart old.answers new.answers (script_refusal_line fault) written)
    ⊎ ((taken : ℕ) × (written ≡ count_in_64_bits taken) × LosesAnswer on_disk options old new taken)
Runs on_disk options old new (ends.SaveAtEnd refused) = ⊥
Runs on_disk options old new (ends.Save fault) =
    (refused : ℕ) × (end : State) × RunsThrough on_disk options old new refused end × IsTrue options.save
    × SavesPart (causes_in on_disk old.failures new.failures) on_disk old.out new.out (bytes_of end.volume) fault
