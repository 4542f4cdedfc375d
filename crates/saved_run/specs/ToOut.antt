-- File in, answers out, and what stands under OUT.
use Rattle.std.specs.Prelude.{ℕ, Bool, List, Option}
use Rattle.frame_cut.specs.Volume.{bytes_of}
use Rattle.bench_rules.specs.State.{State}
use Rattle.safe_save.specs.Disk.{Disk}
use Rattle.safe_save.specs.Saving.{Known, Stored, IsStored, IsNeverElse}
use Rattle.line_texts.specs.Devices.{Device}
use Rattle.script_text.specs.declared.run_end.RunEnd.{RunEnd}
use Rattle.script_run.specs.declared.options.Options.{Options}
use Rattle.script_run.specs.Causes.{Failures}
use Rattle.script_run.specs.Ends.{Devices, devices, Runs, RunsThrough}
use Rattle.run_ending.specs.Standing.{FitsRun, StandsAs, TellsCause, is_whole}
use Rattle.run_ending.specs.declared.out_end.OutEnd.{OutEnd}

-- the writer of a save that holds these bytes, none of whose writes has failures yet
abbrev pub writer_of : Option (List ℕ) → Device
writer_of bytes = record { bytes = bytes; failures = 0 }

-- the save of a run ended so, after the run gave its writer these bytes
pub record EndsOut (options : Options) (mode : Option ℕ) (bytes : Option (List ℕ)) (end : RunEnd) (ended : OutEnd) (disk : Option Disk) : Type 0 where
  pub fits : FitsRun options.save end ended
  pub stands : Stored bytes disk (StandsAs ended mode)
  pub cause : Stored bytes disk (λ _. TellsCause (is_whole options.save end) ended)
  pub any_moment : Stored bytes disk (IsNeverElse mode)

-- a run, from its readers and writers and the counts of refused growths and failures reads before it to those at its end, and then the end of its save: under
-- OUT stands what its end says of the bytes that the run gave the writer of the save
pub record RunsToOut (on_disk : Bool) (options : Options) (mode : Option ℕ) (old : Devices) (reader script answers : Device) (failures : Failures) (end : RunEnd) (ended : OutEnd) (disk : Option Disk) : Type 0 where
  pub out : Device
  pub runs : Runs on_disk options old (devices reader script answers out failures) end
  pub ends : EndsOut options mode out.bytes end ended disk

-- the file was loaded, all lines of the script were run and what they print is written, and OUT, where what it leads to is known, is the file of what
-- is held behind them: all its bytes, with this mode, and so after each crash from then on
pub record HoldsAll (on_disk : Bool) (options : Options) (mode : Option ℕ) (old : Devices) (reader script answers : Device) (failures : Failures) (disk : Option Disk) : Type 0 where
  pub refused : ℕ
  pub end : State
  pub out : Device
  pub lines : RunsThrough on_disk options old (devices reader script answers out failures) refused end
  pub stands : Known disk (IsStored mode (bytes_of end.volume))
