-- A run behind whose last line FILE itself is repaired.
use Rattle.std.specs.Prelude.{◌≡◌, ◌⊎◌, Bool, true, false, List, [], ℕ, Option, Result, Ok, Err, MatchResult, ⊤}
use Rattle.frame_cut.specs.Volume.{bytes_of}
use Rattle.bench_rules.specs.State.{State}
use Rattle.journal_codes.specs.Codes.{Span}
use Rattle.journal_save.specs.Disk.{Disk, Over, laid_all, IsDurable}
use Rattle.journal_save.specs.Saving.{AsItWasOr, IsEither, IsRefused, IsSettling, LeavesOnly, StaysSettled}
use Rattle.journal_save.specs.declared.errors.SaveError.{SaveError}
use Rattle.line_texts.specs.Devices.{Device}
use Rattle.script_text.specs.declared.run_end.RunEnd.{RunEnd}
use Rattle.script_text.specs.declared.run_end.RunEnd.TheVariants as ends
use Rattle.script_run.specs.declared.options.Options.{Options}
use Rattle.edit_pieces.specs.declared.repaired.Repaired.{Repaired}
use Rattle.edit_pieces.specs.declared.repaired.Repaired.TheVariants.{NotBegun, Saved, Unfit, Unsettled, Failed}
use Rattle.script_run.specs.Causes.{Failures}
use Rattle.script_run.specs.Ends.{Devices, devices, Runs, RunsThrough}
use Rattle.script_run.specs.OnDisk.{unread}

-- a repair of a FILE that held the old bytes: these pieces make the new bytes of them; all that FILE took before was put on the disk first, which
-- changes nothing where that is so already; from that moment on a crash leaves what stands for the old file or the new one, and the save ended
-- as it says
pub record IsRepair (old new : List ℕ) (result : Result (Unit {0}) SaveError) (d e : Disk) : Type 0 where
  pub pieces : List Span
  pub make : laid_all pieces old ≡ new
  pub settled : Disk
  pub settling : IsSettling d settled
  pub still : StaysSettled d settled
  pub ended : MatchResult result (λ _. IsDurable (laid_all pieces settled.now.file) e.now) (λ error. IsRefused error pieces settled e)
  pub any_moment : AsItWasOr (λ s f. LeavesOnly (IsEither s.now.file (laid_all pieces s.now.file)) s f) settled e

-- what became of FILE: it was left alone where no repair was asked for, and where the edits need a new file
abbrev pub Repairs : Bool → List ℕ → List ℕ → Repaired → Option Disk → Option Disk → Type 0
Repairs asked old new NotBegun d e = (asked ≡ false) × (e ≡ d)
Repairs asked old new Saved d e = (asked ≡ true) × Over (IsRepair old new (Ok tt)) d e
Repairs asked old new (Unfit why) d e = (asked ≡ true) × (e ≡ d)
Repairs asked old new (Unsettled error) d e = (asked ≡ true) × Over StaysSettled d e
Repairs asked old new (Failed error) d e = (asked ≡ true) × Over (IsRepair old new (Err error)) d e

-- a repair that did not come to its end says so only where a call of the disk failed
abbrev pub ComesOfFailure : Repaired → Bool → Type 0
ComesOfFailure NotBegun failed = ⊤
ComesOfFailure Saved failed = ⊤
ComesOfFailure (Unfit why) failed = ⊤
ComesOfFailure (Unsettled error) failed = failed ≡ true
ComesOfFailure (Failed error) failed = failed ≡ true

-- nor where only a walk over its pieces may have failed
abbrev pub IsCauseOf : Repaired → (disk edits : Bool) → Type 0
IsCauseOf NotBegun disk edits = ⊤
IsCauseOf Saved disk edits = ⊤
IsCauseOf (Unfit why) disk edits = ⊤
IsCauseOf (Unsettled error) disk edits = disk ≡ true
IsCauseOf (Failed error) disk edits = (disk ≡ true) ⊎ (edits ≡ true)

-- the reader of the volume, that of the script and the writer of the answers, and how often a growth was refused and a read failed; nothing else is written
abbrev pub reading_devices : Device → Device → Device → Failures → Devices
reading_devices reader script answers failures = devices reader script answers (unread []) failures

-- all lines were run: the edits make of the bytes that were loaded those that are held at the end
abbrev pub RepairsThrough : Bool → Options → Devices → Devices → (refused : ℕ) → Repaired → Option Disk → Option Disk → Type 0
RepairsThrough on_disk options old new refused repaired d e =
    (end : State) × (through : RunsThrough on_disk options old new refused end) × Repairs options.save (bytes_of through.start.volume) (bytes_of end.volume) repaired d e

-- a run that did not come to its last line repairs nothing
abbrev pub RunsInPlace : Bool → Options → Devices → Devices → RunEnd → Repaired → Option Disk → Option Disk → Type 0
RunsInPlace on_disk options old new (ends.Done refused) repaired d e = RepairsThrough on_disk options old new refused repaired d e
RunsInPlace on_disk options old new (ends.Save fault) repaired d e = ⊥
RunsInPlace on_disk options old new end repaired d e = Runs on_disk options old new end × (repaired ≡ NotBegun) × (e ≡ d)
