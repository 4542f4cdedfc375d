-- A save that is told as done has all bytes of what was held.
use Rattle.std.proofs.Common.{◌≡◌, refl, sym, ◌∙◌, ap, subst, ℕ, Bool, true, false, List, [], ◌++◌, Option, Some, None, Result, Ok, Err}
use Rattle.std.specs.Prelude.{IfOk}
use Rattle.std.specs.Io.KnownBytes.{Appends}
use Rattle.frame_cut.specs.Volume.{bytes_of}
use Rattle.safe_save.specs.Disk.{Disk}
use Rattle.safe_save.specs.Saving.{Known, Stored, IsStored}
use Rattle.line_texts.specs.Devices.{Device}
use Rattle.script_text.specs.declared.run_end.RunEnd.{RunEnd}
use Rattle.script_text.specs.declared.run_end.RunEnd.TheVariants as ends
use Rattle.script_run.specs.declared.options.Options.{Options}
use Rattle.script_run.specs.Causes.{Failures}
use Rattle.script_run.specs.Ends.{Devices, devices, SavesIf}
use Rattle.run_ending.specs.Standing.{StandsAs}
use Rattle.run_ending.specs.declared.out_end.OutEnd.{OutEnd}
use Rattle.run_ending.specs.declared.out_end.OutEnd.TheVariants.{Saved}
use Rattle.saved_run.specs.ToOut.{RunsToOut, HoldsAll}

-- a writer that had no bytes has those that it was given
given : (old new : Option (List ℕ)) (bytes : List ℕ) → old ≡ Some [] → Appends old new bytes → new ≡ Some bytes
given None new bytes e a = cc
given (Some xs) None bytes e a = absurd a
given (Some xs) (Some ys) bytes e a = let none : xs ≡ [] = cc in ap Some (a ∙ ap (λ (l : List ℕ). l ++ bytes) none)

-- where a save is asked for it has all bytes of what was held
all : (asked : Bool) (old new : Device) (bytes : List ℕ) → asked ≡ true → old.bytes ≡ Some [] → SavesIf asked old new bytes → new.bytes ≡ Some bytes
all true old new bytes is empty takes = given old.bytes new.bytes bytes empty takes.bytes
all false old new bytes is empty same = let no : false ≡ true = is in absurd cc

-- and these are what stands under OUT
placed : (given_bytes : Option (List ℕ)) (bytes : List ℕ) (mode : Option ℕ) (disk : Option Disk) → given_bytes ≡ Some bytes → Stored given_bytes disk (StandsAs Saved mode) → Known disk (IsStored mode bytes)
placed given_bytes bytes mode disk is stands = subst (λ (o : Option (List ℕ)). Stored o disk (StandsAs Saved mode)) is stands

pub held : (on_disk : Bool) (options : Options) (mode : Option ℕ) (old : Devices) (reader script answers : Device) (failures : Failures) (end : RunEnd) (ended : OutEnd) (disk : Option Disk)
    → old.out.bytes ≡ Some [] → ended ≡ Saved → RunsToOut on_disk options mode old reader script answers failures end ended disk → HoldsAll on_disk options mode old reader script answers failures disk
held on_disk options mode old reader script answers failures end ended disk empty done r = by end (subst (λ (e : OutEnd). RunsToOut on_disk options mode old reader script answers failures end e disk) done r)
  where
    by : (end : RunEnd) → RunsToOut on_disk options mode old reader script answers failures end Saved disk → HoldsAll on_disk options mode old reader script answers failures disk
    by (ends.Done refused) r = record {
      refused = refused;
      end = r.runs.0;
      out = r.out;
      lines = r.runs.1;
      stands = placed r.out.bytes (bytes_of r.runs.0.volume) mode disk (all options.save old.out r.out (bytes_of r.runs.0.volume) r.ends.fits empty r.runs.2) r.ends.stands;
    }
    by (ends.Stopped line) r = let no : false ≡ true = r.ends.fits in absurd cc
    by (ends.Load fault) r = let no : false ≡ true = r.ends.fits in absurd cc
    by (ends.Script fault) r = let no : false ≡ true = r.ends.fits in absurd cc
    by (ends.Answers written) r = let no : false ≡ true = r.ends.fits in absurd cc
    by (ends.Save fault) r = let no : false ≡ true = r.ends.fits in absurd cc
    by (ends.SaveAtEnd refused) r = let no : false ≡ true = r.ends.fits in absurd cc

-- what follows of a success
pub on_ok : {T E : Type 0} (r : Result T E) (P Q : T → Type 0) → ((v : T) → P v → Q v) → IfOk r P → IfOk r Q
on_ok (Ok v) P Q follows p = follows v p
on_ok (Err e) P Q follows p = tt
