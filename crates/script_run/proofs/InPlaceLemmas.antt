-- The ends of a run behind which FILE itself is repaired.
use Rattle.std.proofs.Common.{◌≡◌, refl, Bool, true, false, ℕ, List, Ok, Err, sym, subst, inl, inr}
use Rattle.std.specs.Prelude.{Option}
use Rattle.frame_cut.specs.declared.load_fault.LoadFault.{LoadFault}
use Rattle.bench_rules.specs.State.{State}
use Rattle.journal_codes.specs.Codes.{Span}
use Rattle.journal_save.specs.Disk.{Disk, Over, Known, laid_all, IsDurable}
use Rattle.journal_save.specs.Saving.{AsItWasOr, IsEither, IsRefused, IsSettled, IsSettling, LeavesOnly, StaysSettled}
use Rattle.journal_save.specs.declared.errors.SaveError.{SaveError}
use Rattle.journal_save.proofs.Moments.{over_then, over_both, over_known}
use Rattle.edit_pieces.specs.declared.repaired.Repaired.{Repaired}
use Rattle.edit_pieces.specs.declared.repaired.Repaired.TheVariants.{NotBegun}
use Rattle.script_run.specs.declared.options.Options.{Options}
use Rattle.script_text.specs.declared.run_end.RunEnd.{RunEnd}
use Rattle.script_text.specs.declared.run_end.RunEnd.TheVariants as ends
use Rattle.refusal_texts.specs.declared.script_fault.ScriptFault.{ScriptFault}
use Rattle.refusal_texts.specs.RefusalTexts.{load_refusal_line, script_refusal_line}
use Rattle.script_run.specs.Ends.{Devices, RefusesLoad, RefusesScript, IsTold}
use Rattle.script_run.specs.InPlace.{IsRepair, RunsInPlace}

-- what is said of a run over a volume in memory
pub in_memory : (options : Options) (old new : Devices) (end : RunEnd) (repaired : Repaired) (d e : Option Disk) (start : State) → start.on_disk ≡ false
    → RunsInPlace start.on_disk options old new end repaired d e → RunsInPlace false options old new end repaired d e
in_memory options old new end repaired d e start memory runs = subst (λ (b : Bool). RunsInPlace b options old new end repaired d e) memory runs

-- and of one on disk
pub on_disk : (options : Options) (old new : Devices) (end : RunEnd) (repaired : Repaired) (d e : Option Disk) (start : State) → start.on_disk ≡ true
    → RunsInPlace start.on_disk options old new end repaired d e → RunsInPlace true options old new end repaired d e
on_disk options old new end repaired d e start disk runs = subst (λ (b : Bool). RunsInPlace b options old new end repaired d e) disk runs

pub load_end_in_place : (on_disk : Bool) (options : Options) (old new : Devices) (fault : LoadFault) (result : RunEnd) (d : Option Disk) → RefusesLoad options old new fault
    → IsTold old.answers new.answers (load_refusal_line fault) (ends.Load fault) result → RunsInPlace on_disk options old new result NotBegun d d
load_end_in_place on_disk options old new fault result d refuses (inl told) = subst (λ r. RunsInPlace on_disk options old new r NotBegun d d) (sym told.0) ((refuses, told.1), refl, refl)
load_end_in_place on_disk options old new fault result d refuses (inr (written, is, part)) = subst (λ r. RunsInPlace on_disk options old new r NotBegun d d) (sym is) (inl (fault, refuses, part), refl, refl)

pub script_end_in_place : (on_disk : Bool) (options : Options) (old new : Devices) (fault : ScriptFault) (result : RunEnd) (d : Option Disk) → RefusesScript on_disk options old new fault
    → IsTold old.answers new.answers (script_refusal_line fault) (ends.Script fault) result → RunsInPlace on_disk options old new result NotBegun d d
script_end_in_place on_disk options old new fault result d refuses (inl told) = subst (λ r. RunsInPlace on_disk options old new r NotBegun d d) (sym told.0) ((refuses, told.1), refl, refl)
script_end_in_place on_disk options old new fault result d refuses (inr (written, is, part)) = subst (λ r. RunsInPlace on_disk options old new r NotBegun d d) (sym is) (inr (inl (fault, refuses, part)), refl, refl)

-- a save may begin
pub may_begin : (a b : Option Disk) → Over IsSettling a b → Known b (λ d. IsSettled d.now)
may_begin a b settling = over_known IsSettling (λ d. IsSettled d.now) a b settling (λ d e s. s.settled)

-- the moments of a save of these pieces
abbrev AnyMoment : List Span → Disk → Disk → Type 0
AnyMoment pieces d e = AsItWasOr (λ s f. LeavesOnly (IsEither s.now.file (laid_all pieces s.now.file)) s f) d e

-- how it ended well
abbrev IsDone : List Span → Disk → Disk → Type 0
IsDone pieces d e = IsDurable (laid_all pieces d.now.file) e.now

module _ (old new : List ℕ) (pieces : List Span) (make : laid_all pieces old ≡ new) (a b z : Option Disk) (settling : Over IsSettling a b) (still : Over StaysSettled a b)
    (moment : Over (AnyMoment pieces) b z) where
  pub saved : Over (IsDone pieces) b z → Over (IsRepair old new (Ok tt)) a z
  saved done = over_then a b z (over_both IsSettling StaysSettled a b settling still) (over_both (IsDone pieces) (AnyMoment pieces) b z done moment)
      (λ d e f s t. record { pieces = pieces; make = make; settled = e; settling = s.0; still = s.1; ended = t.0; any_moment = t.1 })

  pub refused : (error : SaveError) → Over (IsRefused error pieces) b z → Over (IsRepair old new (Err error)) a z
  refused error done = over_then a b z (over_both IsSettling StaysSettled a b settling still) (over_both (IsRefused error pieces) (AnyMoment pieces) b z done moment)
      (λ d e f s t. record { pieces = pieces; make = make; settled = e; settling = s.0; still = s.1; ended = t.0; any_moment = t.1 })
