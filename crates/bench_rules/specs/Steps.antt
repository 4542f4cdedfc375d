-- Edits one after another, and what each is answered.
use Rattle.std.specs.Prelude.{◌≡◌, ◌⊎◌, ◌<◌, ℕ, List, [], ◌∷◌, Option, Some, None, Result, Ok, Err}
use Rattle.frame_cut.specs.Cuts.{IsCut}
use Rattle.bench_rules.specs.declared.edit.Edit.{Edit}
use Rattle.bench_rules.specs.declared.edit.Edit.TheVariants.{Set, SetBin, Declare, DropTail, SetText, Map, MapAs, Unmap, Patch, Blank, Copy, Delete, Move, MoveBlock, Resize, Renumber, Compute, Sort, OfChosen}
use Rattle.bench_rules.specs.declared.refusal.Refusal.{Refusal}
use Rattle.bench_rules.specs.declared.refusal.Refusal.TheVariants.{OutOfMemory}
use Rattle.bench_rules.specs.After.{bytes_after, fields_after}
use Rattle.bench_rules.specs.ChosenEdits.{count_told}
use Rattle.bench_rules.specs.Looks.{edit_looks}
use Rattle.bench_rules.specs.ReadFaults.{IsReadRefusal}
use Rattle.bench_rules.specs.RangeRefusals.{range_refusal}
use Rattle.bench_rules.specs.Refused.{first_refusal}
use Rattle.bench_rules.specs.State.{State}

-- whether an edit may be refused for want of memory
abbrev pub TakesMemory : Edit → Type 0
TakesMemory (Set p field x) = Unit {0}
TakesMemory (SetBin field x) = ⊥
TakesMemory Declare = ⊥
TakesMemory DropTail = ⊥
TakesMemory (SetText q text) = ⊥
TakesMemory (Map name field) = Unit {0}
TakesMemory (MapAs mapping) = Unit {0}
TakesMemory (Unmap name) = ⊥
TakesMemory (Patch p k values) = Unit {0}
TakesMemory (Blank p) = Unit {0}
TakesMemory (Copy q p) = Unit {0}
TakesMemory (Delete p) = ⊥
TakesMemory (Move a b) = Unit {0}
TakesMemory (MoveBlock a b to) = Unit {0}
TakesMemory (Resize p m) = Unit {0}
TakesMemory (Renumber a b field first step) = Unit {0}
TakesMemory (Compute a b field source steps) = Unit {0}
TakesMemory (Sort a b names falls) = Unit {0}
TakesMemory (OfChosen c edit) = Unit {0}

-- the new volume is the cut of the bytes after the edit, with the field map after it
pub record IsAfter (old : State) (edit : Edit) (new : State) : Type 0 where
  pub volume : IsCut (bytes_after old edit) old.reading old.limits new.volume
  pub fields : new.fields ≡ fields_after old.fields edit
  pub reading : new.reading ≡ old.reading
  pub limits : new.limits ≡ old.limits
  pub on_disk : new.on_disk ≡ old.on_disk

-- an edit that looks at traces may be told of a read that failed
abbrev pub FailsToRead : State → Edit → Refusal → Type 0
FailsToRead s edit r = (0 < edit_looks s edit) × IsReadRefusal s.on_disk r

-- what an edit is told that meets this refusal. One of chosen traces has to hold them before it can judge them: unless their range is
-- refused, it may be told of want of memory first
abbrev pub IsTold : State → Edit → Refusal → Refusal → Type 0
IsTold s (OfChosen c edit) refusal r = (r ≡ refusal) ⊎ ((r ≡ OutOfMemory) × (range_refusal s.volume c.traces ≡ None))
IsTold s edit refusal r = r ≡ refusal

-- an edit that meets a refusal changes nothing; else it is done, or refused for want of memory and changes nothing; or a
-- read of traces on disk failed, and nothing is changed
abbrev pub StepUnless : {T : Type 0} → Option Refusal → State → Edit → Result T Refusal → State → Type 0
StepUnless (Some refusal) old edit (Ok done) new = ⊥
StepUnless (Some refusal) old edit (Err r) new = (IsTold old edit refusal r ⊎ FailsToRead old edit r) × (new ≡ old)
StepUnless None old edit (Ok done) new = IsAfter old edit new
StepUnless None old edit (Err r) new = (((r ≡ OutOfMemory) × TakesMemory edit) ⊎ FailsToRead old edit r) × (new ≡ old)

-- one edit with its reply
abbrev pub Step : {T : Type 0} → State → Edit → Result T Refusal → State → Type 0
Step old edit reply new = StepUnless (first_refusal old edit) old edit reply new

-- one step for each edit, with one reply
abbrev pub Steps : {T : Type 0} → State → List Edit → List (Result T Refusal) → State → Type 0
Steps old [] [] new = new ≡ old
Steps old [] (reply ∷ replies) new = ⊥
Steps old (edit ∷ edits) [] new = ⊥
Steps old (edit ∷ edits) (reply ∷ replies) new =
    (mid : State) × Step old edit reply mid × Steps mid edits replies new

-- how many traces an edit that is done tells that it was of: one of chosen traces under conditions alone does
abbrev pub told_of : State → Edit → Option ℕ
told_of s (OfChosen c edit) = count_told s.volume s.fields c
told_of s edit = None
