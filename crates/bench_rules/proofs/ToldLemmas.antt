-- What an edit is told that meets a refusal: the refusal, or for one of chosen traces want of memory.
use Rattle.std.proofs.Common.{◌≡◌, ◌⊎◌, inl, inr}
use Rattle.bench_rules.specs.declared.edit.Edit.{Edit}
use Rattle.bench_rules.specs.declared.edit.Edit.TheVariants as edits
use Rattle.bench_rules.specs.declared.refusal.Refusal.{Refusal}
use Rattle.bench_rules.specs.declared.refusal.Refusal.TheVariants.{OutOfMemory}
use Rattle.bench_rules.specs.State.{State}
use Rattle.bench_rules.specs.Steps.{IsTold}

pub is_told : (s : State) (edit : Edit) (refusal r : Refusal) → r ≡ refusal → IsTold s edit refusal r
is_told s (edits.Set p f x) refusal r is = is
is_told s (edits.SetBin f x) refusal r is = is
is_told s edits.Declare refusal r is = is
is_told s edits.DropTail refusal r is = is
is_told s (edits.SetText q text) refusal r is = is
is_told s (edits.Map name f) refusal r is = is
is_told s (edits.MapAs mapping) refusal r is = is
is_told s (edits.Unmap name) refusal r is = is
is_told s (edits.Patch p k xs) refusal r is = is
is_told s (edits.Blank p) refusal r is = is
is_told s (edits.Copy q p) refusal r is = is
is_told s (edits.Delete p) refusal r is = is
is_told s (edits.Move a b) refusal r is = is
is_told s (edits.MoveBlock a b to) refusal r is = is
is_told s (edits.Resize p m) refusal r is = is
is_told s (edits.Renumber a b f first step) refusal r is = is
is_told s (edits.Compute a b f source steps) refusal r is = is
is_told s (edits.Sort a b fs falls) refusal r is = is
is_told s (edits.OfChosen c edit) refusal r is = inl is

pub told_is : (s : State) (edit : Edit) (refusal r : Refusal) → IsTold s edit refusal r → (r ≡ refusal) ⊎ (r ≡ OutOfMemory)
told_is s (edits.Set p f x) refusal r is = inl is
told_is s (edits.SetBin f x) refusal r is = inl is
told_is s edits.Declare refusal r is = inl is
told_is s edits.DropTail refusal r is = inl is
told_is s (edits.SetText q text) refusal r is = inl is
told_is s (edits.Map name f) refusal r is = inl is
told_is s (edits.MapAs mapping) refusal r is = inl is
told_is s (edits.Unmap name) refusal r is = inl is
told_is s (edits.Patch p k xs) refusal r is = inl is
told_is s (edits.Blank p) refusal r is = inl is
told_is s (edits.Copy q p) refusal r is = inl is
told_is s (edits.Delete p) refusal r is = inl is
told_is s (edits.Move a b) refusal r is = inl is
told_is s (edits.MoveBlock a b to) refusal r is = inl is
told_is s (edits.Resize p m) refusal r is = inl is
told_is s (edits.Renumber a b f first step) refusal r is = inl is
told_is s (edits.Compute a b f source steps) refusal r is = inl is
told_is s (edits.Sort a b fs falls) refusal r is = inl is
told_is s (edits.OfChosen c edit) refusal r (inl is) = inl is
told_is s (edits.OfChosen c edit) refusal r (inr want) = inr want.0
