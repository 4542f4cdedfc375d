-- The saves of a session that repair FILE itself.
use Rattle.std.proofs.Common.{◌≡◌, ℕ, Bool, true, false, List, [], ◌∷◌, length, map, Result, Ok, Err, IfOk, refl, sym, ap, subst, ◌∙◌, inl, inr, arith}
use Rattle.std.specs.Prelude.{Option}
use Rattle.journal_codes.specs.Codes.{Span}
use Rattle.journal_codes.specs.declared.heads.Head.{Head}
use Rattle.journal_save.specs.Disk.{Range, Disk, laid_all, IsSame}
use Rattle.journal_save.specs.Saving.{ranges}
use Rattle.journal_save.proofs.Laid.{same_all}
use Rattle.edit_pieces.specs.Further.{range_at}
use Rattle.edit_pieces.specs.declared.attempt.Attempt.{Attempt}
use Rattle.edit_pieces.specs.declared.attempt.Attempt.TheVariants.{Ended}
use Rattle.edit_pieces.specs.declared.repaired.Repaired.{Repaired}
use Rattle.edit_pieces.specs.declared.repaired.Repaired.TheVariants.{NotBegun, Saved, Unfit, Unsettled, Failed}
use Rattle.edit_pieces.proofs.FurtherLemmas.{written-same}
use Rattle.script_run.specs.InPlace.{ComesOfFailure, IsCauseOf, Repairs}
use Rattle.script_run.specs.Places.{is_written, Repairing, Tries, WritesAt}

pub if_ok_map : {A E : Type 0} (P Q : A → Type 0) (r : Result A E) → IfOk r P → ((x : A) → P x → Q x) → IfOk r Q
if_ok_map P Q (Ok x) p f = f x p
if_ok_map P Q (Err e) p f = p

-- a walk over the pieces of a volume does not fail
pub cause_of : (r : Repaired) (failed : Bool) → IsCauseOf r failed false → ComesOfFailure r failed
cause_of NotBegun failed c = c
cause_of Saved failed c = c
cause_of (Unfit why) failed c = c
cause_of (Unsettled error) failed c = c
cause_of (Failed error) failed (inl disk) = disk
cause_of (Failed error) failed (inr edits) = cc

-- the law of the pieces, of the bytes and the volume that it is asked of
pub law_of : (pieces : List Span) (base loaded made bytes : List ℕ) → base ≡ loaded → made ≡ bytes → laid_all pieces base ≡ made → laid_all pieces loaded ≡ bytes
law_of pieces base loaded made bytes from to law = ap (laid_all pieces) (sym from) ∙ law ∙ to

-- a first repair, of a FILE that has the loaded bytes
pub repairs_first : (loaded : List ℕ) (heads : List Head) (all : List Span) (r : Repaired) (d e : Option Disk) → length heads ≡ 0
    → ((held : List ℕ) → Repairs true held (laid_all all held) r d e) → Repairing loaded (map range_at heads) d (laid_all all loaded) (Ended r) e
repairs_first loaded [] all r d e none repairs = λ held same.
    subst (λ (l : List ℕ). Repairs true held (laid_all all l) r d e) (same_all loaded held same) (repairs held)
repairs_first loaded (h ∷ hs) all r d e none repairs = absurd (omega (arith, none))

-- a further one
pub repairs_further : (loaded : List ℕ) (rs : List Range) (all : List Span) (made : List ℕ) (r : Repaired) (d e : Option Disk) → ((held : List ℕ) → IsSame rs loaded held → laid_all all held ≡ made)
    → ((held : List ℕ) → Repairs true held (laid_all all held) r d e) → Repairing loaded rs d made (Ended r) e
repairs_further loaded rs all made r d e law repairs = λ held same.
    subst (λ (l : List ℕ). Repairs true held l r d e) (law held same) (repairs held)

-- what was tried, of the volume's bytes
pub repairing_of : (loaded base : List ℕ) (rs : List Range) (d e : Option Disk) (all : List Span) (bytes : List ℕ) (attempt : Attempt) → base ≡ loaded → laid_all all loaded ≡ bytes
    → Repairing base rs d (laid_all all base) attempt e → Repairing loaded rs d bytes attempt e
repairing_of loaded base rs d e all bytes attempt same law tried =
    subst (λ (l : List ℕ). Repairing loaded rs d l attempt e) law (subst (λ (l : List ℕ). Repairing l rs d (laid_all all l) attempt e) same tried)

-- the same of the slice and of the walk that were lent
pub repairing_again : (loaded base : List ℕ) (written shown : List Head) (d e : Option Disk) (all given : List Span) (bytes : List ℕ) (attempt : Attempt) → base ≡ loaded → shown ≡ written → given ≡ all → laid_all all loaded ≡ bytes
    → Repairing base (map range_at shown) d (laid_all given base) attempt e → Repairing loaded (map range_at written) d bytes attempt e
repairing_again loaded base written shown d e all given bytes attempt same slice walk law tried =
    repairing_of loaded base (map range_at written) d e all bytes attempt same law
    (subst (λ (hs : List Head). Repairing base (map range_at hs) d (laid_all all base) attempt e) slice
    (subst (λ (ss : List Span). Repairing base (map range_at shown) d (laid_all ss base) attempt e) walk tried))

-- the places where it wrote are noted, where it did
pub tries_written : (loaded : List ℕ) (old : List Range) (heads : List Head) (all : List Span) (d e : Option Disk) (bytes : List ℕ) (attempt : Attempt) → is_written attempt ≡ true → map range_at heads ≡ ranges all → laid_all all loaded ≡ bytes
    → Repairing loaded old d bytes attempt e → Tries loaded old d bytes attempt (map range_at heads) e
tries_written loaded old heads all d e bytes attempt written places law tried =
    (subst (λ (b : Bool). WritesAt b loaded old bytes (map range_at heads)) (sym written) (written-same loaded bytes heads all places law), tried)

pub tries_unwritten : (loaded : List ℕ) (old : List Range) (d e : Option Disk) (bytes : List ℕ) (attempt : Attempt) → is_written attempt ≡ false
    → Repairing loaded old d bytes attempt e → Tries loaded old d bytes attempt old e
tries_unwritten loaded old d e bytes attempt written tried =
    (subst (λ (b : Bool). WritesAt b loaded old bytes old) (sym written) refl, tried)
