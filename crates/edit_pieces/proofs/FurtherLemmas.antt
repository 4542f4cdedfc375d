-- A repair behind an earlier one makes the volume's bytes.
use Rattle.std.proofs.Common.{◌≡◌, ℕ, List, [], ◌∷◌, ◌++◌, length, map, take, drop, refl, sym, ap, ap₂, subst, ◌∙◌, arith}
use Rattle.std.specs.List.{AllByRecursion}
use Rattle.std.proofs.lemmas.List.{length-take, length-drop}
use Rattle.journal_codes.specs.Codes.{Span}
use Rattle.journal_codes.specs.declared.heads.Head.{Head}
use Rattle.journal_save.specs.Disk.{Range, laid_all, IsSame}
use Rattle.journal_save.specs.Saving.{ranges}
use Rattle.journal_save.proofs.Laid.{laid_all_same, laid_all-append, laid_own, laid_all_beside}
use Rattle.edit_pieces.specs.Further.{range_at, put_back, IsWithin}

-- the loaded bytes lie where the earlier pieces were written
ranges-back : (loaded : List ℕ) (hs : List Head) → AllByRecursion (IsWithin (length loaded)) hs → ranges (map (put_back loaded) hs) ≡ map range_at hs
ranges-back loaded [] within = refl
ranges-back loaded (h ∷ hs) within =
    let long : length (take h.size (drop h.place loaded)) ≡ h.size = omega (arith, within.0.inside, length-take h.size (drop h.place loaded), length-drop h.place loaded) in
    ap₂ (λ (r : Range) (rs : List Range). r ∷ rs) (ap (λ (n : ℕ). (h.place, n)) long) (ranges-back loaded hs within.1)

-- laid over the loaded bytes they change nothing
back-own : (loaded : List ℕ) (hs : List Head) → laid_all (map (put_back loaded) hs) loaded ≡ loaded
back-own loaded [] = refl
back-own loaded (h ∷ hs) = ap (λ (f : List ℕ). laid_all (map (put_back loaded) hs) f) (laid_own h.place h.size loaded) ∙ back-own loaded hs

-- laid over a file that differs only there, they give the loaded bytes
pub further-law : (loaded held : List ℕ) (hs : List Head) (pieces : List Span) → AllByRecursion (IsWithin (length loaded)) hs → IsSame (map range_at hs) loaded held
    → laid_all (map (put_back loaded) hs ++ pieces) held ≡ laid_all pieces loaded
further-law loaded held hs pieces within same =
    let back = map (put_back loaded) hs in
    let there : IsSame (ranges back) loaded held = subst (λ (rs : List Range). IsSame rs loaded held) (sym (ranges-back loaded hs within)) same in
    laid_all-append back pieces held
    ∙ ap (λ (f : List ℕ). laid_all pieces f) (laid_all_same back loaded held there ∙ back-own loaded hs)

-- where the pieces of the volume went, the file differs from the loaded one
pub written-same : (loaded bytes : List ℕ) (hs : List Head) (pieces : List Span) → map range_at hs ≡ ranges pieces → laid_all pieces loaded ≡ bytes → IsSame (map range_at hs) loaded bytes
written-same loaded bytes hs pieces where_is law =
    subst (λ (f : List ℕ). IsSame (map range_at hs) loaded f) law (subst (λ (rs : List Range). IsSame rs loaded (laid_all pieces loaded)) (sym where_is) (laid_all_beside pieces (ranges pieces) loaded (λ i free. free)))
