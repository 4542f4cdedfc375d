-- The stanzas of text blocks that are numbered.
use Rattle.std.proofs.Common.{◌≡◌, ℕ, ◌+◌, List, [], ◌∷◌, ◌++◌, drop, Some, refl, sym, ap, ◌∙◌, arith, zero, suc, append_assoc, map, String, string_bytes}
use Rattle.std.specs.Prelude.{slice_get}
use Rattle.std.specs.List.{enumerate_from}
use Rattle.std.proofs.lemmas.List.Concat.{flat_map-cons}
use Rattle.bench_rules.specs.Answer.{numbered_stanzas, stanzas_from}

-- the stanzas from a block on are its own and those behind it
pub stanzas_step : (xs : List (List ℕ)) (n i : ℕ) (x : List ℕ) → slice_get xs i ≡ Some x → stanzas_from n (drop i xs) ≡ numbered_stanzas n x ++ stanzas_from (n + 1) (drop (i + 1) xs)
stanzas_step xs n i x e = ap (stanzas_from n) (first_of xs i x e) ∙ flat_map-cons (λ b. numbered_stanzas b.0 b.1) (n, x) (enumerate_from (n + 1) (drop (i + 1) xs))
  where
    first_of : (ys : List (List ℕ)) (j : ℕ) (y : List ℕ) → slice_get ys j ≡ Some y → drop j ys ≡ y ∷ drop (j + 1) ys
    first_of [] j y h = absurd cc
    first_of (z ∷ zs) zero y h = let same : z ≡ y = cc in ap (λ (u : List ℕ). u ∷ zs) same
    first_of (z ∷ zs) (suc j) y h = let at : suc (j + 1) ≡ suc j + 1 = omega arith in first_of zs j y h ∙ ap (λ (k : ℕ). y ∷ drop k (z ∷ zs)) at

-- a name with a number
abbrev pub with_number : ℕ → List ℕ → ℕ × List ℕ
with_number n name = (n, name)

-- names as bytes, each with a number
pub numbered : {Z : Type 0} (n : ℕ) (names : List (String Z)) → map (λ name. with_number n (string_bytes name)) names ≡ map (with_number n) (map string_bytes names)
numbered n [] = refl
numbered n (name ∷ names) = ap (λ (xs : List (ℕ × List ℕ)). with_number n (string_bytes name) ∷ xs) (numbered n names)

-- one more block is listed
pub listed : (all old named : List (ℕ × List ℕ)) (xs : List (List ℕ)) (i : ℕ) (x : List ℕ) → all ≡ old ++ numbered_stanzas (i + 1) x → slice_get xs i ≡ Some x
    → old ++ stanzas_from (i + 1) (drop i xs) ≡ named → all ++ stanzas_from (i + 1 + 1) (drop (i + 1) xs) ≡ named
listed all old named xs i x is e h =
    ap (λ (s : List (ℕ × List ℕ)). s ++ stanzas_from (i + 1 + 1) (drop (i + 1) xs)) is
    ∙ append_assoc old (numbered_stanzas (i + 1) x) (stanzas_from (i + 1 + 1) (drop (i + 1) xs))
    ∙ ap (λ (s : List (ℕ × List ℕ)). old ++ s) (sym (stanzas_step xs (i + 1) i x e))
    ∙ h
