-- Items that are asked for one after another, as the cells of cells are.
use Rattle.std.specs.Prelude.{◌≡◌, ℕ, ℤ, ◌+◌, zero, suc, List, [], ◌∷◌, slice_get, Option, Some, None, refl}
use Rattle.std.proofs.Common.{arith, ap, sym, ◌∙◌, drop}
use Rattle.std.specs.Option.{MatchOption}

-- what is given of a list and left of it, from a place on
abbrev pub Given : List (ℤ × ℤ) → ℕ → Option (ℤ × ℤ) → List (ℤ × ℤ) → Type 0
Given cells place given left = MatchOption given ((drop place cells ≡ []) × (left ≡ [])) (λ next. drop place cells ≡ next ∷ left)

-- the first of those from a place on is the one at the place
pub given_is : (cells : List (ℤ × ℤ)) (place : ℕ) (given : Option (ℤ × ℤ)) (left : List (ℤ × ℤ)) → Given cells place given left → given ≡ slice_get cells place
given_is [] place None left told = refl
given_is [] zero (Some next) left told = absurd cc
given_is [] (suc place) (Some next) left told = absurd cc
given_is (first ∷ rest) zero None left told = let none : first ∷ rest ≡ [] = told.0 in absurd cc
given_is (first ∷ rest) zero (Some next) left told = let same : first ≡ next = cc in ap Some (sym same)
given_is (first ∷ rest) (suc place) given left told = given_is rest place given left told

-- and the others are those from the next place on
pub left_is : (cells : List (ℤ × ℤ)) (place : ℕ) (given : Option (ℤ × ℤ)) (left : List (ℤ × ℤ)) → Given cells place given left → left ≡ drop (place + 1) cells
left_is [] place None left told = let at : place + 1 ≡ suc place = omega arith in rw at told.1
left_is [] zero (Some next) left told = absurd cc
left_is [] (suc place) (Some next) left told = absurd cc
left_is (first ∷ rest) zero None left told = let none : first ∷ rest ≡ [] = told.0 in absurd cc
left_is (first ∷ rest) zero (Some next) left told = let same : rest ≡ left = cc in sym same
left_is (first ∷ rest) (suc place) given left told =
    let at : suc (place + 1) ≡ suc place + 1 = omega arith in
    left_is rest place given left told ∙ ap (λ (k : ℕ). drop k (first ∷ rest)) at
