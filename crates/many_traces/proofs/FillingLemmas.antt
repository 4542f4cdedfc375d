-- Places that are listed one after another.
use Rattle.std.proofs.Common.{◌≡◌, ℕ, zero, suc, ◌<◌, List, [], ◌∷◌, ◌++◌, length, get_or, refl, ap, arith}

-- the next one stands behind the others
pub place-next : (xs : List ℕ) (x k : ℕ) → length xs ≡ k → get_or (xs ++ x ∷ []) k 0 ≡ x
place-next [] x k long = let e : k ≡ 0 = omega (arith, long) in ap (λ (n : ℕ). get_or (x ∷ []) n 0) e
place-next (y ∷ xs) x zero long = absurd (omega (arith, long))
place-next (y ∷ xs) x (suc k) long = place-next xs x k (omega (arith, long))

-- and those in front of it stay
pub place-before : (xs : List ℕ) (x j : ℕ) → j < length xs → get_or (xs ++ x ∷ []) j 0 ≡ get_or xs j 0
place-before [] x j less = absurd (omega (arith, less))
place-before (y ∷ xs) x zero less = refl
place-before (y ∷ xs) x (suc j) less = place-before xs x j (omega (arith, less))
