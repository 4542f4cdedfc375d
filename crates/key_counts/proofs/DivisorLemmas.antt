-- The greatest common divisor of a number and a power of 10: what is computed is right for each remainder.
use Rattle.std.proofs.Common.{◌≡◌, ℕ, zero, suc, ◌*◌, ◌%◌, ◌<◌, ◌==◌, Bool, true, false, refl, arith, subst, inl, inr}
use Rattle.std.specs.Prelude.{◌&&◌}
use Rattle.std.specs.Int.{IsGcd}
use Rattle.std.proofs.lemmas.Bool.{cases_lt, eqb-true}
use Rattle.std.proofs.lemmas.Nat.Gcd.{IsGcd-from_zero, IsGcd-from_mod}
use Rattle.key_counts.specs.Divisors.{first_divisor_of}

-- whether Euclid's algorithm ends with this number after so many steps at most
is_found : ℕ → ℕ → ℕ → ℕ → Bool
is_found n x zero g = x == g
is_found zero x (suc y) g = false
is_found (suc n) x (suc y) g = is_found n (suc y) (x % suc y) g

found : (n x y g : ℕ) → is_found n x y g ≡ true → IsGcd x y g
unfolding is_found
found n x zero g e = subst (λ k. IsGcd x 0 k) (eqb-true x g e) (IsGcd-from_zero x 0 refl)
found zero x (suc y) g e = absurd cc
found (suc n) x (suc y) g e = IsGcd-from_mod x (suc y) g (found n (suc y) (x % suc y) g e)

-- whether the test holds of each lesser number
each_below : ℕ → (ℕ → Bool) → Bool
each_below zero test = true
each_below (suc n) test = test n && each_below n test

below : (n : ℕ) (test : ℕ → Bool) → each_below n test ≡ true → (k : ℕ) → k < n → test k ≡ true
unfolding each_below
below zero test e k h = absurd (omega (arith, h))
below (suc n) test e k h = elim (cases_lt k n) [
  | inl less ↦ below n test (right (test n) e) k less
  | inr last ↦ subst (λ j. test j ≡ true) (omega (arith, h, last)) (left (test n) e)
]
  where
    left : (b : Bool) → (b && each_below n test) ≡ true → b ≡ true
    left true f = refl
    left false f = f

    right : (b : Bool) → (b && each_below n test) ≡ true → each_below n test ≡ true
    right true f = f
    right false f = absurd cc

pub with_10 : (r : ℕ) → r < 10 → IsGcd 10 r (first_divisor_of r 2 2 2 * first_divisor_of r 5 5 5)
unfolding each_below is_found
with_10 r h = found 20 10 r _ (below 10 (λ k. is_found 20 10 k (first_divisor_of k 2 2 2 * first_divisor_of k 5 5 5)) refl r h)

pub with_100 : (r : ℕ) → r < 100 → IsGcd 100 r (first_divisor_of r 4 4 2 * first_divisor_of r 25 25 5)
unfolding each_below is_found
with_100 r h = found 20 100 r _ (below 100 (λ k. is_found 20 100 k (first_divisor_of k 4 4 2 * first_divisor_of k 25 25 5)) refl r h)

pub with_1000 : (r : ℕ) → r < 1000 → IsGcd 1000 r (first_divisor_of r 8 4 2 * first_divisor_of r 125 25 5)
unfolding each_below is_found
with_1000 r h = found 20 1000 r _ (below 1000 (λ k. is_found 20 1000 k (first_divisor_of k 8 4 2 * first_divisor_of k 125 25 5)) refl r h)
