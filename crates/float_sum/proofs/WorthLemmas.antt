-- A word changed.
use Rattle.std.proofs.Common.{◌≡◌, ℕ, zero, suc, ◌+◌, ◌*◌, ◌^◌, ◌<◌, List, [], ◌∷◌, length, slice_set, slice_index_or, ap, sym, ◌∙◌}
use native.Mathlib.Omega.{arith}
use lib.Pow.{pow-add}
use Rattle.float_sum.specs.Worth.{worth}

power : (i : ℕ) → 2 ^ (32 * suc i) ≡ 2 ^ 32 * 2 ^ (32 * i)
power i = let e : 32 * suc i ≡ 32 + 32 * i = omega arith in ap (λ (z : ℕ). 2 ^ z) e ∙ pow-add 2 32 (32 * i)

step : (x s s' a q : ℕ) → s' ≡ s + a * q → x + 2 ^ 32 * s' ≡ x + 2 ^ 32 * s + a * (2 ^ 32 * q)
step x s s' a q e = omega arith

pub worth_set : (xs : List ℕ) (i a d : ℕ) → i < length xs → worth (slice_set xs i (slice_index_or xs i d + a)) ≡ worth xs + a * 2 ^ (32 * i)
worth_set [] i a d h = absurd (omega arith)
worth_set (x ∷ xs) zero a d h = omega arith
worth_set (x ∷ xs) (suc i) a d h = step x (worth xs) _ a (2 ^ (32 * i)) (worth_set xs i a d (omega arith)) ∙ ap (λ (z : ℕ). x + 2 ^ 32 * worth xs + a * z) (sym (power i))
