-- Parts of a word.
use Rattle.std.specs.Prelude.{◌≡◌, ℕ, ℤ, unsigned_abs}
use Rattle.std.proofs.Common.{subst}
use Rattle.std.specs.Int.{IsGcd}

-- in lowest terms, whatever the parts are called
pub same_lowest : (n m : ℤ) (d e : ℕ) → n ≡ m → d ≡ e → IsGcd (unsigned_abs n) d 1 → IsGcd (unsigned_abs m) e 1
same_lowest n m d e p q h = subst (λ (z : ℤ). IsGcd (unsigned_abs z) e 1) p (subst (λ (k : ℕ). IsGcd (unsigned_abs n) k 1) q h)
