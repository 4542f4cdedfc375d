-- What holds of both of two numbers.
use Rattle.std.proofs.Common.{ℕ, zero, suc, ◌<◌, arith}

pub two : (P : ℕ → Type 0) → P 0 → P 1 → (k : ℕ) → k < 2 → P k
two P a b zero h = a
two P a b (suc zero) h = b
two P a b (suc (suc k)) h = absurd (omega arith)
