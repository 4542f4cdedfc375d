-- A file that is written up to a limit on its size.
use Rattle.std.specs.Prelude.{◌≡◌, ℕ, ◌+◌, Result, Ok, Err}

-- the file, its limit, and how many bytes it took
pub record Bounded (W : Type 0) : Type 0 where
  pub file : W
  pub limit : ℕ
  pub taken : ℕ

-- after a write the limit is what it was, and all bytes are counted that were taken so far, those of earlier writes too; one that failed took none
abbrev pub Counts : {W E : Type 0} → Bounded W → Bounded W → Result ℕ E → Type 0
Counts old new (Ok n) = (new.limit ≡ old.limit) × (new.taken ≡ old.taken + n)
Counts old new (Err e) = (new.limit ≡ old.limit) × (new.taken ≡ old.taken)

-- the limit and the count stay what they were
abbrev pub Stays : {W : Type 0} → Bounded W → Bounded W → Type 0
Stays old new = (new.limit ≡ old.limit) × (new.taken ≡ old.taken)
