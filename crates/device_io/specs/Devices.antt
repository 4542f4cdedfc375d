-- A device that counts its failures.
use Rattle.std.specs.Prelude.{ℕ}

-- a reader or a writer, and how many of its calls have failed
pub record CountedDevice (D : Type 0) : Type 0 where
  pub inner : D
  pub failures : ℕ
