-- The less and the greater of two samples.
use Rattle.std.specs.Prelude.{ℤ}
use Rattle.std.proofs.Common.{arith}
use Rattle.std.specs.Int.{int_min, int_max}
use Rattle.std.proofs.lemmas.Int.{ints, clamps}
use Rattle.trace_record.specs.Parts.{FitsSample}

-- the less of two samples is one, and so is the greater
pub fits_min : (a b : ℤ) → FitsSample a → FitsSample b → FitsSample (int_min a b)
fits_min a b p q = let p0 = p.0 in let p1 = p.1 in let q0 = q.0 in let q1 = q.1 in (omega (arith, ints, clamps), omega (arith, ints, clamps))

pub fits_max : (a b : ℤ) → FitsSample a → FitsSample b → FitsSample (int_max a b)
fits_max a b p q = let p0 = p.0 in let p1 = p.1 in let q0 = q.0 in let q1 = q.1 in (omega (arith, ints, clamps), omega (arith, ints, clamps))
