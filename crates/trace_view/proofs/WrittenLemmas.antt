-- Laws of bytes with runs laid over them.
use Rattle.std.proofs.Common.{◌≡◌, ℕ, ◌+◌, ◌≤◌, List, [], ◌∷◌, length, arith, length-append, length-drop}
use Rattle.std.proofs.lemmas.List.{length-take}
use Rattle.trace_view.specs.declared.run.Run.{Run}
use Rattle.trace_view.specs.Runs.{FitFrom, Fit, bytes_with_runs_from, bytes_with_runs, end_of}

-- runs that fit begin inside
pub FitFrom-le : (from len : ℕ) (rs : List Run) → FitFrom from rs len → from ≤ len
FitFrom-le from len [] h = h
FitFrom-le from len (r ∷ rs) h = omega (arith, h.0, FitFrom-le (end_of r) len rs h.1.1)

-- the bytes have the length of the base
pub length-written_from : (from : ℕ) (base : List ℕ) (rs : List Run) → FitFrom from rs (length base) → length (bytes_with_runs_from from base rs) + from ≡ length base
length-written_from from base [] h = omega (arith, h, length-drop from base)
length-written_from from base (r ∷ rs) h =
    let inside : end_of r ≤ length base = FitFrom-le (end_of r) (length base) rs h.1.1 in
    let rest : length (bytes_with_runs_from (end_of r) base rs) + end_of r ≡ length base = length-written_from (end_of r) base rs h.1.1 in
    simp (length-append, length-take, length-drop) (omega (arith, h.0, inside, rest))

pub length-written : (base : List ℕ) (rs : List Run) → Fit rs (length base) → length (bytes_with_runs base rs) ≡ length base
length-written base rs h = omega (arith, length-written_from 0 base rs h)

-- the first of runs that fit
pub fits_first : (from len : ℕ) (all rest : List Run) (r : Run) → all ≡ (r ∷ rest) → FitFrom from all len → (from ≤ r.at) × (end_of r ≤ len)
fits_first from len all rest r e h = let k : FitFrom from (r ∷ rest) len = rw e at h in (k.0, FitFrom-le (end_of r) len rest k.1.1)
