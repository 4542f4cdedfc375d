-- Positions that rise are those of traces.
use Rattle.std.proofs.Common.{◌≡◌, ℕ, zero, suc, ◌+◌, ◌<◌, ◌≤◌, List, [], ◌∷◌, length, get_or, true, refl, arith}
use Rattle.std.proofs.lemmas.Bool.{le-leb}
use Rattle.frame_cut.specs.Traces.{count_of, is_trace}
use Rattle.frame_cut.specs.Volume.{Volume}
use Rattle.bench_rules.specs.Conditions.{AreRising}

-- each of them is at least the one that they rise from, and none is above the bound
within : (m n : ℕ) (ps : List ℕ) (i d : ℕ) → i < length ps → AreRising m n ps → (m ≤ get_or ps i d) × (get_or ps i d ≤ n)
within m n [] i d below up = absurd (omega (arith, below))
within m n (p ∷ ps) zero d below up = (up.0, up.1)
within m n (p ∷ ps) (suc i) d below up =
    let rest = within (p + 1) n ps i d (omega (arith, below)) up.2 in
    (omega (arith, up.0, rest.0), rest.1)

pub rising_trace : (v : Volume) (ps : List ℕ) (i d : ℕ) → i < length ps → AreRising 1 (count_of v) ps → is_trace v (get_or ps i d) ≡ true
rising_trace v ps i d below up =
    let here = within 1 (count_of v) ps i d below up in
    rw (le-leb 1 (get_or ps i d) here.0, le-leb (get_or ps i d) (count_of v) here.1) refl
