-- What is told of pairs of traces, and a pair that does not jump.
use Rattle.std.specs.Prelude.{◌≡◌, ℕ, ◌<◌, ◌&&◌, not, Bool, true, false, List, [], ◌∷◌, length, take, Option, Some, None, refl}
use Rattle.std.proofs.Common.{arith, true≢false}
use Rattle.position_differences.specs.declared.difference.Difference.{Difference}
use Rattle.position_differences.specs.Differences.{is_zero, is_far, is_far_from_any, is_jump}
use Rattle.cell_positions.specs.declared.trace_pair.TracePair.{TracePair}
use Rattle.cell_positions.specs.declared.trace_pair.TheConstants.{MOST_PAIRS}
use Rattle.cell_positions.specs.Jumps.{told_of}
use Rattle.cell_positions.specs.Shared.{shared_told}

pub told_none : (n : ℕ) (ts : List TracePair) → length ts ≡ 0 → None ≡ told_of n ts
told_none n [] e = refl
told_none n (t ∷ ts) e = absurd (omega arith)

pub told_some : (n : ℕ) (ts : List TracePair) → 0 < length ts → Some (record { pairs = n; jumps = length ts; first_jumps = take MOST_PAIRS ts }) ≡ told_of n ts
told_some n [] h = absurd (omega arith)
told_some n (t ∷ ts) h = refl

pub shared_none : (ts : List TracePair) → length ts ≡ 0 → None ≡ shared_told ts
shared_none [] e = refl
shared_none (t ∷ ts) e = absurd (omega arith)

pub shared_some : (ts : List TracePair) → 0 < length ts → Some (record { cells = length ts; first_cells = take MOST_PAIRS ts }) ≡ shared_told ts
shared_some [] h = absurd (omega arith)
shared_some (t ∷ ts) h = refl

-- what does not jump by itself does not beside others
pub no_jump_alone : (u d : Difference) (before behind : Option Difference) → is_jump u None d None ≡ false → is_jump u before d behind ≡ false
no_jump_alone u d before behind h = go (not (is_zero u)) (is_far d u) (is_far_from_any d before) (is_far_from_any d behind) h
  where
    go : (a b c e : Bool) → (a && b && true && true) ≡ false → (a && b && c && e) ≡ false
    go true true c e h = absurd (true≢false h)
    go true false c e h = refl
    go false b c e h = refl

-- nor does what is near the usual difference
pub near_does_not_jump : (u d : Difference) (before behind : Option Difference) → is_far d u ≡ false → is_jump u before d behind ≡ false
near_does_not_jump u d before behind near = go (not (is_zero u)) (is_far d u) (is_far_from_any d before) (is_far_from_any d behind) near
  where
    go : (a b c e : Bool) → b ≡ false → (a && b && c && e) ≡ false
    go true true c e h = absurd (true≢false h)
    go true false c e h = refl
    go false b c e h = refl
