-- Numbers that do not fit 32 bits lie outside an interval of numbers that do.
use Rattle.std.specs.Prelude.{◌≡◌, ℕ, ℤ, pos, negsuc, ◌^◌, ◌<◌, ◌≤◌, ◌+ℤ◌, ◌-ℤ◌, ◌≤ℤ◌, Bool, true, false, nat_lt, if◌then◌else◌, Some, None, refl}
use Rattle.std.proofs.Common.{arith, sym, ap, inl, inr, SFits, w32}
use Rattle.std.proofs.lemmas.Bool.{cases_lt, ltb-true}
use Rattle.std.proofs.lemmas.Int.{ints}
use Rattle.window_counts.specs.Places.{place_within, interval_place}

not_below : (i n : ℕ) → n ≤ i → nat_lt i n ≡ false
not_below i n h = by (nat_lt i n) refl
  where
    by : (b : Bool) → nat_lt i n ≡ b → b ≡ false
    by true f = absurd (let s = ltb-true i n f in omega arith)
    by false f = refl

fits_between : (low : ℤ) (n i : ℕ) (k : ℤ) → SFits w32 low → (low +ℤ pos n) ≤ℤ pos (2 ^ 31) → k -ℤ low ≡ pos i → i < n → SFits w32 k
fits_between low n i k f top e h = omega (arith, ints)

pub outside : (low : ℤ) (n : ℕ) (k : ℤ) → SFits w32 low → (low +ℤ pos n) ≤ℤ pos (2 ^ 31) → (SFits w32 k → ⊥) → None ≡ interval_place low n k
outside low n k f top not = by (k -ℤ low) refl
  where
    by : (z : ℤ) → k -ℤ low ≡ z → None ≡ place_within n z
    by (pos i) e = elim (cases_lt i n) [
      | inl h ↦ absurd (not (fits_between low n i k f top e h))
      | inr h ↦ ap (λ (b : Bool). if b then Some i else None) (sym (not_below i n h))
    ]
    by (negsuc i) e = refl
