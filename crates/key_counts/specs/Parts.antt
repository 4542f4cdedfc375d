-- A fraction and two flags as parts of a word of 64 bits.
use Rattle.std.specs.Prelude.{ℕ, ℤ, Bool, pos, neg_ℤ, ◌==◌, ◌-ℤ◌, ◌^◌, ◌/◌, ◌%◌, ◌<◌, ◌≤◌, ◌≤ℤ◌, ◌<ℤ◌, ◌≡◌, suc, unsigned_abs}
use Rattle.std.proofs.Common.{zero-lt-suc, arith, subst, sym}
use Rattle.std.proofs.lemmas.Int.{ints}
use Rattle.std.specs.Int.{IsGcd}
use Rattle.key_counts.specs.FractionLaws.{IsGcd-prop}
use Rattle.key_counts.specs.declared.ratio.Ratio.{Ratio}

-- the fraction is no larger than the coordinate of 32 bits and the scalar of 16 bits can make it
abbrev pub FitsCoordinate : Ratio → Type 0
FitsCoordinate r = (neg_ℤ (pos (2 ^ 46)) ≤ℤ r.num) × (r.num <ℤ pos (2 ^ 46)) × (r.den ≤ 2 ^ 15)

-- the first flag of a word of 64 bits: its highest bit
abbrev pub first_flag : ℕ → Bool
first_flag w = w / 2 ^ 63 == 1

-- the second flag of a word: the bit below the first
abbrev pub second_flag : ℕ → Bool
second_flag w = w / 2 ^ 62 % 2 == 1

-- the numerator in a word: the 47 bits below the flags, counted from -2^46 on
abbrev pub numerator_in : ℕ → ℤ
numerator_in w = pos (w / 2 ^ 15 % 2 ^ 47) -ℤ pos (2 ^ 46)

-- the denominator in a word: its lowest 15 bits, counted from 1 on
abbrev pub denominator_in : ℕ → ℕ
denominator_in w = suc (w % 2 ^ 15)

pub denominator_in-positive : (w : ℕ) → 0 < denominator_in w
denominator_in-positive w = zero-lt-suc (w % 2 ^ 15)

-- the fraction in a word is in lowest terms
abbrev pub IsLowest : ℕ → Type 0
IsLowest w = IsGcd (unsigned_abs (numerator_in w)) (denominator_in w) 1

pub IsLowest-prop : (w : ℕ) → IsProp (IsLowest w)
IsLowest-prop w = IsGcd-prop (unsigned_abs (numerator_in w)) (denominator_in w) 1

numerator_in-low : (w : ℕ) → neg_ℤ (pos (2 ^ 46)) ≤ℤ numerator_in w
numerator_in-low w = omega (arith, ints)

numerator_in-high : (w : ℕ) → numerator_in w <ℤ pos (2 ^ 46)
numerator_in-high w = omega (arith, ints)

denominator_in-small : (w : ℕ) → denominator_in w ≤ 2 ^ 15
denominator_in-small w = omega arith

-- what a word holds is no larger than a coordinate
pub fits_in_word : (r : Ratio) (w : ℕ) → r.num ≡ numerator_in w → r.den ≡ denominator_in w → FitsCoordinate r
fits_in_word r w n d = (
  subst (λ (z : ℤ). neg_ℤ (pos (2 ^ 46)) ≤ℤ z) (sym n) (numerator_in-low w),
  subst (λ (z : ℤ). z <ℤ pos (2 ^ 46)) (sym n) (numerator_in-high w),
  subst (λ (k : ℕ). k ≤ 2 ^ 15) (sym d) (denominator_in-small w),
)
