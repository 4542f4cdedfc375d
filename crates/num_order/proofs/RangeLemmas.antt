-- Bounds on the absolute value of a number of a kind.
use Rattle.std.proofs.Common.{◌∙◌, ◌-ℤ◌, ◌≡◌, ℕ, ◌*◌, ◌^◌, ◌<◌, ◌≤◌, ◌-◌, refl, arith, Bool, true, false, pos, negsuc, ◌≤ℤ◌, ◌<ℤ◌, ℤ, inl, inr, lit≤}
use Rattle.std.proofs.lemmas.Int.{ints}
use Rattle.std.proofs.lemmas.Bool.Decides.{nat_tests}
use Rattle.byteorder.specs.Endian.{twos_complement}
use Rattle.std.specs.Prelude.{unsigned_abs}
use Rattle.num_order.specs.Number.{IsSize, IsBetween, residue}

-- twice half the modulus
pub twice : (size : ℕ) → IsSize size → 2 ^ (8 * size) ≡ 2 * 2 ^ (8 * size - 1)
twice size (inl e) = rw e refl
twice size (inr (inl e)) = rw e refl
twice size (inr (inr (inl e))) = rw e refl
twice size (inr (inr (inr (inl e)))) = rw e refl
twice size (inr (inr (inr (inr e)))) = rw e refl

-- a modulus is at most 2 ^ 64
pub small : (size : ℕ) → IsSize size → 2 ^ (8 * size) ≤ 2 ^ 64
small size (inl e) = rw e (lit≤ tt)
small size (inr (inl e)) = rw e (lit≤ tt)
small size (inr (inr (inl e))) = rw e (lit≤ tt)
small size (inr (inr (inr (inl e)))) = rw e (lit≤ tt)
small size (inr (inr (inr (inr e)))) = rw e (lit≤ tt)

-- a number of the kind is below the modulus, without its sign
pub below : (signed : Bool) (size : ℕ) (v : ℤ) → IsSize size → IsBetween signed size v → unsigned_abs v < 2 ^ (8 * size)
below false size v h (p, q) = omega (arith, ints)
below true size v h (p, q) = omega (arith, ints, twice size h)

pub residue-pos : (size : ℕ) (v : ℤ) → pos 0 ≤ℤ v → unsigned_abs v ≡ residue size v
residue-pos size (pos n) h = refl
residue-pos size (negsuc n) h = absurd (omega (arith, ints))

pub residue-neg : (size : ℕ) (v : ℤ) → v <ℤ pos 0 → 2 ^ (8 * size) - unsigned_abs v ≡ residue size v
residue-neg size (pos n) h = absurd (omega (arith, ints))
residue-neg size (negsuc n) h = refl

pub ruleset ranges = (below, small, residue-pos, residue-neg)

-- two's complement by half the modulus, taken away twice
pub of_unsigned : (size n : ℕ) (r : ℤ) → IsSize size → 2 ^ (8 * size - 1) ≤ n → r ≡ pos n -ℤ pos (2 ^ (8 * size - 1)) -ℤ pos (2 ^ (8 * size - 1)) → r ≡ twos_complement size n
of_unsigned size n r h l e = e ∙ grind (arith, nat_tests, ints, twice size h)
