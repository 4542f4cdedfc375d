-- Numbers of a kind: their range and their bytes.
use Rattle.std.proofs.Common.{◌≡◌, ℕ, ℤ, Bool, true, false, ◌&&◌, T, length, sym, subst, refl}
use Rattle.byteorder.specs.Numbers.{length-bytes_high_first, length-bytes_low_first}
use Rattle.num_order.specs.declared.order.Order.{Order}
use Rattle.num_order.specs.declared.order.Order.TheVariants.{Big, Little}
use Rattle.num_order.specs.declared.kind.Kind.{Kind}
use Rattle.num_order.specs.Number.{IsBetween, InRange, is_between, fits, bytes, residue}

both : (a b : Bool) → (a && b) ≡ true → (a ≡ true) × (b ≡ true)
both true true e = (refl, refl)
both true false e = absurd cc
both false b e = absurd cc

between : (signed : Bool) (size : ℕ) (v : ℤ) → is_between signed size v ≡ true → IsBetween signed size v
between false size v e = let p = both _ _ e in (record { le = subst T (sym p.0) tt }, record { lt = subst T (sym p.1) tt })
between true size v e = let p = both _ _ e in (record { le = subst T (sym p.0) tt }, record { lt = subst T (sym p.1) tt })

pub in_range : (k : Kind) (v : ℤ) → fits k v ≡ true → InRange k v
in_range k v e = between k.signed k.size v e

pub length-number : (o : Order) (k : Kind) (v : ℤ) → length (bytes o k v) ≡ k.size
length-number Big k v = length-bytes_high_first k.size (residue k.size v)
length-number Little k v = length-bytes_low_first 0 k.size (residue k.size v)
