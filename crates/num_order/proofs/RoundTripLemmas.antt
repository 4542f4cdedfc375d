-- What is written is read again.
use Rattle.std.proofs.Common.{◌≡◌, ℕ, ◌*◌, ◌^◌, ◌<◌, ◌-◌, [], refl, ap, sym, ◌∙◌, arith, Bool, true, false, pos, negsuc, ℤ, inl, inr, append-nil}
use Rattle.std.proofs.lemmas.Int.{ints}
use Rattle.std.proofs.lemmas.Bool.Decides.{nat_tests}
use Rattle.std.specs.Int.{bytes_high_first, bytes_low_first}
use Rattle.byteorder.specs.Endian.{big_number, little_number}
use Rattle.byteorder.specs.Numbers.{big_number-reads_back, little_number-reads_back, length-bytes_high_first, length-bytes_low_first}
use Rattle.num_order.specs.declared.order.Order.{Order}
use Rattle.num_order.specs.declared.order.Order.TheVariants.{Big, Little}
use Rattle.num_order.specs.Number.{IsSize, IsBetween, residue, with_sign, low_first, high_first, unsigned, bytes, ReadsBack}
use Rattle.num_order.proofs.NumberLemmas.{low_first-is, high_first-is}
use Rattle.num_order.proofs.RangeLemmas.{twice}

powers : (size : ℕ) → IsSize size → 256 ^ size ≡ 2 ^ (8 * size)
powers size (inl e) = rw e refl
powers size (inr (inl e)) = rw e refl
powers size (inr (inr (inl e))) = rw e refl
powers size (inr (inr (inr (inl e)))) = rw e refl
powers size (inr (inr (inr (inr e)))) = rw e refl

positive : (size : ℕ) → IsSize size → 0 < 2 ^ (8 * size - 1)
positive size (inl e) = rw e (omega arith)
positive size (inr (inl e)) = rw e (omega arith)
positive size (inr (inr (inl e))) = rw e (omega arith)
positive size (inr (inr (inr (inl e)))) = rw e (omega arith)
positive size (inr (inr (inr (inr e)))) = rw e (omega arith)

residue-lt : (signed : Bool) (size : ℕ) (v : ℤ) → IsSize size → IsBetween signed size v → residue size v < 256 ^ size
residue-lt false size (pos n) h b = rw (powers size h) (omega (arith, ints, b.1))
residue-lt false size (negsuc n) h b = absurd (omega (arith, ints, b.0))
residue-lt true size (pos n) h b = rw (powers size h) (omega (arith, ints, b.1, twice size h))
residue-lt true size (negsuc n) h b = rw (powers size h) (omega (arith, ints, b.0, twice size h, positive size h))

signs : (signed : Bool) (size : ℕ) (v : ℤ) → IsSize size → IsBetween signed size v → with_sign signed size (residue size v) ≡ v
signs false size (pos n) h b = refl
signs false size (negsuc n) h b = absurd (omega (arith, ints, b.0))
signs true size (pos n) h b = grind (arith, nat_tests, ints, b.1, twice size h)
signs true size (negsuc n) h b = grind (arith, nat_tests, ints, b.0, twice size h, positive size h)

reads-big : (n x : ℕ) → x < 256 ^ n → high_first (bytes_high_first n x) ≡ x
reads-big n x h =
    sym (high_first-is (bytes_high_first n x))
    ∙ ap (λ (m : ℕ). big_number m (bytes_high_first n x)) (length-bytes_high_first n x)
    ∙ ap (big_number n) (sym (append-nil (bytes_high_first n x)))
    ∙ big_number-reads_back n x [] h

reads-little : (n x : ℕ) → x < 256 ^ n → low_first (bytes_low_first 0 n x) ≡ x
reads-little n x h =
    sym (low_first-is (bytes_low_first 0 n x))
    ∙ ap (λ (m : ℕ). little_number m (bytes_low_first 0 n x)) (length-bytes_low_first 0 n x)
    ∙ ap (little_number n) (sym (append-nil (bytes_low_first 0 n x)))
    ∙ little_number-reads_back n x [] h

pub num-bytes : (o : Order) (signed : Bool) (size : ℕ) (v : ℤ) → IsSize size → IsBetween signed size v → with_sign signed size (unsigned o (bytes o (record { size = size; signed = signed }) v)) ≡ v
num-bytes Big signed size v h b = ap (with_sign signed size) (reads-big size (residue size v) (residue-lt signed size v h b)) ∙ signs signed size v h b
num-bytes Little signed size v h b = ap (with_sign signed size) (reads-little size (residue size v) (residue-lt signed size v h b)) ∙ signs signed size v h b

-- what is written is read again
pub reads_back : ReadsBack
reads_back o k v size range = num-bytes o k.signed k.size v size range
