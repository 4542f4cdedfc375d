-- The numbers of byteorder are those of the specification.
use Rattle.std.proofs.Common.{◌≡◌, ℕ, ◌+◌, ◌*◌, ◌^◌, List, [], ◌∷◌, length, refl, ap, sym, ◌∙◌, Bool, true, false, pos, MatchBool, ℤ}
use Rattle.byteorder.specs.Endian.{big_number, little_number, twos_complement}
use Rattle.byteorder.specs.Numbers.{big_from-cons, little_from-cons}
use Rattle.num_order.specs.Number.{low_first, high_first, with_sign}

pub low_first-is : (bs : List ℕ) → little_number (length bs) bs ≡ low_first bs
low_first-is [] = refl
low_first-is (b ∷ bs) = ap (λ (r : ℕ). b + 256 * r) (little_from-cons 0 (length bs) b bs ∙ low_first-is bs)

pub high_first-is : (bs : List ℕ) → big_number (length bs) bs ≡ high_first bs
high_first-is [] = refl
high_first-is (b ∷ bs) = ap (λ (r : ℕ). b * 256 ^ length bs + r) (big_from-cons 0 (length bs) b bs ∙ high_first-is bs)

-- what read_by gives
pub with_sign-is : (signed : Bool) (size n m : ℕ) (r : ℤ) → n ≡ m → MatchBool signed (r ≡ twos_complement size n) (r ≡ pos n) → r ≡ with_sign signed size m
with_sign-is true size n m r e h = rw (← e) h
with_sign-is false size n m r e h = rw (← e) h

-- what read_by gives in the order with the highest byte first
pub read-big : (signed : Bool) (size : ℕ) (bs : List ℕ) (r : ℤ) → length bs ≡ size → MatchBool signed (r ≡ twos_complement size (big_number size bs)) (r ≡ pos (big_number size bs)) → r ≡ with_sign signed size (high_first bs)
read-big signed size bs r e h = with_sign-is signed size (big_number size bs) (high_first bs) r (ap (λ (n : ℕ). big_number n bs) (sym e) ∙ high_first-is bs) h

pub read-little : (signed : Bool) (size : ℕ) (bs : List ℕ) (r : ℤ) → length bs ≡ size → MatchBool signed (r ≡ twos_complement size (little_number size bs)) (r ≡ pos (little_number size bs)) → r ≡ with_sign signed size (low_first bs)
read-little signed size bs r e h = with_sign-is signed size (little_number size bs) (low_first bs) r (ap (λ (n : ℕ). little_number n bs) (sym e) ∙ low_first-is bs) h
