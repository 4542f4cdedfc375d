-- A number of so many bytes is below the power of 256.
use Rattle.std.proofs.Common.{◌≡◌, ℕ, suc, ◌*◌, ◌^◌, ◌<◌, ◌≤◌, ◌⊎◌, inl, inr, List, [], ◌∷◌, length, get_or, subst, arith, Fits, w8}
use Rattle.std.proofs.Math.Nat.{mul-le-mul_right, pow-succ'}
use Rattle.num_order.specs.declared.order.Order.{Order}
use Rattle.num_order.specs.declared.order.Order.TheVariants.{Big, Little}
use Rattle.num_order.specs.Number.{unsigned, low_first, high_first}

low-lt : (bs : List ℕ) → ((i : ℕ) → Fits w8 (get_or bs i 0)) → low_first bs < 256 ^ length bs
low-lt [] h = omega arith
low-lt (b ∷ bs) h =
    let rest = low-lt bs (λ i. h (suc i)) in
    let first : Fits w8 b = h 0 in
    let power : 256 ^ suc (length bs) ≡ 256 * 256 ^ length bs = pow-succ' 256 (length bs) in
    omega arith

high-lt : (bs : List ℕ) → ((i : ℕ) → Fits w8 (get_or bs i 0)) → high_first bs < 256 ^ length bs
high-lt [] h = omega arith
high-lt (b ∷ bs) h =
    let rest = high-lt bs (λ i. h (suc i)) in
    let first : Fits w8 b = h 0 in
    let power : 256 ^ suc (length bs) ≡ 256 * 256 ^ length bs = pow-succ' 256 (length bs) in
    let times : b * 256 ^ length bs ≤ 255 * 256 ^ length bs = mul-le-mul_right (256 ^ length bs) (omega arith) in
    omega arith

unsigned-lt : (o : Order) (bs : List ℕ) → ((i : ℕ) → Fits w8 (get_or bs i 0)) → unsigned o bs < 256 ^ length bs
unsigned-lt Big bs h = high-lt bs h
unsigned-lt Little bs h = low-lt bs h

-- a number of 2 or 4 bytes has 32 bits
pub unsigned-lt_32 : (o : Order) (bs : List ℕ) → (length bs ≡ 2) ⊎ (length bs ≡ 4) → ((i : ℕ) → Fits w8 (get_or bs i 0)) → unsigned o bs < 2 ^ 32
unsigned-lt_32 o bs (inl two) h = let below : unsigned o bs < 256 ^ 2 = subst (λ (n : ℕ). unsigned o bs < 256 ^ n) two (unsigned-lt o bs h) in omega arith
unsigned-lt_32 o bs (inr four) h = let below : unsigned o bs < 256 ^ 4 = subst (λ (n : ℕ). unsigned o bs < 256 ^ n) four (unsigned-lt o bs h) in omega arith
