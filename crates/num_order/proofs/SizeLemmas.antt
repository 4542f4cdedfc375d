-- A number of so many bytes is below the power of 256.
use Rattle.std.proofs.Common.{◌≡◌, ℕ, zero, suc, ◌+◌, ◌*◌, ◌^◌, ◌<◌, ◌≤◌, List, [], ◌∷◌, length, take, drop, get_or, ap, ◌∙◌, subst, arith, Fits, w8, w16, w32, ℤ, true, FitsSigned, to_z, of_z}
use Rattle.std.specs.Int.{w128}
use Rattle.std.proofs.Math.Nat.{mul-le-mul_right, pow-succ'}
use Rattle.std.proofs.lemmas.Bool.Decides.{nat_tests}
use Rattle.std.proofs.lemmas.Int.{ints, to_z-of_z}
use Rattle.std.proofs.lemmas.List.{length-take-le, length-drop, get_or-drop}
use Rattle.num_order.specs.declared.order.Order.{Order}
use Rattle.num_order.specs.declared.order.Order.TheVariants.{Big, Little}
use Rattle.num_order.specs.Number.{unsigned, low_first, high_first, with_sign}

low-lt : (bs : List ℕ) → ((i : ℕ) → get_or bs i 0 < 256) → low_first bs < 256 ^ length bs
low-lt [] h = omega arith
low-lt (b ∷ bs) h =
    let rest = low-lt bs (λ i. h (suc i)) in
    let first : b < 256 = h 0 in
    let power : 256 ^ suc (length bs) ≡ 256 * 256 ^ length bs = pow-succ' 256 (length bs) in
    omega arith

high-lt : (bs : List ℕ) → ((i : ℕ) → get_or bs i 0 < 256) → high_first bs < 256 ^ length bs
high-lt [] h = omega arith
high-lt (b ∷ bs) h =
    let rest = high-lt bs (λ i. h (suc i)) in
    let first : b < 256 = h 0 in
    let power : 256 ^ suc (length bs) ≡ 256 * 256 ^ length bs = pow-succ' 256 (length bs) in
    let times : b * 256 ^ length bs ≤ 255 * 256 ^ length bs = mul-le-mul_right (256 ^ length bs) (omega arith) in
    omega arith

unsigned-lt : (o : Order) (bs : List ℕ) → ((i : ℕ) → get_or bs i 0 < 256) → unsigned o bs < 256 ^ length bs
unsigned-lt Big bs h = high-lt bs h
unsigned-lt Little bs h = low-lt bs h

-- bytes of a slice are bytes
taken-lt : (n : ℕ) (bs : List ℕ) → ((i : ℕ) → get_or bs i 0 < 256) → (i : ℕ) → get_or (take n bs) i 0 < 256
taken-lt zero bs h i = omega arith
taken-lt (suc n) [] h i = omega arith
taken-lt (suc n) (b ∷ bs) h zero = h 0
taken-lt (suc n) (b ∷ bs) h (suc i) = taken-lt n bs (λ k. h (suc k)) i

-- the number of the n bytes from a place on
pub slice-lt : (o : Order) (at n m : ℕ) (bytes : List ℕ) → m ≡ n → at + n ≤ length bytes → ((i : ℕ) → Fits w8 (get_or bytes i 0)) → unsigned o (take m (drop at bytes)) < 256 ^ n
slice-lt o at n m bytes e inside h =
    let each : (i : ℕ) → get_or (take m (drop at bytes)) i 0 < 256 =
    taken-lt m (drop at bytes) (λ i. let fits : Fits w8 (get_or bytes (at + i) 0) = h (at + i) in let same = get_or-drop at bytes i 0 in omega arith) in
    let long : length (take m (drop at bytes)) ≡ n = omega (arith, length-take-le m (drop at bytes) (omega (arith, length-drop at bytes))) in
    subst (λ (k : ℕ). unsigned o (take m (drop at bytes)) < 256 ^ k) long (unsigned-lt o (take m (drop at bytes)) each)

fits_i16 : (n : ℕ) → n < 256 ^ 2 → FitsSigned w16 (with_sign true 2 n)
fits_i16 n h = grind (arith, nat_tests, ints)

wide_i16 : (n : ℕ) → n < 256 ^ 2 → FitsSigned w128 (with_sign true 2 n)
wide_i16 n h = grind (arith, nat_tests, ints)

-- a number of 2 bytes in two's complement fits its type, and keeps its value there
pub cast_i16 : (r : ℤ) (n : ℕ) → n < 256 ^ 2 → r ≡ with_sign true 2 n → FitsSigned w16 (to_z w128 (of_z w128 r))
cast_i16 r n h e =
    let wide : FitsSigned w128 (with_sign true 2 n) = wide_i16 n h in
    rw (e, to_z-of_z) (fits_i16 n h)

pub kept_i16 : (r : ℤ) (n : ℕ) → n < 256 ^ 2 → r ≡ with_sign true 2 n → to_z w16 (of_z w16 (to_z w128 (of_z w128 r))) ≡ with_sign true 2 n
kept_i16 r n h e =
    let wide : FitsSigned w128 (with_sign true 2 n) = wide_i16 n h in
    let fits : FitsSigned w16 (with_sign true 2 n) = fits_i16 n h in
    rw e (ap (λ (z : ℤ). to_z w16 (of_z w16 z)) (to_z-of_z w128 (with_sign true 2 n) wide) ∙ to_z-of_z w16 (with_sign true 2 n) fits)

fits_i32 : (n : ℕ) → n < 256 ^ 4 → FitsSigned w32 (with_sign true 4 n)
fits_i32 n h = grind (arith, nat_tests, ints)

wide_i32 : (n : ℕ) → n < 256 ^ 4 → FitsSigned w128 (with_sign true 4 n)
wide_i32 n h = grind (arith, nat_tests, ints)

-- a number of 4 bytes in two's complement fits its type, and keeps its value there
pub cast_i32 : (r : ℤ) (n : ℕ) → n < 256 ^ 4 → r ≡ with_sign true 4 n → FitsSigned w32 (to_z w128 (of_z w128 r))
cast_i32 r n h e =
    let wide : FitsSigned w128 (with_sign true 4 n) = wide_i32 n h in
    rw (e, to_z-of_z) (fits_i32 n h)

pub kept_i32 : (r : ℤ) (n : ℕ) → n < 256 ^ 4 → r ≡ with_sign true 4 n → to_z w32 (of_z w32 (to_z w128 (of_z w128 r))) ≡ with_sign true 4 n
kept_i32 r n h e =
    let wide : FitsSigned w128 (with_sign true 4 n) = wide_i32 n h in
    let fits : FitsSigned w32 (with_sign true 4 n) = fits_i32 n h in
    rw e (ap (λ (z : ℤ). to_z w32 (of_z w32 z)) (to_z-of_z w128 (with_sign true 4 n) wide) ∙ to_z-of_z w32 (with_sign true 4 n) fits)
