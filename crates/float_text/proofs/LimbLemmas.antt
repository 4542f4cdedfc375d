-- The number that limbs hold, limb by limb.
use Rattle.std.proofs.Common.{◌≡◌, ◌∙◌, ℕ, zero, suc, ◌+◌, ◌-◌, ◌*◌, ◌/◌, ◌%◌, ◌^◌, ◌<◌, ◌≤◌, List, replicate, length, get_or, slice_index, set, refl, ap, arith, add-one, mul-le-mul_right, mul-le-mul_left, mul-pos, lt_of_lt_of_le, pow-suc, pow-add, lit≤, get_or-set_same, get_or-set_other}
use native.Mathlib.Nat.{pow-zero}
use Rattle.float_text.specs.Limbs.{limb_weight, value_below}

pub value_below-zero : (xs : List ℕ) → value_below xs 0 ≡ 0
unfolding value_below
value_below-zero xs = refl

pub value_below-suc : (xs : List ℕ) (i : ℕ) → value_below xs (i + 1) ≡ value_below xs i + get_or xs i 0 * limb_weight i
unfolding value_below
value_below-suc xs i = rw add-one

pub limb_weight-zero : limb_weight 0 ≡ 1
unfolding limb_weight
limb_weight-zero = refl

pub limb_weight-suc : (i : ℕ) → limb_weight (i + 1) ≡ limb_weight i * 2 ^ 64
unfolding limb_weight
limb_weight-suc i = rw add-one (pow-suc (2 ^ 64) i)

value_below_same : (xs ys : List ℕ) (n : ℕ) → ((i : ℕ) → i < n → get_or xs i 0 ≡ get_or ys i 0) → value_below xs n ≡ value_below ys n
unfolding value_below
value_below_same xs ys zero h = refl
value_below_same xs ys (suc n) h = λ j. value_below_same xs ys n (λ i l. h i (omega arith)) j + h n (omega arith) j * limb_weight n

pub value_below-set : (xs : List ℕ) (i v : ℕ) → i < length xs → value_below (set xs i v) (i + 1) ≡ value_below xs i + v * limb_weight i
value_below-set xs i v h =
    value_below-suc (set xs i v) i
    ∙ (λ j. value_below_same (set xs i v) xs i (λ k l. get_or-set_other xs i k v 0 (λ e. omega arith)) j + get_or-set_same xs i v 0 h j * limb_weight i)

value_below-lt : (xs : List ℕ) (n : ℕ) → ((i : ℕ) → get_or xs i 0 < 2 ^ 64) → value_below xs n < limb_weight n
unfolding value_below limb_weight
value_below-lt xs zero h = omega arith
value_below-lt xs (suc n) h = omega (arith, value_below-lt xs n h, pow-suc (2 ^ 64) n, mul-le-mul_right (limb_weight n) (h n))

-- one limb's step of a multiplication
pub multiply_add_step : (done old x by add carry w : ℕ) → done + carry * w ≡ old * by + add
    → done + (x * by + carry) % 2 ^ 64 * w + (x * by + carry) / 2 ^ 64 * (w * 2 ^ 64) ≡ (old + x * w) * by + add
multiply_add_step done old x by add carry w h =
    let wide = x * by + carry in
    let parts : wide % 2 ^ 64 + wide / 2 ^ 64 * 2 ^ 64 ≡ x * by + carry = omega arith in
    omega (arith, ap (λ t. t * w) parts)

-- the upper limb decides
pub value_below_less : (xs ys : List ℕ) (i : ℕ) → ((k : ℕ) → get_or xs k 0 < 2 ^ 64) → get_or xs i 0 < get_or ys i 0 → value_below xs (i + 1) < value_below ys (i + 1)
value_below_less xs ys i fit h = omega (arith, value_below-suc xs i, value_below-suc ys i, value_below-lt xs i fit, mul-le-mul_right (limb_weight i) h)

pub word_fits : (n : ℕ) → n < 2 ^ 64 → n < limb_weight 19
unfolding limb_weight
word_fits n h = lt_of_lt_of_le h (lit≤ tt)

zeros : (n i : ℕ) → slice_index (replicate n 0) i ≡ 0
zeros zero i = refl
zeros (suc n) zero = refl
zeros (suc n) (suc i) = zeros n i

pub no_value : (n i : ℕ) → value_below (replicate n 0) i ≡ 0
unfolding value_below
no_value n zero = refl
no_value n (suc i) = omega (arith, no_value n i, ap (λ x. x * limb_weight i) (zeros n i))

pub power_pos : (b k : ℕ) → 0 < b → 0 < b ^ k
power_pos b zero p = rw pow-zero (omega arith)
power_pos b (suc k) p = rw pow-suc (mul-pos (power_pos b k p) p)

-- one of the n factors is multiplied in first
pub power_step : (b x n : ℕ) → 0 < b → 0 < n → ((x * b + 0) * b ^ (n - 1) ≡ x * b ^ n) × (x * b + 0 ≤ x * b ^ n)
power_step b x n p h =
    let e : n ≡ suc (n - 1) = omega arith in
    let s : b ^ n ≡ b ^ (n - 1) * b = ap (λ y. b ^ y) e ∙ pow-suc b (n - 1) in
    (omega (arith, ap (λ y. x * y) s), omega (arith, ap (λ y. x * y) s, mul-le-mul_left (x * b) (power_pos b (n - 1) p)))

-- where there is room, nothing is carried out
pub no_carry : (x carry w n : ℕ) → x + carry * w ≡ n → n < w → x ≡ n
no_carry x zero w n e h = omega arith
no_carry x (suc c) w n e h = absurd (omega arith)
