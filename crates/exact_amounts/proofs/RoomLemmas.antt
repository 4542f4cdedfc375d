-- Room for a decimal that is compared with a float, and what its first digits tell.
use Rattle.std.proofs.Common.{◌≡◌, ◌∙◌, ℕ, zero, suc, ◌+◌, ◌-◌, ◌*◌, ◌/◌, ◌%◌, ◌^◌, ◌<◌, ◌≤◌, Bool, true, false, cond, nat_lt, nat_cmp, refl, sym, ap, subst, arith, lit<, lit≤, pow_pos, pow_mono, pow-add, lt_of_lt_of_le, lt_of_le_of_lt, le_trans, le_of_eq, lt_of_not-le, not-le_of_lt, mul-le-mul_right, mul-le-mul_left, mul-lt-mul_of_pos_right, mul_comm, mul_assoc, mul-one, mul-zero, mul-suc, pow-suc, div-add-mod', List, ◌++◌, length, take, drop, take_all, le_refl, length-append}
use native.Mathlib.Nat.{pow-zero, pow-le-pow_right}
use Rattle.std.specs.Str.Parse.{digits_value, AllDigits}
use Rattle.fast_float.specs.Text.{Parts, digits_of, tens_up, tens_down}
use Rattle.fast_float.proofs.ExactLemmas.{ten_to_pos}
use Rattle.fast_float.proofs.Rows.{AllDigits-append, value_below, cut_last}
use Rattle.float_text.specs.Limbs.{limb_weight}
use Rattle.float_text.specs.Sides.{with_rest}
use Rattle.float_text.proofs.LimbLemmas.{power_pos}
use Rattle.float_text.proofs.MiddleLemmas.{kept_room, stands_so, ten_is, number_is}

-- ---- rooms

pub word_fits : (n : ℕ) → n < 2 ^ 64 → n < limb_weight 72
unfolding limb_weight
word_fits n h = lt_of_lt_of_le h (lit≤ tt)

decimal_room : (n : ℕ) → n < 2 ^ 1024 * 10 ^ 1074 → n < limb_weight 72
unfolding limb_weight
decimal_room n h = lt_of_lt_of_le h (lit≤ tt)

pub twos_room : (d t : ℕ) → d < 2 ^ 53 → t ≤ 2045 → d * 2 ^ t < 2 ^ 2098
twos_room d t o l =
    let e : 53 + t ≤ 2098 = omega arith in
    lt_of_lt_of_le (mul-lt-mul_of_pos_right o (pow_pos t)) (le_trans (le_of_eq (sym (pow-add 2 53 t))) (pow_mono e))

pub size_room : (m : ℕ) → m < 2 ^ 2098 → (m < limb_weight 72) × (m * 5 ^ 1074 < limb_weight 72)
unfolding limb_weight
size_room m h = (lt_of_lt_of_le h (lit≤ tt), lt_of_lt_of_le (mul-lt-mul_of_pos_right h (lit< tt)) (lit≤ tt))

pub whole_room : (m : ℕ) → m < 2 ^ 128 → (m < limb_weight 72) × (m * 2 ^ 1074 < limb_weight 72)
unfolding limb_weight
whole_room m h = (lt_of_lt_of_le h (lit≤ tt), lt_of_lt_of_le (mul-lt-mul_of_pos_right h (lit< tt)) (lit≤ tt))

-- ---- many factors at once

pow-mul : (b k n : ℕ) → (b ^ k) ^ n ≡ b ^ (k * n)
pow-mul b k zero = pow-zero (b ^ k) ∙ sym (pow-zero b) ∙ ap (λ e. b ^ e) (sym (mul-zero k))
pow-mul b k (suc n) = pow-suc (b ^ k) n ∙ ap (λ z. z * b ^ k) (pow-mul b k n) ∙ sym (pow-add b (k * n) k) ∙ ap (λ e. b ^ e) (sym (mul-suc k n))

-- w is k factors b, of which there are t
pub in_powers : (x b w k t : ℕ) → w ≡ b ^ k → x * w ^ (t / k) * b ^ (t % k) ≡ x * b ^ t
in_powers x b w k t e =
    let all : k * (t / k) + t % k ≡ t = ap (λ z. z + t % k) (mul_comm k (t / k)) ∙ div-add-mod' t k in
    mul_assoc x (w ^ (t / k)) (b ^ (t % k))
    ∙ ap (λ z. x * z) (ap (λ z. z * b ^ (t % k)) (ap (λ z. z ^ (t / k)) e ∙ pow-mul b k (t / k)) ∙ sym (pow-add b (k * (t / k)) (t % k)) ∙ ap (λ z. b ^ z) all)

pub up_to_all : (x b w k t : ℕ) → 0 < b → w ≡ b ^ k → x * w ^ (t / k) ≤ x * b ^ t
up_to_all x b w k t B e =
    le_trans (le_of_eq (sym (mul-one (x * w ^ (t / k))))) (le_trans (mul-le-mul_left (x * w ^ (t / k)) (power_pos b (t % k) B)) (le_of_eq (in_powers x b w k t e)))

-- ---- exponents of ten in bounds

tens_back : (a b : ℕ) → 10 ^ a < 10 ^ b → a < b
tens_back a b h = lt_of_not-le (λ (g : b ≤ a). not-le_of_lt h (pow-le-pow_right (lit< tt) g))

-- a number that is not too large has not many more zeros than places
pub up_small : (D u d : ℕ) → 0 < D → D * 10 ^ u < 2 ^ 1024 * 10 ^ d → u < d + 1024
up_small D u d p h =
    let a : 1 * 10 ^ u ≤ D * 10 ^ u = mul-le-mul_right (10 ^ u) p in
    let b : 2 ^ 1024 * 10 ^ d ≤ 10 ^ 1024 * 10 ^ d = mul-le-mul_right (10 ^ d) (lit≤ tt) in
    let e : 10 ^ (d + 1024) ≡ 10 ^ 1024 * 10 ^ d = pow-add 10 d 1024 ∙ mul_comm (10 ^ d) (10 ^ 1024) in
    tens_back u (d + 1024) (omega (arith, a, b, e, h))

-- and one that is not too small not many more places than digits
down_small : (D n d : ℕ) → D < 10 ^ n → 10 ^ d ≤ D * 2 ^ 1075 → d < n + 1075
down_small D n d l h =
    let a : D * 2 ^ 1075 < 10 ^ n * 2 ^ 1075 = mul-lt-mul_of_pos_right l (lit< tt) in
    let b : 10 ^ n * 2 ^ 1075 ≤ 10 ^ n * 10 ^ 1075 = mul-le-mul_left (10 ^ n) (lit≤ tt) in
    tens_back d (n + 1075) (omega (arith, a, b, h, pow-add 10 n 1075))

pub some_digits_of : (D x y : ℕ) → 0 < y → y ≤ D * x * 2 ^ 1075 → 0 < D
some_digits_of zero x y p h = absurd (omega arith)
some_digits_of (suc D) x y p h = omega arith

power_up : (D p f : ℕ) → 10 ^ (f + 0) ≤ D * 10 ^ p * 2 ^ 1075 → D * 10 ^ p < 2 ^ 1024 * 10 ^ (f + 0) → p < f + 1024
power_up D p f a b = omega (arith, up_small D p (f + 0) (some_digits_of D (10 ^ p) (10 ^ (f + 0)) (ten_to_pos (f + 0)) a) b)

power_down : (D p f n : ℕ) → D < 10 ^ n → 10 ^ (f + p) ≤ D * 1 * 2 ^ 1075 → f + p < n + 1075
power_down D p f n l a = let e : D * 1 * 2 ^ 1075 ≡ D * 2 ^ 1075 = omega arith in down_small D n (f + p) l (le_trans a (le_of_eq e))

power_small : (b : Bool) (D p f w : ℕ) → D < 10 ^ (w + f) → w < 2 ^ 64 → f < 2 ^ 64 → 10 ^ (f + cond b p 0) ≤ D * 10 ^ (cond b 0 p) * 2 ^ 1075 → D * 10 ^ (cond b 0 p) < 2 ^ 1024 * 10 ^ (f + cond b p 0) → p < 2 ^ 65
power_small true D p f w l x y a b = omega (arith, power_down D p f (w + f) l a)
power_small false D p f w l x y a b = omega (arith, power_up D p f a b)

-- ---- of a decimal in its parts

module _ (p : Parts) (W F : List ℕ) (w_is : W ≡ p.whole) (f_is : F ≡ p.fraction) (aw : AllDigits 10 W) (af : AllDigits 10 F) where
  number_below : digits_value 10 (W ++ F) < 10 ^ (length W + length F)
  number_below =
      let all = ap (digits_value 10) (take_all (length (W ++ F)) (W ++ F) (le_refl _)) in
      let l = value_below (W ++ F) 0 (length (W ++ F)) (AllDigits-append W F aw af) in
      let e : 10 ^ length (W ++ F) ≡ 10 ^ (length W + length F) = ap (λ x. 10 ^ x) (length-append W F) in
      omega (arith, all, l, e)

  digits_are : digits_of p ≡ digits_value 10 (W ++ F)
  digits_are = number_is p W F w_is f_is aw af

  pub power_fits : length W < 2 ^ 64 → length F < 2 ^ 64 → 10 ^ tens_down p ≤ digits_of p * 10 ^ tens_up p * 2 ^ 1075 → digits_of p * 10 ^ tens_up p < 2 ^ 1024 * 10 ^ tens_down p → digits_value 10 p.exponent < 2 ^ 65
  power_fits x y a b =
      let same : length W ≡ length p.whole = ap length w_is in
      let too : length F ≡ length p.fraction = ap length f_is in
      power_small p.exponent_negative (digits_of p) (digits_value 10 p.exponent) (length p.fraction) (length p.whole)
      (lt_of_le_of_lt (le_of_eq digits_are) (subst (λ n. digits_value 10 (W ++ F) < 10 ^ n) (λ i. same i + too i) number_below)) (lt_of_le_of_lt (le_of_eq (sym same)) x) (lt_of_le_of_lt (le_of_eq (sym too)) y) a b

  module _ (kept zeros : ℕ) (kept_is : kept ≡ length W + length F - (tens_down p - (tens_up p + 1074))) (zeros_is : zeros ≡ tens_up p + 1074 - tens_down p) where
    abbrev first : ℕ
    first = digits_value 10 (take kept (W ++ F))

    abbrev others : ℕ
    others = digits_value 10 (drop kept (W ++ F))

    abbrev cut : ℕ
    cut = tens_down p - (tens_up p + 1074)

    two_parts : (digits_value 10 (W ++ F) ≡ first * 10 ^ cut + others) × (others < 10 ^ cut)
    two_parts =
        let e : length (W ++ F) - cut ≡ kept = omega (arith, length-append W F) in
        subst (λ n. (digits_value 10 (W ++ F) ≡ digits_value 10 (take n (W ++ F)) * 10 ^ cut + digits_value 10 (drop n (W ++ F))) × (digits_value 10 (drop n (W ++ F)) < 10 ^ cut)) e
        (cut_last (W ++ F) cut (AllDigits-append W F aw af))

    pub first_room : digits_of p * 10 ^ tens_up p < 2 ^ 1024 * 10 ^ tens_down p → first * 10 ^ zeros < limb_weight 72
    first_room b = decimal_room (first * 10 ^ zeros) (kept_room (digits_of p) (tens_up p) (tens_down p) first others cut zeros 1074 (digits_are ∙ two_parts.0) two_parts.1 refl zeros_is (2 ^ 1024) b)

    pub stands : (h : ℕ) → with_rest (nat_cmp (first * 10 ^ zeros) (h * 5 ^ 1074)) (nat_lt 0 others) ≡ nat_cmp (digits_of p * 10 ^ tens_up p * 2 ^ 1074) (h * 10 ^ tens_down p)
    stands h = stands_so (digits_of p) (tens_up p) (tens_down p) first others cut zeros 1074 (digits_are ∙ two_parts.0) two_parts.1 refl zeros_is h (ten_is 1074)
