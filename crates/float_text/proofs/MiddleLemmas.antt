-- How a decimal stands to a middle, from its first digits.
use Rattle.std.proofs.Common.{◌≡◌, ◌∙◌, ℕ, zero, suc, ◌+◌, ◌-◌, ◌*◌, ◌^◌, ◌<◌, ◌≤◌, Bool, true, false, cond, nat_lt, nat_cmp, Less, Equal, Greater, refl, sym, ap, subst, inl, inr, arith, lit<, pow_mono, pow-add, eq-zero-or-pos, lt_of_lt_of_le, lt_of_le_of_lt, le_trans, le_of_eq, lt_of_not-le, not-le_of_lt, mul-pos, mul_assoc, mul-le-mul_right, mul-le-mul_left, mul-lt-mul_of_pos_right, lt_of_mul-lt-mul_right, lit≤, mul_comm, mul_right_comm, add-mul, zero-mul, lt-ltb, List, ◌++◌, length, take, drop, take_all, le_refl, length-append}
use native.Mathlib.Nat.{eq_of_mul-eq-mul_right, pow-le-pow_right}
use Rattle.std.proofs.lemmas.Nat.{mul-pow}
use Rattle.std.specs.Str.Parse.{digits_value, AllDigits}
use Rattle.fast_float.specs.Text.{Parts, digits_of, tens_up, tens_down}
use Rattle.fast_float.proofs.ExactLemmas.{ten_to_pos}
use Rattle.fast_float.proofs.Rows.{AllDigits-append, value_below, cut_last}
use Rattle.float_text.specs.Limbs.{limb_weight}
use Rattle.float_text.specs.Sides.{with_rest}
use Rattle.float_text.proofs.LimbLemmas.{power_pos}
use Rattle.float_text.proofs.OrderLemmas.{order_of, cmp_less, cmp_equal, cmp_greater}

-- ---- exponents of ten in bounds

tens_back : (a b : ℕ) → 10 ^ a < 10 ^ b → a < b
tens_back a b h = lt_of_not-le (λ (g : b ≤ a). not-le_of_lt h (pow-le-pow_right (lit< tt) g))

-- a number that is not too large has not many more zeros than places
pub up_small : (D u d : ℕ) → 0 < D → D * 10 ^ u < 2 ^ 256 * 10 ^ d → u < d + 256
up_small D u d p h =
    let a : 1 * 10 ^ u ≤ D * 10 ^ u = mul-le-mul_right (10 ^ u) p in
    let b : 2 ^ 256 * 10 ^ d ≤ 10 ^ 256 * 10 ^ d = mul-le-mul_right (10 ^ d) (lit≤ tt) in
    let e : 10 ^ (d + 256) ≡ 10 ^ 256 * 10 ^ d = pow-add 10 d 256 ∙ mul_comm (10 ^ d) (10 ^ 256) in
    tens_back u (d + 256) (omega (arith, a, b, e, h))

-- and one that is not too small not many more places than digits
pub down_small : (D n d : ℕ) → D < 10 ^ n → 10 ^ d ≤ D * 2 ^ 282 → d < n + 282
down_small D n d l h =
    let a : D * 2 ^ 282 < 10 ^ n * 2 ^ 282 = mul-lt-mul_of_pos_right l (lit< tt) in
    let b : 10 ^ n * 2 ^ 282 ≤ 10 ^ n * 10 ^ 282 = mul-le-mul_left (10 ^ n) (lit≤ tt) in
    tens_back d (n + 282) (omega (arith, a, b, h, pow-add 10 n 282))

pub some_digits : (D x y : ℕ) → 0 < y → y ≤ D * x * 2 ^ 282 → 0 < D
some_digits zero x y p h = absurd (omega arith)
some_digits (suc D) x y p h = omega arith

-- ---- the digits up to a place

module _ (D u d X s cut zeros k : ℕ) (parts : D ≡ X * 10 ^ cut + s) (below : s < 10 ^ cut) (cut_is : cut ≡ d - (u + k)) (zeros_is : zeros ≡ u + k - d) where
  abbrev kept : ℕ
  kept = X * 10 ^ zeros

  abbrev rest : ℕ
  rest = s * 10 ^ (u + k)

  none_cut : cut ≡ 0 → (s ≡ 0) × (D ≡ X)
  none_cut z =
      let one : 10 ^ cut ≡ 1 = ap (λ x. 10 ^ x) z in
      let none : s ≡ 0 = omega arith in
      (none, parts ∙ (λ i. X * one i + none i) ∙ omega arith)

  no_rest : s ≡ 0 → rest ≡ 0
  no_rest z = ap (λ x. x * 10 ^ (u + k)) z ∙ zero-mul (10 ^ (u + k))

  total : D * 10 ^ (u + k) ≡ kept * 10 ^ d + rest
  total = elim (eq-zero-or-pos cut) [
    | inl z ↦
        let n = none_cut z in
        let e : u + k ≡ zeros + d = omega arith in
        (λ i. n.1 i * 10 ^ e i) ∙ ap (λ x. X * x) (pow-add 10 zeros d) ∙ sym (mul_assoc X (10 ^ zeros) (10 ^ d)) ∙ (let o : rest ≡ 0 = no_rest n.0 in omega arith)
    | inr p ↦
        let z : zeros ≡ 0 = omega arith in
        let e : d ≡ cut + (u + k) = omega arith in
        let one : 10 ^ zeros ≡ 1 = ap (λ x. 10 ^ x) z in
        let ten : 10 ^ d ≡ 10 ^ cut * 10 ^ (u + k) = ap (λ x. 10 ^ x) e ∙ pow-add 10 cut (u + k) in
        ap (λ x. x * 10 ^ (u + k)) parts ∙ add-mul (X * 10 ^ cut) s (10 ^ (u + k))
        ∙ ap (λ x. x + rest) (mul_assoc X (10 ^ cut) (10 ^ (u + k)) ∙ ap (λ x. X * x) (sym ten) ∙ (let m : kept ≡ X = ap (λ x. X * x) one ∙ omega arith in ap (λ x. x * 10 ^ d) (sym m)))
  ]

  rest_below : rest < 10 ^ d
  rest_below = elim (eq-zero-or-pos cut) [
    | inl z ↦ let o : rest ≡ 0 = no_rest (none_cut z).0 in omega (arith, o, ten_to_pos d)
    | inr p ↦
        let e : cut + (u + k) ≡ d = omega arith in
        lt_of_lt_of_le (mul-lt-mul_of_pos_right below (ten_to_pos (u + k))) (le_of_eq (sym (pow-add 10 cut (u + k)) ∙ ap (λ x. 10 ^ x) e))
  ]

  pub kept_room : (m : ℕ) → D * 10 ^ u < m * 10 ^ d → kept < m * 10 ^ k
  kept_room m h =
      let a : D * 10 ^ (u + k) ≡ D * 10 ^ u * 10 ^ k = ap (λ x. D * x) (pow-add 10 u k) ∙ sym (mul_assoc D (10 ^ u) (10 ^ k)) in
      let b : D * 10 ^ u * 10 ^ k < m * 10 ^ d * 10 ^ k = mul-lt-mul_of_pos_right h (ten_to_pos k) in
      let c : m * 10 ^ d * 10 ^ k ≡ m * 10 ^ k * 10 ^ d = mul_right_comm m (10 ^ d) (10 ^ k) in
      lt_of_mul-lt-mul_right (10 ^ d) (omega (arith, a, b, c, total))

  module _ (h : ℕ) (ten : 10 ^ k ≡ 2 ^ k * 5 ^ k) where
    abbrev left : ℕ
    left = D * 10 ^ u * 2 ^ k

    abbrev right : ℕ
    right = h * 10 ^ d

    fives : 0 < 5 ^ k
    fives = power_pos 5 k (omega arith)

    left_is : left * 5 ^ k ≡ kept * 10 ^ d + rest
    left_is = mul_assoc (D * 10 ^ u) (2 ^ k) (5 ^ k) ∙ ap (λ x. D * 10 ^ u * x) (sym ten) ∙ mul_assoc D (10 ^ u) (10 ^ k) ∙ ap (λ x. D * x) (sym (pow-add 10 u k)) ∙ total

    right_is : right * 5 ^ k ≡ h * 5 ^ k * 10 ^ d
    right_is = mul_right_comm h (10 ^ d) (5 ^ k)

    is_less : kept < h * 5 ^ k → left < right
    is_less l =
        let step : (kept + 1) * 10 ^ d ≤ h * 5 ^ k * 10 ^ d = mul-le-mul_right (10 ^ d) (omega arith) in
        lt_of_mul-lt-mul_right (5 ^ k) (omega (arith, left_is, right_is, step, rest_below))

    is_greater : h * 5 ^ k < kept → right < left
    is_greater l =
        let step : (h * 5 ^ k + 1) * 10 ^ d ≤ kept * 10 ^ d = mul-le-mul_right (10 ^ d) (omega arith) in
        lt_of_mul-lt-mul_right (5 ^ k) (omega (arith, left_is, right_is, step, ten_to_pos d))

    is_beyond : kept ≡ h * 5 ^ k → 0 < s → right < left
    is_beyond e p =
        let some : 0 < rest = mul-pos p (ten_to_pos (u + k)) in
        lt_of_mul-lt-mul_right (5 ^ k) (omega (arith, left_is, right_is, ap (λ x. x * 10 ^ d) e, some))

    is_same : kept ≡ h * 5 ^ k → s ≡ 0 → left ≡ right
    is_same e z =
        let none : rest ≡ 0 = no_rest z in
        eq_of_mul-eq-mul_right (5 ^ k) fives left right (omega (arith, left_is, right_is, ap (λ x. x * 10 ^ d) e, none))

    pub stands_so : with_rest (nat_cmp kept (h * 5 ^ k)) (nat_lt 0 s) ≡ nat_cmp left right
    stands_so = elim (order_of kept (h * 5 ^ k)) [
      | inl l ↦ ap (λ o. with_rest o (nat_lt 0 s)) (cmp_less _ _ l) ∙ sym (cmp_less _ _ (is_less l))
      | inr (inl e) ↦ ap (λ o. with_rest o (nat_lt 0 s)) (cmp_equal _ _ e) ∙ elim (eq-zero-or-pos s) [
        | inl z ↦ ap (λ x. with_rest Equal (nat_lt 0 x)) z ∙ sym (cmp_equal _ _ (is_same e z))
        | inr p ↦ ap (with_rest Equal) (lt-ltb 0 s p) ∙ sym (cmp_greater _ _ (is_beyond e p))
      ]
      | inr (inr g) ↦ ap (λ o. with_rest o (nat_lt 0 s)) (cmp_greater _ _ g) ∙ sym (cmp_greater _ _ (is_greater g))
    ]

-- ---- room

pub ten_is : (k : ℕ) → 10 ^ k ≡ 2 ^ k * 5 ^ k
ten_is k = mul-pow 2 5 k

pub decimal_room : (n : ℕ) → n < 2 ^ 256 * 10 ^ 281 → n < limb_weight 19
unfolding limb_weight
decimal_room n h = lt_of_lt_of_le h (lit≤ tt)

pub twos_room : (odd t : ℕ) → odd < 2 ^ 25 → t ≤ 512 → odd * 2 ^ t < 2 ^ 537
twos_room odd t o l = lt_of_lt_of_le (mul-lt-mul_of_pos_right o (power_pos 2 t (omega arith))) (le_trans (mul-le-mul_left (2 ^ 25) (pow_mono l)) (lit≤ tt))

pub middle_room : (m : ℕ) → m < 2 ^ 537 → (m < limb_weight 19) × (m * 5 ^ 281 < limb_weight 19)
unfolding limb_weight
middle_room m h = (lt_of_lt_of_le h (lit≤ tt), lt_of_lt_of_le (mul-lt-mul_of_pos_right h (lit< tt)) (lit≤ tt))

pub kept_up_to : (x t : ℕ) → x ≤ x * 10 ^ t
kept_up_to x t = omega (arith, mul-le-mul_left x (ten_to_pos t))

-- ---- the power of ten of an exponent is in bounds

abbrev Above : ℕ → ℕ → ℕ → Type 0
Above D u d = 10 ^ d ≤ D * 10 ^ u * 2 ^ 282

power_up : (D p f : ℕ) → 10 ^ (f + 0) ≤ D * 10 ^ p * 2 ^ 282 → D * 10 ^ p < 2 ^ 256 * 10 ^ (f + 0) → p < f + 256
power_up D p f a b = omega (arith, up_small D p (f + 0) (some_digits D (10 ^ p) (10 ^ (f + 0)) (ten_to_pos (f + 0)) a) b)

power_down : (D p f n : ℕ) → D < 10 ^ n → 10 ^ (f + p) ≤ D * 1 * 2 ^ 282 → f + p < n + 282
power_down D p f n l a = let e : D * 1 * 2 ^ 282 ≡ D * 2 ^ 282 = omega arith in down_small D n (f + p) l (le_trans a (le_of_eq e))

pub power_small : (b : Bool) (D p f w : ℕ) → D < 10 ^ (w + f) → w < 2 ^ 64 → f < 2 ^ 64 → 10 ^ (f + cond b p 0) ≤ D * 10 ^ (cond b 0 p) * 2 ^ 282 → D * 10 ^ (cond b 0 p) < 2 ^ 256 * 10 ^ (f + cond b p 0) → p < 2 ^ 65
power_small true D p f w l x y a b = omega (arith, power_down D p f (w + f) l a)
power_small false D p f w l x y a b = omega (arith, power_up D p f a b)

-- ---- of a decimal in its parts

module _ (p : Parts) (W F : List ℕ) (w_is : W ≡ p.whole) (f_is : F ≡ p.fraction) (aw : AllDigits 10 W) (af : AllDigits 10 F) where
  pub number_is : digits_of p ≡ digits_value 10 (W ++ F)
  number_is = λ i. digits_value 10 (sym w_is i ++ sym f_is i)

  number_below : digits_value 10 (W ++ F) < 10 ^ (length W + length F)
  number_below =
      let all = ap (digits_value 10) (take_all (length (W ++ F)) (W ++ F) (le_refl _)) in
      let l = value_below (W ++ F) 0 (length (W ++ F)) (AllDigits-append W F aw af) in
      let e : 10 ^ length (W ++ F) ≡ 10 ^ (length W + length F) = ap (λ x. 10 ^ x) (length-append W F) in
      omega (arith, all, l, e)

  pub power_fits : length W < 2 ^ 64 → length F < 2 ^ 64 → 10 ^ tens_down p ≤ digits_of p * 10 ^ tens_up p * 2 ^ 282 → digits_of p * 10 ^ tens_up p < 2 ^ 256 * 10 ^ tens_down p → digits_value 10 p.exponent < 2 ^ 65
  power_fits x y a b =
      let same : length W ≡ length p.whole = ap length w_is in
      let too : length F ≡ length p.fraction = ap length f_is in
      power_small p.exponent_negative (digits_of p) (digits_value 10 p.exponent) (length p.fraction) (length p.whole)
      (lt_of_le_of_lt (le_of_eq number_is) (subst (λ n. digits_value 10 (W ++ F) < 10 ^ n) (λ i. same i + too i) number_below)) (lt_of_le_of_lt (le_of_eq (sym same)) x) (lt_of_le_of_lt (le_of_eq (sym too)) y) a b

  module _ (kept zeros : ℕ) (kept_is : kept ≡ length W + length F - (tens_down p - (tens_up p + 281))) (zeros_is : zeros ≡ tens_up p + 281 - tens_down p) where
    abbrev first : ℕ
    first = digits_value 10 (take kept (W ++ F))

    abbrev others : ℕ
    others = digits_value 10 (drop kept (W ++ F))

    abbrev cut : ℕ
    cut = tens_down p - (tens_up p + 281)

    two_parts : (digits_value 10 (W ++ F) ≡ first * 10 ^ cut + others) × (others < 10 ^ cut)
    two_parts =
        let e : length (W ++ F) - cut ≡ kept = omega (arith, length-append W F) in
        subst (λ n. (digits_value 10 (W ++ F) ≡ digits_value 10 (take n (W ++ F)) * 10 ^ cut + digits_value 10 (drop n (W ++ F))) × (digits_value 10 (drop n (W ++ F)) < 10 ^ cut)) e
        (cut_last (W ++ F) cut (AllDigits-append W F aw af))

    pub first_room : digits_of p * 10 ^ tens_up p < 2 ^ 256 * 10 ^ tens_down p → first * 10 ^ zeros < limb_weight 19
    first_room b = decimal_room (first * 10 ^ zeros) (kept_room (digits_of p) (tens_up p) (tens_down p) first others cut zeros 281 (number_is ∙ two_parts.0) two_parts.1 refl zeros_is (2 ^ 256) b)

    pub stands : (h : ℕ) → with_rest (nat_cmp (first * 10 ^ zeros) (h * 5 ^ 281)) (nat_lt 0 others) ≡ nat_cmp (digits_of p * 10 ^ tens_up p * 2 ^ 281) (h * 10 ^ tens_down p)
    stands h = stands_so (digits_of p) (tens_up p) (tens_down p) first others cut zeros 281 (number_is ∙ two_parts.0) two_parts.1 refl zeros_is h (ten_is 281)
