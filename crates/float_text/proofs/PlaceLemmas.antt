-- The IBM value nearest to a number, from the bits of the binary64 nearest to it.
use Rattle.std.proofs.Common.{◌≡◌, ◌∙◌, ℕ, zero, suc, ◌+◌, ◌-◌, ◌*◌, ◌/◌, ◌%◌, ◌^◌, ◌<◌, ◌≤◌, ℤ, Bool, true, false, T, nat_cmp, None, Less, Equal, Greater, refl, sym, ap, subst, inl, inr, arith, lit<, lit≤, pow_pos, pow_mono, pow-add, eq-zero-or-pos, lt_of_lt_of_le, lt_of_le_of_lt, le_trans, le_of_eq, lt_of_not-le, not-le_of_lt, mul_assoc, mul_comm, mul_right_comm, mul-le-mul_right, mul-le-mul_left, mul-lt-mul_of_pos_right, lt_of_mul-lt-mul_right, div-lt_iff_lt-mul, le-div_iff_mul-le, div-add-mod', mod-lt, mod-eq_of_lt, true≢false, leb-false, leb-true}
use lib.Dec.{leb}
use lib.Pow.{pow-lt}
use lib.Ieee.{Float, nan, inf, fin, binary64, round, le, of_bits, to_bits}
use lib.Ieee.Bits.{of_bits-to_bits}
use lib.Ieee.Fits.{round-fits}
use lib.Ieee.Exact.{HasValue}
use lib.Ieee.Order.{round_mono}
use mathlib.Core.Logic.{◌⊎◌}
use Rattle.std.specs.Float.{float_is_finite}
use Rattle.float_codes.specs.Nearest.{ibm_nearest, ibm_pack}
use Rattle.float_codes.proofs.NearestLemmas.{field, finite_bits, value_of_bits, value_of_bits-zero}
use Rattle.float_text.specs.Sides.{rounded_to}
use Rattle.float_text.proofs.OrderLemmas.{order_of, cmp_less, cmp_greater}
use Rattle.float_text.proofs.SignLemmas.{HasSign, sign_round}
use Rattle.float_text.proofs.NearLemmas.{nearest_at, side_below, side_above, above_float, below_float, far_past, exact_float, not_above, nan_not_below, infinite_not_below}

pub shifted_unit : (b : ℕ) → b ≤ 54 → 1 * 2 ^ b % 2 ^ 64 ≡ 2 ^ b
shifted_unit b h =
    let below : suc b ≤ 64 = omega arith in
    let e : 1 * 2 ^ b ≡ 2 ^ b = omega arith in
    ap (λ (x : ℕ). x % 2 ^ 64) e ∙ mod-eq_of_lt (pow-lt below)

pub whole_small : (d b : ℕ) → d < 2 ^ 53 → 29 ≤ b → d / 2 ^ b < 2 ^ 24
whole_small d b h k =
    let p : 2 ^ 29 ≤ 2 ^ b = pow_mono k in
    let q : 2 ^ 24 * 2 ^ 29 ≤ 2 ^ 24 * 2 ^ b = omega arith in
    (div-lt_iff_lt-mul (pow_pos b)).1 (lt_of_lt_of_le h q)

pub whole_large : (d b : ℕ) → 2 ^ 52 ≤ d → b ≤ 32 → 2 ^ 20 ≤ d / 2 ^ b
whole_large d b h k =
    let p : 2 ^ b ≤ 2 ^ 32 = pow_mono k in
    let q : 2 ^ 20 * 2 ^ b ≤ 2 ^ 20 * 2 ^ 32 = omega arith in
    (le-div_iff_mul-le (pow_pos b)).1 (le_trans q h)

-- ---- by the place of the float: d * 2 ^ x is the whole part and the rest of d, over 2 ^ y, in units of the IBM fraction

module _ (a c d x y k : ℕ) (C : 0 < c) (v : HasValue (round binary64 false a c) false (d * 2 ^ x) (2 ^ 1074)) (K : k ≤ 128) (sum : x + y ≡ 794 + 4 * k) (small : d < 2 ^ 53) (by : 29 ≤ y)
    (normal : 0 < k → 2 ^ 20 ≤ d / 2 ^ y) where
  abbrev m : ℕ
  m = d / 2 ^ y

  abbrev r : ℕ
  r = d % 2 ^ y

  whole : d ≡ m * 2 ^ y + r
  whole = sym (div-add-mod' d (2 ^ y))

  rest : r < 2 ^ y
  rest = mod-lt d (pow_pos y)

  unit_of : 2 ^ y * 2 ^ x ≡ 2 ^ (794 + 4 * k)
  unit_of = let e : y + x ≡ 794 + 4 * k = omega (arith, sum) in sym (pow-add 2 y x) ∙ ap (λ z. 2 ^ z) e

  times : (g : ℕ) → g * 2 ^ y * 2 ^ x ≡ g * 2 ^ (794 + 4 * k)
  times g = mul_assoc g (2 ^ y) (2 ^ x) ∙ ap (λ z. g * z) unit_of

  from : m * 2 ^ (794 + 4 * k) ≤ d * 2 ^ x
  from = let l : m * 2 ^ y ≤ d = omega (arith, whole) in le_trans (le_of_eq (sym (times m))) (mul-le-mul_right (2 ^ x) l)

  to : d * 2 ^ x < m * 2 ^ (794 + 4 * k) + 2 ^ (794 + 4 * k)
  to =
      let l : d < (m + 1) * 2 ^ y = omega (arith, whole, rest) in
      let b : d * 2 ^ x < (m + 1) * 2 ^ (794 + 4 * k) = lt_of_lt_of_le (mul-lt-mul_of_pos_right l (pow_pos x)) (le_of_eq (times (m + 1))) in
      omega (arith, b)

  few : m < 2 ^ 24
  few = whole_small d y small by

  twice : 2 * (d * 2 ^ x) ≡ 2 * d * 2 ^ x
  twice = omega arith

  at_place : (s : Bool) → ibm_nearest s a c ≡ ibm_pack s k (rounded_to m (nat_cmp (2 * (a * 2 ^ 280)) ((2 * m + 1) * (c * 2 ^ (4 * k)))))
  at_place s = nearest_at a c (d * 2 ^ x) C v k K m few normal from to s

  pub place_below : (s : Bool) → r * 2 < 2 ^ y → ibm_nearest s a c ≡ ibm_pack s k (rounded_to m Less)
  place_below s h =
      let l : 2 * d < (2 * m + 1) * 2 ^ y = omega (arith, whole, h) in
      let b : 2 * (d * 2 ^ x) < (2 * m + 1) * 2 ^ (794 + 4 * k) = lt_of_le_of_lt (le_of_eq twice) (lt_of_lt_of_le (mul-lt-mul_of_pos_right l (pow_pos x)) (le_of_eq (times (2 * m + 1)))) in
      at_place s ∙ ap (λ o. ibm_pack s k (rounded_to m o)) (cmp_less (2 * (a * 2 ^ 280)) ((2 * m + 1) * (c * 2 ^ (4 * k))) (side_below a c (d * 2 ^ x) C v k K m few normal from to b))

  pub place_above : (s : Bool) → 2 ^ y < r * 2 → ibm_nearest s a c ≡ ibm_pack s k (rounded_to m Greater)
  place_above s h =
      let l : (2 * m + 1) * 2 ^ y < 2 * d = omega (arith, whole, h) in
      let b : (2 * m + 1) * 2 ^ (794 + 4 * k) < 2 * (d * 2 ^ x) = lt_of_le_of_lt (le_of_eq (sym (times (2 * m + 1)))) (lt_of_lt_of_le (mul-lt-mul_of_pos_right l (pow_pos x)) (le_of_eq (sym twice))) in
      at_place s ∙ ap (λ o. ibm_pack s k (rounded_to m o)) (cmp_greater (2 * (a * 2 ^ 280)) ((2 * m + 1) * (c * 2 ^ (4 * k))) (side_above a c (d * 2 ^ x) C v k K m few normal from to b))

  pub place_middle : (s : Bool) → ibm_nearest s a c ≡ ibm_pack s k (rounded_to m (nat_cmp (a * 2 ^ 281) ((2 * m + 1) * 2 ^ (4 * k) * c)))
  place_middle s =
      let p : 2 * (a * 2 ^ 280) ≡ a * 2 ^ 281 = omega arith in
      let q : (2 * m + 1) * (c * 2 ^ (4 * k)) ≡ (2 * m + 1) * 2 ^ (4 * k) * c = ap (λ z. (2 * m + 1) * z) (mul_comm c (2 ^ (4 * k))) ∙ sym (mul_assoc (2 * m + 1) (2 ^ (4 * k)) c) in
      at_place s ∙ (λ i. ibm_pack s k (rounded_to m (nat_cmp (p i) (q i))))

  -- such a number is neither too small nor too large to be compared
  pub middle_above : r * 2 ≡ 2 ^ y → c ≤ a * 2 ^ 282
  middle_above h =
      let l : 2 ^ y ≤ 2 * d = omega (arith, whole, h) in
      let b : 2 ^ (794 + 4 * k) ≤ 2 * (d * 2 ^ x) = le_trans (le_of_eq (sym unit_of)) (le_trans (mul-le-mul_right (2 ^ x) l) (le_of_eq (sym twice))) in
      let e : 2 ^ 794 ≤ 2 ^ (794 + 4 * k) = pow_mono {i = 794} {j = 794 + 4 * k} (omega arith) in
      let g = above_float a c (d * 2 ^ x) C v 1 792 (lit< tt) (lit≤ tt) (omega (arith, b, e)) in
      omega (arith, g)

  pub middle_below : x ≤ 1277 → a < 2 ^ 256 * c
  middle_below h =
      let b : d * 2 ^ x < 2 ^ 53 * 2 ^ x = mul-lt-mul_of_pos_right small (pow_pos x) in
      let e : 2 ^ x ≤ 2 ^ 1277 = pow_mono h in
      let g = below_float a c (d * 2 ^ x) C v 1 1330 (lit< tt) (lit≤ tt) (omega (arith, b, e)) in
      omega (arith, g)

-- ---- the bits of a float that is not negative

finite_is : (s : Bool) (m : ℕ) (e : ℤ) → float_is_finite (fin s m e) ≡ true
unfolding float_is_finite
finite_is s m e = refl

pub sign_of_value : (v : Float) (s t : Bool) (a c : ℕ) → HasValue v s a c → HasSign t v → s ≡ t
unfolding HasSign
sign_of_value nan s t a c h g = absurd h
sign_of_value (inf r) s t a c h g = absurd h
sign_of_value (fin r m e) s t a c h g = sym h.0 ∙ g

module _ (v : Float) (b : ℕ) (is : of_bits binary64 b ≡ v) (sign : HasSign false v) where
  not_negative : (V : ℕ) → HasValue (of_bits binary64 b) (leb (2 ^ 63) b) V (2 ^ 1074) → leb (2 ^ 63) b ≡ false
  not_negative V h = sign_of_value (of_bits binary64 b) (leb (2 ^ 63) b) false V (2 ^ 1074) h (subst (HasSign false) (sym is) sign)

  valued : (V : ℕ) → HasValue (of_bits binary64 b) (leb (2 ^ 63) b) V (2 ^ 1074) → (b < 2 ^ 63) × HasValue v false V (2 ^ 1074)
  valued V h =
      let n = not_negative V h in
      (leb-false (2 ^ 63) b n, subst (λ w. HasValue w false V (2 ^ 1074)) is (subst (λ s. HasValue (of_bits binary64 b) s V (2 ^ 1074)) n h))

  pub value_at_field : (x : ℕ) → field b ≡ suc x → suc x < 2047 → (b < 2 ^ 63) × HasValue v false ((b % 2 ^ 52 + 2 ^ 52) * 2 ^ x) (2 ^ 1074)
  value_at_field x e l = valued ((b % 2 ^ 52 + 2 ^ 52) * 2 ^ x) (value_of_bits b x e l)

  pub value_at_zero : field b ≡ 0 → (b < 2 ^ 63) × HasValue v false (b % 2 ^ 52 * 2 ^ 0) (2 ^ 1074)
  value_at_zero e = valued (b % 2 ^ 52 * 2 ^ 0) (value_of_bits-zero b e)

-- far below the smallest IBM value
nothing : (a c d x y : ℕ) → 0 < c → HasValue (round binary64 false a c) false (d * 2 ^ x) (2 ^ 1074) → x + y ≡ 794 → d < 2 ^ 53 → 54 ≤ y → (s : Bool) → ibm_nearest s a c ≡ ibm_pack s 0 0
nothing a c d x y C v sum small by s =
    let p : 2 ^ 54 ≤ 2 ^ y = pow_mono by in
    let none : d / 2 ^ y < 1 = (div-lt_iff_lt-mul (pow_pos y)).1 (omega (arith, p)) in
    let zero_is : d / 2 ^ y ≡ 0 = omega arith in
    let rest_small : d % 2 ^ y * 2 < 2 ^ y = (let q = div-add-mod' d (2 ^ y) in omega (arith, q, p)) in
    place_below a c d x y 0 C v (lit≤ tt) sum small (omega arith) (λ h. absurd (omega arith)) s rest_small ∙ ap (ibm_pack s 0) zero_is

module _ (a c b : ℕ) (C : 0 < c) (bits : b ≡ to_bits binary64 (round binary64 false a c)) (word : b < 2 ^ 64) where
  abbrev near : Float
  near = round binary64 false a c

  bits_is : of_bits binary64 b ≡ near
  bits_is = ap (of_bits binary64) bits ∙ of_bits-to_bits binary64 near (round-fits binary64 false a c)

  near_sign : HasSign false near
  near_sign = sign_round binary64 false a c

  pub too_small : (s : Bool) → b / 2 ^ 52 < 741 → ibm_nearest s a c ≡ ibm_pack s 0 0
  too_small s h = go (field b) refl
    where
      go : (z : ℕ) → field b ≡ z → ibm_nearest s a c ≡ ibm_pack s 0 0
      go zero e = nothing a c (b % 2 ^ 52) 0 794 C (value_at_zero near b bits_is near_sign e).1 (omega arith) (omega arith) (omega arith) s
      go (suc x) e = nothing a c (b % 2 ^ 52 + 2 ^ 52) x (794 - x) C (value_at_field near b bits_is near_sign x e (omega arith)).1 (omega arith) (omega arith) (omega arith) s

  -- not as large as 2 ^ 256
  large_value : 1279 ≤ b / 2 ^ 52 → T (le near (round binary64 false (1 * 2 ^ 1329) (2 ^ 1074))) → ⊥
  large_value h l = go near refl l
    where
      limit : HasValue (round binary64 false (1 * 2 ^ 1329) (2 ^ 1074)) false (1 * 2 ^ 1329) (2 ^ 1074)
      limit = exact_float 1 1329 (lit< tt) (lit≤ tt)

      go : (w : Float) → near ≡ w → T (le w (round binary64 false (1 * 2 ^ 1329) (2 ^ 1074))) → ⊥
      go nan e l = nan_not_below _ l
      go (inf t) e l = infinite_not_below t _ (1 * 2 ^ 1329) (2 ^ 1074) (subst (HasSign false) e near_sign) limit l
      go (fin t m k) e l = by_field (field b) refl
        where
          finite : field b < 2047
          finite = finite_bits b (ap float_is_finite (bits_is ∙ e) ∙ finite_is t m k)

          order : T (le near (round binary64 false (1 * 2 ^ 1329) (2 ^ 1074)))
          order = subst (λ z. T (le z (round binary64 false (1 * 2 ^ 1329) (2 ^ 1074)))) (sym e) l

          by_field : (z : ℕ) → field b ≡ z → ⊥
          by_field zero f = let g = value_at_zero near b bits_is near_sign f in omega (arith, g.0)
          by_field (suc x) f =
              let g = value_at_field near b bits_is near_sign x f (omega (arith, finite)) in
              let most = not_above near (round binary64 false (1 * 2 ^ 1329) (2 ^ 1074)) ((b % 2 ^ 52 + 2 ^ 52) * 2 ^ x) (1 * 2 ^ 1329) (2 ^ 1074) (pow_pos 1074) g.1 limit order in
              let large : 2 ^ 1278 ≤ 2 ^ x = pow_mono {i = 1278} {j = x} (omega (arith, g.0)) in
              let least : 2 ^ 52 * 2 ^ x ≤ (b % 2 ^ 52 + 2 ^ 52) * 2 ^ x = mul-le-mul_right (2 ^ x) (omega arith) in
              omega (arith, most, large, least)

  pub too_large : (s : Bool) → 1279 ≤ b / 2 ^ 52 → ibm_nearest s a c ≡ None
  too_large s h = far_past s a c C (not_less (λ l. large_value h (round_mono binary64 a c (1 * 2 ^ 1329) (2 ^ 1074) C (pow_pos 1074) (omega (arith, l)))))
    where
      not_less : (a * 2 ^ 280 < 2 ^ 535 * c → ⊥) → 2 ^ 535 * c ≤ a * 2 ^ 280
      not_less n = elim (order_of (a * 2 ^ 280) (2 ^ 535 * c)) [ inl l ↦ absurd (n l) | inr (inl e) ↦ omega arith | inr (inr g) ↦ omega arith ]

  -- the main case
  module _ (k : ℕ) (from : 741 ≤ b / 2 ^ 52) (to : b / 2 ^ 52 < 1279) (low : b / 2 ^ 52 < 763 → k ≡ 0) (high : 763 ≤ b / 2 ^ 52 → k ≡ (b / 2 ^ 52 - 763) / 4) where
    abbrev e : ℕ
    e = b / 2 ^ 52

    abbrev digits : ℕ
    digits = b % 2 ^ 52 + 2 ^ 52

    abbrev by : ℕ
    by = 795 + 4 * k - e

    k_is : ((e < 763) × (k ≡ 0)) ⊎ ((763 ≤ e) × (k ≡ (e - 763) / 4))
    k_is = elim (eq-zero-or-pos (763 - e)) [ inl z ↦ (let h : 763 ≤ e = omega arith in inr (h, high h)) | inr p ↦ (let h : e < 763 = omega arith in inl (h, low h)) ]

    value : HasValue near false (digits * 2 ^ (e - 1)) (2 ^ 1074)
    value = let f : field b ≡ suc (e - 1) = omega arith in (value_at_field near b bits_is near_sign (e - 1) f (omega arith)).1

    record Fits : Type 0 where
      up_to : k ≤ 128
      sum : e - 1 + by ≡ 794 + 4 * k
      least : 29 ≤ by
      most : by ≤ 54
      normal : 0 < k → by ≤ 32

    fits : Fits
    fits = elim k_is [
      | inl h ↦ (let z : k ≡ 0 = h.1 in let l = h.0 in record { up_to = omega arith; sum = omega arith; least = omega arith; most = omega arith; normal = λ p. absurd (omega arith) })
      | inr h ↦ (let z : k ≡ (e - 763) / 4 = h.1 in let l = h.0 in record { up_to = omega arith; sum = omega arith; least = omega arith; most = omega arith; normal = λ p. omega arith })
    ]

    pub by_bounds : (29 ≤ by) × (by ≤ 54)
    by_bounds = (fits.least, fits.most)

    small : digits < 2 ^ 53
    small = omega arith

    normal_digits : 0 < k → 2 ^ 20 ≤ digits / 2 ^ by
    normal_digits p = whole_large digits by (omega arith) (fits.normal p)

    pub bits_below : (s : Bool) → digits % 2 ^ by * 2 < 2 ^ by → ibm_nearest s a c ≡ ibm_pack s k (rounded_to (digits / 2 ^ by) Less)
    bits_below s h = place_below a c digits (e - 1) by k C value fits.up_to fits.sum small fits.least normal_digits s h

    pub bits_above : (s : Bool) → 2 ^ by < digits % 2 ^ by * 2 → ibm_nearest s a c ≡ ibm_pack s k (rounded_to (digits / 2 ^ by) Greater)
    bits_above s h = place_above a c digits (e - 1) by k C value fits.up_to fits.sum small fits.least normal_digits s h

    pub bits_middle : (s : Bool) → ibm_nearest s a c ≡ ibm_pack s k (rounded_to (digits / 2 ^ by) (nat_cmp (a * 2 ^ 281) ((2 * (digits / 2 ^ by) + 1) * 2 ^ (4 * k) * c)))
    bits_middle s = place_middle a c digits (e - 1) by k C value fits.up_to fits.sum small fits.least normal_digits s

    pub bits_room : digits % 2 ^ by * 2 ≡ 2 ^ by → (c ≤ a * 2 ^ 282) × (a < 2 ^ 256 * c)
    bits_room h = (
      middle_above a c digits (e - 1) by k C value fits.up_to fits.sum small fits.least normal_digits h,
      middle_below a c digits (e - 1) by k C value fits.up_to fits.sum small fits.least normal_digits (omega arith),
    )
