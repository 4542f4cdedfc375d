-- On which side of the float nearest to it a number lies, from the digits of that float.
use Rattle.std.proofs.Common.{◌≡◌, ◌∙◌, ℕ, ◌+◌, ◌-◌, ◌*◌, ◌/◌, ◌^◌, ◌<◌, ◌≤◌, ℤ, pos, true, false, T, nat_cmp, Less, Equal, Greater, [], ◌∷◌, refl, sym, ap, subst, inl, inr, arith, lit<, pow_pos, pow-add, pow_mono, lt_of_not-le, lt_of_lt_of_le, le_trans, le_of_eq, mul-pos, mul_assoc, mul_right_comm, mul-lt-mul_of_pos_right, mul-div_cancel, true≢false, eq-zero-or-pos, zero-mul, mul-one, one-mul, sum_by}
use lib.Ieee.{Float, nan, inf, fin, binary64, round, up, down, le, mul, of_bits, sum}
use lib.Ieee.Fits.{down_pos}
use lib.Ieee.Exact.{HasValue, round_exact}
use lib.Ieee.Order.{round_mono}
use lib.Ieee.Scale.{round_same}
use Rattle.std.specs.Float.{float_is_finite}
use Rattle.float_sum.specs.Sums.{units_of, plus_of, minus_of, total_of}
use Rattle.float_sum.proofs.RoundLemmas.{sum_plus}
use Rattle.float_text.proofs.OrderLemmas.{cmp_equal, cmp_greater}
use Rattle.float_text.proofs.SignLemmas.{HasSign}
use Rattle.float_text.proofs.NearLemmas.{not_above, infinite_not_below}
use Rattle.exact_amounts.specs.Numbers.{Fraction}
use Rattle.exact_amounts.specs.Places.{compares}
use Rattle.exact_amounts.proofs.NearLemmas.{compares_size, near_is, finite_is}

units_are : (v : Float) (V : ℕ) → HasValue v false V (2 ^ 1074) → V ≡ units_of v
units_are nan V h = absurd h
units_are (inf t) V h = absurd h
units_are (fin t m e) V h = sym (ap (λ k. k / down e) h.1 ∙ mul-div_cancel V (down_pos e))

not_finite : float_is_finite (inf false) ≡ false
unfolding float_is_finite
not_finite = refl

finite_of_value : (v : Float) (V c : ℕ) → HasValue v false V c → float_is_finite v ≡ true
finite_of_value nan V c h = absurd h
finite_of_value (inf t) V c h = absurd h
finite_of_value (fin t m e) V c h = finite_is t m e

-- half of the smallest float is rounded to 0, and 2 ^ 1024 to an infinity
tiny : HasValue (round binary64 false 1 (2 ^ 1075)) false 0 (2 ^ 1074)
unfolding round
tiny = (refl, refl)

huge : round binary64 false (2 ^ 1024) 1 ≡ inf false
unfolding round
huge = refl

plus_sign : HasSign false (inf false)
unfolding HasSign
plus_sign = refl

module _ (a c : ℕ) (C : 0 < c) where
  abbrev near : Float
  near = round binary64 false a c

  pub infinite_side : float_is_finite near ≡ false → Less ≡ compares (Fraction false a c) near
  infinite_side f = elim (near_is a c C) [
    | inl x ↦ absurd (true≢false (sym (finite_of_value near x.1.0 (2 ^ 1074) x.1.1.value) ∙ f))
    | inr i ↦ sym (ap (compares (Fraction false a c)) i.1)
  ]

  -- a finite one has the size of its units
  finite_value : float_is_finite near ≡ true → HasValue near false (units_of near) (2 ^ 1074)
  finite_value f = elim (near_is a c C) [
    | inl x ↦ (let v = x.1.1.value in subst (λ V. HasValue near false V (2 ^ 1074)) (units_are near x.1.0 v) v)
    | inr i ↦ absurd (true≢false (sym f ∙ ap float_is_finite i.1 ∙ not_finite))
  ]

  pub finite_side : float_is_finite near ≡ true → (V : ℕ) → V ≡ units_of near → nat_cmp (a * 2 ^ 1074) (V * c) ≡ compares (Fraction false a c) near
  finite_side f V e = ap (λ x. nat_cmp (a * 2 ^ 1074) (x * c)) e ∙ sym (compares_size near a c (units_of near) (finite_value f))

  pub not_tiny : float_is_finite near ≡ true → 0 < units_of near → c ≤ a * 2 ^ 1075
  not_tiny f p = le_of_not-lt (λ (l : a * 2 ^ 1075 < c).
      let h : a * 2 ^ 1075 ≤ 1 * c = omega arith in
      let g = not_above near (round binary64 false 1 (2 ^ 1075)) (units_of near) 0 (2 ^ 1074) (pow_pos 1074) (finite_value f) tiny (round_mono binary64 a c 1 (2 ^ 1075) C (pow_pos 1075) h) in
      omega arith)
    where
      le_of_not-lt : {x y : ℕ} → (x < y → ⊥) → y ≤ x
      le_of_not-lt {x} {y} h = elim (eq-zero-or-pos (y - x)) [ inl z ↦ omega arith | inr q ↦ absurd (h (omega arith)) ]

  pub not_huge : float_is_finite near ≡ true → a < 2 ^ 1024 * c
  not_huge f = lt_of_not-le (λ (l : 2 ^ 1024 * c ≤ a).
      let h : 2 ^ 1024 * c ≤ a * 1 = omega arith in
      infinite_not_below false near (units_of near) (2 ^ 1074) plus_sign (finite_value f) (subst (λ x. T (le x near)) huge (round_mono binary64 (2 ^ 1024) 1 a c (lit< tt) C h)))

  -- the same of the float by another name
  module _ (v : Float) (e : v ≡ near) where
    pub infinite_side_of : float_is_finite v ≡ false → Less ≡ compares (Fraction false a c) v
    infinite_side_of f = infinite_side (ap float_is_finite (sym e) ∙ f) ∙ ap (compares (Fraction false a c)) (sym e)

    pub finite_side_of : float_is_finite v ≡ true → (V : ℕ) → V ≡ units_of v → nat_cmp (a * 2 ^ 1074) (V * c) ≡ compares (Fraction false a c) v
    finite_side_of f V q = finite_side (ap float_is_finite (sym e) ∙ f) V (q ∙ ap units_of e) ∙ ap (compares (Fraction false a c)) (sym e)

    pub not_tiny_of : float_is_finite v ≡ true → 0 < units_of v → c ≤ a * 2 ^ 1075
    not_tiny_of f p = not_tiny (ap float_is_finite (sym e) ∙ f) (subst (λ w. 0 < units_of w) e p)

    pub not_huge_of : float_is_finite v ≡ true → a < 2 ^ 1024 * c
    not_huge_of f = not_huge (ap float_is_finite (sym e) ∙ f)

    -- where the float is 0
    pub side_above_zero : float_is_finite v ≡ true → (V : ℕ) → V ≡ units_of v → V ≡ 0 → 0 < a → Greater ≡ compares (Fraction false a c) v
    side_above_zero f V q z p =
        let o : V * c ≡ 0 = ap (λ x. x * c) z ∙ zero-mul c in
        let g = mul-pos p (pow_pos 1074) in
        sym (cmp_greater (a * 2 ^ 1074) (V * c) (omega arith)) ∙ finite_side_of f V q

    pub side_at_zero : float_is_finite v ≡ true → (V : ℕ) → V ≡ units_of v → V ≡ 0 → a ≡ 0 → Equal ≡ compares (Fraction false a c) v
    side_at_zero f V q z p =
        let o : V * c ≡ 0 = ap (λ x. x * c) z ∙ zero-mul c in
        let g : a * 2 ^ 1074 ≡ 0 = ap (λ x. x * 2 ^ 1074) p ∙ zero-mul (2 ^ 1074) in
        sym (cmp_equal (a * 2 ^ 1074) (V * c) (g ∙ sym o)) ∙ finite_side_of f V q

-- ---- the float nearest to a whole number, from its pieces

pub scaled_value : (d k : ℕ) → d < 2 ^ 53 → k ≤ 106 → (x u : Float) → HasValue x false d 1 → u ≡ fin false 1 (pos k) → HasValue (mul binary64 x u) false (d * 2 ^ k) 1
unfolding mul
scaled_value d k h l nan u g e = absurd g
scaled_value d k h l (inf t) u g e = absurd g
scaled_value d k h l (fin true m n) u g e = absurd (true≢false g.0)
scaled_value d k h l (fin false m n) u g e =
    let same : m * up n * (1 * 2 ^ k) * 1 ≡ d * 2 ^ k * (down n * 1) = regroup (m * up n) (2 ^ k) d (down n) g.1 in
    let up_to : 53 + (k + 1074) ≤ 2098 = omega arith in
    let room : d * 2 ^ (k + 1074) < 2 ^ 2098 = lt_of_lt_of_le (mul-lt-mul_of_pos_right h (pow_pos (k + 1074))) (le_trans (le_of_eq (sym (pow-add 2 53 (k + 1074)))) (pow_mono up_to)) in
    let units : d * 2 ^ k * 2 ^ 1074 ≡ d * 2 ^ (k + 1074) * 1 = mul_assoc d (2 ^ k) (2 ^ 1074) ∙ ap (λ z. d * z) (sym (pow-add 2 k 1074)) ∙ sym (mul-one (d * 2 ^ (k + 1074))) in
    let is : mul binary64 (fin false m n) u ≡ round binary64 false (d * 2 ^ k) 1 =
    ap (λ w. mul binary64 (fin false m n) w) e ∙ round_same binary64 false (m * up n * (1 * 2 ^ k)) (down n * 1) (d * 2 ^ k) 1 (mul-pos (down_pos n) (lit< tt)) (lit< tt) same in
    subst (λ w. HasValue w false (d * 2 ^ k) 1) (sym is) (round_exact binary64 false (d * 2 ^ k) 1 d (k + 1074) (lit< tt) h room units)
  where
    regroup : (x y d z : ℕ) → x * 1 ≡ d * z → x * (1 * y) * 1 ≡ d * y * (z * 1)
    regroup x y d z e = mul-one _ ∙ ap (λ t. x * t) (one-mul y) ∙ ap (λ t. t * y) (sym (mul-one x) ∙ e) ∙ mul_right_comm d z y ∙ ap (λ t. d * y * t) (sym (mul-one z))

-- a whole float, as a sum sees it
pub record IsWhole (v : Float) (n : ℕ) : Type 0 where
  pub digits : ℕ
  pub power : ℤ
  pub is : v ≡ fin false digits power
  pub units : units_of (fin false digits power) ≡ n * 2 ^ 1074

pub whole_of_value : (v : Float) (n : ℕ) → HasValue v false n 1 → IsWhole v n
whole_of_value nan n h = absurd h
whole_of_value (inf t) n h = absurd h
whole_of_value (fin true m e) n h = absurd (true≢false h.0)
whole_of_value (fin false m e) n h =
    let up_is : m * up e ≡ n * down e = sym (mul-one (m * up e)) ∙ h.1 in
    record {
      digits = m;
      power = e;
      is = refl;
      units = ap (λ x. x * 2 ^ 1074 / down e) up_is ∙ ap (λ x. x / down e) (mul_right_comm n (down e) (2 ^ 1074)) ∙ mul-div_cancel (n * 2 ^ 1074) (down_pos e);
    }

-- the powers of two, by their patterns
pub first_unit : of_bits binary64 0x3ff0_0000_0000_0000 ≡ fin false 1 (pos 0)
unfolding of_bits
first_unit = refl

pub second_unit : of_bits binary64 0x4340_0000_0000_0000 ≡ fin false 1 (pos 53)
unfolding of_bits
second_unit = refl

pub third_unit : of_bits binary64 0x4690_0000_0000_0000 ≡ fin false 1 (pos 106)
unfolding of_bits
third_unit = refl

-- the sum of three
three : (m n o : ℕ) (e f g : ℤ) → total_of (fin false m e ∷ fin false n f ∷ fin false o g ∷ [])
    ≡ sum binary64 false (sum_by plus_of (fin false m e ∷ fin false n f ∷ fin false o g ∷ [])) true (sum_by minus_of (fin false m e ∷ fin false n f ∷ fin false o g ∷ [])) (2 ^ 1074)
unfolding float_is_finite
three m n o e f g = refl

pub pieces_sum : (x y z : Float) (a b c n : ℕ) → IsWhole x a → IsWhole y b → IsWhole z c → a + b + c ≡ n → total_of (x ∷ y ∷ z ∷ []) ≡ round binary64 false n 1
pieces_sum x y z a b c n p q r e =
    let s = fin false p.digits p.power in
    let t = fin false q.digits q.power in
    let u = fin false r.digits r.power in
    let all : sum_by plus_of (s ∷ t ∷ u ∷ []) ≡ n * 2 ^ 1074 = plus_all s t u ∙ (λ i. 0 + p.units i + q.units i + r.units i) ∙ omega (arith, ap (λ k. k * 2 ^ 1074) e) in
    let none : sum_by minus_of (s ∷ t ∷ u ∷ []) ≡ 0 = refl in
    let whole : n * 2 ^ 1074 * 1 ≡ n * 2 ^ 1074 = omega arith in
    let nothing : n * 2 ^ 1074 + 0 ≡ n * 2 ^ 1074 = omega arith in
    (λ i. total_of (p.is i ∷ q.is i ∷ r.is i ∷ [])) ∙ three p.digits q.digits r.digits p.power q.power r.power ∙ (λ i. sum binary64 false (all i) true (none i) (2 ^ 1074))
    ∙ sym (sum_plus (n * 2 ^ 1074) 0 (n * 2 ^ 1074) nothing) ∙ round_same binary64 false (n * 2 ^ 1074) (2 ^ 1074) n 1 (pow_pos 1074) (lit< tt) whole
  where
    plus_all : (s t u : Float) → sum_by plus_of (s ∷ t ∷ u ∷ []) ≡ 0 + plus_of s + plus_of t + plus_of u
    plus_all s t u = refl
