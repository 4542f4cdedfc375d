-- The float nearest to a fraction, and how the fraction compares with each float.
use Rattle.std.proofs.Common.{◌≡◌, ◌∙◌, ℕ, zero, suc, ◌+◌, ◌*◌, ◌^◌, ◌<◌, ◌≤◌, ◌⊎◌, ℤ, Bool, true, false, T, nat_cmp, Less, Greater, refl, sym, ap, subst, inl, inr, arith, pow_pos, lt_of_not-le, not-le_of_lt, mul-pos, mul_right_comm, true≢false, eq-zero-or-pos, zero-mul}
use lib.Ieee.{Float, nan, inf, fin, binary64, round, up, down, le, lt, neg, of_bits, to_bits}
use lib.Ieee.Fits.{down_pos, round-fits}
use lib.Ieee.Exact.{HasValue}
use lib.Ieee.Order.{round_mono}
use lib.Ieee.Bits.{of_bits-to_bits}
use Rattle.std.specs.Float.{float_is_finite}
use Rattle.std.specs.Ordering.{ordering_reverse}
use Rattle.float_codes.proofs.NearestLemmas.{field, finite_bits}
use Rattle.float_text.proofs.OrderLemmas.{cmp_less, cmp_greater}
use Rattle.float_text.proofs.SignLemmas.{HasSign, sign_round}
use Rattle.float_text.proofs.NearLemmas.{not_above, infinite_not_below}
use Rattle.float_text.proofs.PlaceLemmas.{value_at_field, value_at_zero}
use Rattle.exact_amounts.specs.Numbers.{Fraction}
use Rattle.exact_amounts.specs.Places.{compares}
use Rattle.exact_amounts.proofs.SignedLemmas.{pos_cmp, both_minus, minus_right, minus_left, cmp_scaled}
use Rattle.exact_amounts.proofs.FloatLemmas.{most, HasSize, size_of_bits, size_is_exact, less_values, less_bits}

-- ---- a fraction and a float of a size

pub compares_size : (v : Float) (a c V : ℕ) → HasValue v false V (2 ^ 1074) → compares (Fraction false a c) v ≡ nat_cmp (a * 2 ^ 1074) (V * c)
compares_size nan a c V h = absurd h
compares_size (inf s) a c V h = absurd h
compares_size (fin true m e) a c V h = absurd (true≢false h.0)
compares_size (fin false m e) a c V h =
    let p : a * down e * 2 ^ 1074 ≡ a * 2 ^ 1074 * down e = mul_right_comm a (down e) (2 ^ 1074) in
    let q : m * up e * c * 2 ^ 1074 ≡ V * c * down e = mul_right_comm (m * up e) c (2 ^ 1074) ∙ ap (λ x. x * c) h.1 ∙ mul_right_comm V (down e) c in
    pos_cmp (a * down e) (m * up e * c) ∙ cmp_scaled (a * down e) (m * up e * c) (2 ^ 1074) (pow_pos 1074) ∙ (λ i. nat_cmp (p i) (q i)) ∙ sym (cmp_scaled (a * 2 ^ 1074) (V * c) (down e) (down_pos e))

-- ---- with the other sign

pub compares_neg : (v : Float) (a c : ℕ) → HasSign false v → compares (Fraction true a c) (neg v) ≡ ordering_reverse (compares (Fraction false a c) v)
unfolding neg HasSign
compares_neg nan a c h = absurd h
compares_neg (inf true) a c h = absurd (true≢false h)
compares_neg (inf false) a c h = refl
compares_neg (fin true m e) a c h = absurd (true≢false h)
compares_neg (fin false m e) a c h = both_minus (a * down e) (m * up e * c) ∙ sym (ap ordering_reverse (pos_cmp (a * down e) (m * up e * c)))

-- a fraction that is not negative, and a float that is, of which one is not 0
abbrev SomeSize : Float → ℕ → ℕ → Type 0
SomeSize v a c = (m : ℕ) (e : ℤ) → v ≡ fin false m e → 0 < a * down e + m * up e * c

pub some_number : (v : Float) (a c : ℕ) → 0 < a → SomeSize v a c
some_number v a c p m e q = let r = mul-pos p (down_pos e) in omega arith

pub some_float : (v : Float) (a c V : ℕ) → 0 < c → HasValue v false V (2 ^ 1074) → 0 < V → SomeSize v a c
some_float v a c V C h p m e q =
    let g : m * up e * 2 ^ 1074 ≡ V * down e = (subst (λ w. HasValue w false V (2 ^ 1074)) q h).1 in
    elim (eq-zero-or-pos (m * up e)) [
      | inl z ↦ absurd (let r = mul-pos p (down_pos e) in let o : m * up e * 2 ^ 1074 ≡ 0 = ap (λ x. x * 2 ^ 1074) z ∙ zero-mul (2 ^ 1074) in omega arith)
      | inr r ↦ (let t = mul-pos r C in omega arith)
    ]

pub above_minus : (v : Float) (a c : ℕ) → HasSign false v → SomeSize v a c → compares (Fraction false a c) (neg v) ≡ Greater
unfolding neg HasSign
above_minus nan a c h g = absurd h
above_minus (inf true) a c h g = absurd (true≢false h)
above_minus (inf false) a c h g = refl
above_minus (fin true m e) a c h g = absurd (true≢false h)
above_minus (fin false m e) a c h g = minus_right (a * down e) (m * up e * c) ∙ cmp_greater _ 0 (g m e refl)

pub below_plus : (v : Float) (a c : ℕ) → HasSign false v → SomeSize v a c → compares (Fraction true a c) v ≡ Less
unfolding HasSign
below_plus nan a c h g = absurd h
below_plus (inf true) a c h g = absurd (true≢false h)
below_plus (inf false) a c h g = refl
below_plus (fin true m e) a c h g = absurd (true≢false h)
below_plus (fin false m e) a c h g = minus_left (a * down e) (m * up e * c) ∙ cmp_less 0 _ (g m e refl)

-- ---- the float nearest to a fraction

no_nan : HasSign false nan → ⊥
unfolding HasSign
no_nan h = h

plus_infinity : (t : Bool) → HasSign false (inf t) → inf t ≡ inf false
unfolding HasSign
plus_infinity t h = ap inf h

infinity_bits : to_bits binary64 (inf false) ≡ most
unfolding to_bits
infinity_bits = refl

pub finite_is : (s : Bool) (m : ℕ) (e : ℤ) → float_is_finite (fin s m e) ≡ true
unfolding float_is_finite
finite_is s m e = refl

module _ (a c : ℕ) (C : 0 < c) where
  abbrev near : Float
  near = round binary64 false a c

  abbrev bits : ℕ
  bits = to_bits binary64 near

  pub bits_back : of_bits binary64 bits ≡ near
  bits_back = of_bits-to_bits binary64 near (round-fits binary64 false a c)

  pub near_sign : HasSign false near
  near_sign = sign_round binary64 false a c

  abbrev IsFinite : Type 0
  IsFinite = (bits < most) × ((V : ℕ) × HasSize near V)

  abbrev IsInfinite : Type 0
  IsInfinite = (bits ≡ most) × (near ≡ inf false)

  pub near_is : IsFinite ⊎ IsInfinite
  near_is = go near refl
    where
      go : (v : Float) → near ≡ v → IsFinite ⊎ IsInfinite
      go nan e = absurd (no_nan (subst (HasSign false) e near_sign))
      go (inf t) e = (let i = e ∙ plus_infinity t (subst (HasSign false) e near_sign) in inr (ap (to_bits binary64) i ∙ infinity_bits, i))
      go (fin t m k) e = inl (below, (let s = size_of_bits bits below in (s.0, subst (λ v. HasSize v s.0) bits_back s.1)))
        where
          finite : field bits < 2047
          finite = finite_bits bits (ap float_is_finite (bits_back ∙ e) ∙ finite_is t m k)

          word : bits < 2 ^ 63
          word = by_field (field bits) refl
            where
              by_field : (x : ℕ) → field bits ≡ x → bits < 2 ^ 63
              by_field zero f = (value_at_zero near bits bits_back near_sign f).0
              by_field (suc x) f = (value_at_field near bits bits_back near_sign x f (omega (arith, finite))).0

          below : bits < most
          below = omega (arith, finite, word)

  pub bits_small : bits < 2 ^ 63
  bits_small = elim near_is [ inl f ↦ (let l = f.0 in omega arith) | inr i ↦ (let e = i.0 in omega arith) ]

  -- ---- on which side of another float the fraction lies

  module _ (V : ℕ) (v : HasValue near false V (2 ^ 1074)) (w : Float) (W : ℕ) (size : HasSize w W) where
    pub below : V < W → a * 2 ^ 1074 < W * c
    below h =
        lt_of_not-le (λ (up_to : W * c ≤ a * 2 ^ 1074).
        not-le_of_lt h (not_above _ _ W V (2 ^ 1074) (pow_pos 1074) (size_is_exact w W size) v (round_mono binary64 W (2 ^ 1074) a c (pow_pos 1074) C up_to)))

    pub above : W < V → W * c < a * 2 ^ 1074
    above h =
        lt_of_not-le (λ (up_to : a * 2 ^ 1074 ≤ W * c).
        not-le_of_lt h (not_above _ _ V W (2 ^ 1074) (pow_pos 1074) v (size_is_exact w W size) (round_mono binary64 a c W (2 ^ 1074) C (pow_pos 1074) up_to)))

  pub past : near ≡ inf false → (w : Float) (W : ℕ) → HasSize w W → W * c < a * 2 ^ 1074
  past i w W size =
      lt_of_not-le (λ (up_to : a * 2 ^ 1074 ≤ W * c).
      infinite_not_below false _ W (2 ^ 1074) (subst (HasSign false) i near_sign) (size_is_exact w W size)
      (subst (λ x. T (le x (round binary64 false W (2 ^ 1074)))) i (round_mono binary64 a c W (2 ^ 1074) C (pow_pos 1074) up_to)))

  -- by the patterns
  pub less_at : (n W : ℕ) → bits < n → n ≤ most → HasSize (of_bits binary64 n) W → a * 2 ^ 1074 < W * c
  less_at n W h k size = elim near_is [
    | inl f ↦
        let v = f.1.1.value in
        below f.1.0 v (of_bits binary64 n) W size (less_values near (of_bits binary64 n) f.1.0 W (2 ^ 1074) (pow_pos 1074) v size.value (ap (λ x. lt x (of_bits binary64 n)) (sym bits_back) ∙ less_bits bits n h k))
    | inr i ↦ absurd (let e = i.0 in omega arith)
  ]

  pub greater_at : (n W : ℕ) → n < bits → HasSize (of_bits binary64 n) W → W * c < a * 2 ^ 1074
  greater_at n W h size = elim near_is [
    | inl f ↦
        let v = f.1.1.value in
        let k : bits ≤ most = (let l = f.0 in omega arith) in
        above f.1.0 v (of_bits binary64 n) W size (less_values (of_bits binary64 n) near W f.1.0 (2 ^ 1074) (pow_pos 1074) size.value v (ap (λ x. lt (of_bits binary64 n) x) (sym bits_back) ∙ less_bits n bits h k))
    | inr i ↦ past i.1 (of_bits binary64 n) W size
  ]
