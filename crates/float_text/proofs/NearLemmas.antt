-- The IBM value nearest to a number, from where the binary64 nearest to it lies.
use Rattle.std.proofs.Common.{◌≡◌, ◌∙◌, ℕ, zero, suc, ◌+◌, ◌-◌, ◌*◌, ◌/◌, ◌%◌, ◌^◌, ◌<◌, ◌≤◌, Bool, true, false, T, cond, nat_cmp, None, Less, Equal, Greater, refl, sym, ap, subst, inl, inr, arith, lit<, pow_pos, pow_mono, pow-add, eq-zero-or-pos, lt_of_not-le, lt_irrefl, lt_of_lt_of_le, lt_of_le_of_lt, le_trans, le_of_eq, le_of_lt, mul-pos, mul_assoc, mul_comm, mul_right_comm, mul-le-mul_right, mul-lt-mul_of_pos_right, lt_of_mul-lt-mul_right, le_of_mul-le-mul_right, div-lt_iff_lt-mul, le-div_iff_mul-le, not-le_of_lt, mul_left_comm, pow-suc, lit≤, le-leb, true≢false, if◌then◌else◌}
use mathlib.Core.Logic.{◌⊎◌}
use mathlib.Core.Bool.{◌&&◌, ◌||◌}
use lib.Dec.{eqb, ltb, eqb→eq, ltb→lt}
use lib.Arith.{digits_div, digits_mod}
use Prim.Native.Nat.compare
use Prim.Native.Nat.{compare, Ordering}
use lib.Ieee.{Float, nan, inf, fin, binary64, round, nearest, size, le, up, down}
use lib.Ieee.Digits.{size-lt, size-le}
use lib.Ieee.Exact.{HasValue, round_exact}
use lib.Ieee.Fits.{down_pos, and_l}
use lib.Ieee.Nearest.{closest}
use lib.Ieee.Order.{round_mono, transfer}
use Rattle.float_codes.specs.Nearest.{ibm_nearest, ibm_pack, ibm_at, ibm_dropped}
use Rattle.float_text.specs.Sides.{rounded_to}
use Rattle.float_text.proofs.SignLemmas.{HasSign}
use Rattle.float_text.proofs.OrderLemmas.{order_of, cmp_less, cmp_equal, cmp_greater}

-- ---- the whole number closest to n / u

compare-lt : (a b : ℕ) → a < b → compare a b ≡ Ordering.lt
compare-lt zero (suc b) h = compare.zero-suc b
compare-lt (suc a) (suc b) h = compare.suc-suc a b ∙ compare-lt a b (omega arith)
compare-lt a zero h = absurd (omega arith)

compare-eq : (a b : ℕ) → a ≡ b → compare a b ≡ Ordering.eq
compare-eq zero zero h = compare.zero-zero
compare-eq (suc a) (suc b) h = compare.suc-suc a b ∙ compare-eq a b (omega arith)
compare-eq zero (suc b) h = absurd (omega arith)
compare-eq (suc a) zero h = absurd (omega arith)

compare-gt : (a b : ℕ) → b < a → compare a b ≡ Ordering.gt
compare-gt (suc a) zero h = compare.suc-zero a
compare-gt (suc a) (suc b) h = compare.suc-suc a b ∙ compare-gt a b (omega arith)
compare-gt zero b h = absurd (omega arith)

module _ (n u q : ℕ) (from : q * u ≤ n) (below : n < q * u + u) where
  at_whole : closest n u ≡ nearest q (compare ((n - q * u) * 2) u)
  at_whole =
      let e : n ≡ q * u + (n - q * u) = omega arith in
      let l : n - q * u < u = omega arith in
      let d : n / u ≡ q = ap (λ x. x / u) e ∙ digits_div q l in
      let m : n % u ≡ n - q * u = ap (λ x. x % u) e ∙ digits_mod q l in
      λ i. nearest (d i) (compare (m i * 2) u)

  pub closest_below : 2 * n < 2 * (q * u) + u → closest n u ≡ q
  closest_below h = at_whole ∙ ap (nearest q) (compare-lt _ _ (omega arith))

  pub closest_tie : 2 * n ≡ 2 * (q * u) + u → closest n u ≡ q + q % 2
  closest_tie h = at_whole ∙ ap (nearest q) (compare-eq _ _ (omega arith))

  pub closest_above : 2 * (q * u) + u < 2 * n → closest n u ≡ q + 1
  closest_above h = at_whole ∙ ap (nearest q) (compare-gt _ _ (omega arith)) ∙ omega arith

from_under : (n u q : ℕ) → n < q * u → 2 * (q * u) < 2 * n + u → closest n u ≡ q
from_under n u zero under h = absurd (omega arith)
from_under n u (suc p) under h = closest_above n u p (omega arith) (omega arith) (omega arith) ∙ omega arith

-- ---- the nearest IBM value, where the unit is known

size-gt : (n j : ℕ) → 2 ^ j ≤ n → j < size n
size-gt n j h = lt_of_not-le (λ (g : size n ≤ j). not-le_of_lt (lt_of_lt_of_le (size-lt n) (pow_mono g)) h)

regroup : (a b c : ℕ) → a * (c * b) ≡ a * b * c
regroup a b c = omega arith

joined : (j k c : ℕ) → 2 ^ j * (c * 2 ^ k) ≡ 2 ^ (j + k) * c
joined j k c = regroup (2 ^ j) (2 ^ k) c ∙ ap (λ x. x * c) (sym (pow-add 2 j k))

dropped_is : (n c k : ℕ) → 0 < c → (0 < k → 2 ^ 20 * (c * 2 ^ (4 * k)) ≤ n) → n < 2 ^ 24 * (c * 2 ^ (4 * k)) → ibm_dropped (n / c) ≡ k
dropped_is n c k C lo hi =
    let most : size (n / c) ≤ 24 + 4 * k = size-le (n / c) (24 + 4 * k) ((div-lt_iff_lt-mul C).1 (subst (λ x. n < x) (joined 24 (4 * k) c) hi)) in
    elim (eq-zero-or-pos k) [
      | inl z ↦ omega arith
      | inr K ↦
          let least : 20 + 4 * k < size (n / c) = size-gt (n / c) (20 + 4 * k) ((le-div_iff_mul-le C).1 (subst (λ x. x ≤ n) (joined 20 (4 * k) c) (lo K))) in
          omega arith
    ]

pub at_unit : (s : Bool) (a c k q : ℕ) → 0 < c → (0 < k → 2 ^ 20 * (c * 2 ^ (4 * k)) ≤ a * 2 ^ 280) → a * 2 ^ 280 < 2 ^ 24 * (c * 2 ^ (4 * k))
    → closest (a * 2 ^ 280) (c * 2 ^ (4 * k)) ≡ q → ibm_nearest s a c ≡ ibm_pack s k q
unfolding ibm_nearest
at_unit s a c k q C lo hi e =
    ap (λ x. ibm_pack s x (closest (a * 2 ^ 280) (c * 2 ^ (4 * x)))) (dropped_is (a * 2 ^ 280) c k C lo hi) ∙ ap (ibm_pack s k) e

-- past the greatest
pub far_past : (s : Bool) (a c : ℕ) → 0 < c → 2 ^ 535 * c ≤ a * 2 ^ 280 → ibm_nearest s a c ≡ None
unfolding ibm_nearest
far_past s a c C h = go (ibm_dropped (a * 2 ^ 280 / c)) (closest (a * 2 ^ 280) (c * 2 ^ (4 * ibm_dropped (a * 2 ^ 280 / c)))) many
  where
    many : 128 ≤ ibm_dropped (a * 2 ^ 280 / c)
    many = let least : 535 < size (a * 2 ^ 280 / c) = size-gt (a * 2 ^ 280 / c) 535 ((le-div_iff_mul-le C).1 h) in omega arith

    go : (k q : ℕ) → 128 ≤ k → ibm_pack s k q ≡ None
    go k q l = pick (eqb q (2 ^ 24))
      where
        none : (j p : ℕ) → 128 ≤ j → ibm_at s j p ≡ None
        none j p m = rw (le-leb 128 j m) refl

        pick : (b : Bool) → (if b then ibm_at s (k + 1) (2 ^ 20) else ibm_at s k q) ≡ None
        pick true = none (k + 1) (2 ^ 20) (omega arith)
        pick false = none k q l

-- ---- where a number lies to a float, its nearest float lies so or is that float

-- the values of two floats that are in order
lt-or-eq : (a b : ℕ) → T (ltb a b || (eqb a b && true)) → a ≤ b
lt-or-eq a b t = elim (split (ltb a b) (eqb a b && true) t) [ inl u ↦ le_of_lt (ltb→lt a b u) | inr u ↦ le_of_eq (eqb→eq a b (and_l (eqb a b) true u)) ]
  where
    split : (x y : Bool) → T (x || y) → T x ⊎ T y
    split true y t = inl tt
    split false y t = inr t

values_in_order : (x y : Float) (a b c : ℕ) → 0 < c → HasValue x false a c → HasValue y false b c → T (le x y) → a ≤ b
unfolding le
values_in_order nan y a b c C h g l = absurd h
values_in_order (inf s) y a b c C h g l = absurd h
values_in_order (fin s m e) nan a b c C h g l = absurd g
values_in_order (fin s m e) (inf t) a b c C h g l = absurd g
values_in_order (fin true m e) (fin t n d) a b c C h g l = absurd (true≢false h.0)
values_in_order (fin false m e) (fin true n d) a b c C h g l = absurd (true≢false g.0)
values_in_order (fin false m e) (fin false n d) a b c C h g l =
    let cross : m * up e * down d ≤ n * up d * down e = lt-or-eq (m * up e * down d) (n * up d * down e) l in
    le_of_mul-le-mul_right (transfer a b c c (m * up e) (n * up d) (down e) (down d) (down_pos e) (down_pos d) (sym h.1) (sym g.1) cross) C

-- a float that is not above another one of a value is not above that
pub not_above : (x y : Float) (a b c : ℕ) → 0 < c → HasValue x false a c → HasValue y false b c → T (le x y) → a ≤ b
not_above x y a b c C h g l = values_in_order x y a b c C h g l

pub nan_not_below : (y : Float) → T (le nan y) → ⊥
unfolding le
nan_not_below y h = h

pub infinite_not_below : (t : Bool) (y : Float) (a c : ℕ) → HasSign false (inf t) → HasValue y false a c → T (le (inf t) y) → ⊥
unfolding le HasSign
infinite_not_below true y a c s h l = true≢false s
infinite_not_below false nan a c s h l = h
infinite_not_below false (inf r) a c s h l = h
infinite_not_below false (fin r m e) a c s h l = l

-- such a float is rounded to itself
pub exact_float : (g j : ℕ) → g < 2 ^ 53 → j ≤ 2000 → HasValue (round binary64 false (g * 2 ^ j) (2 ^ 1074)) false (g * 2 ^ j) (2 ^ 1074)
exact_float g j small low =
    let fits : g * 2 ^ j < 2 ^ 2098 = lt_of_lt_of_le (mul-lt-mul_of_pos_right small (pow_pos j)) (le_trans (le_of_eq (sym (pow-add 2 53 j))) (pow_mono {j = 2098} (omega arith))) in
    round_exact binary64 false (g * 2 ^ j) (2 ^ 1074) g j (pow_pos 1074) small fits refl

module _ (a c V : ℕ) (C : 0 < c) (v : HasValue (round binary64 false a c) false V (2 ^ 1074)) where
  pub below_float : (g j : ℕ) → g < 2 ^ 53 → j ≤ 2000 → V < g * 2 ^ j → a * 2 ^ 1074 < g * 2 ^ j * c
  below_float g j small low h =
      lt_of_not-le (λ (up_to : g * 2 ^ j * c ≤ a * 2 ^ 1074).
      not-le_of_lt h (values_in_order _ _ (g * 2 ^ j) V (2 ^ 1074) (pow_pos 1074) (exact_float g j small low) v (round_mono binary64 (g * 2 ^ j) (2 ^ 1074) a c (pow_pos 1074) C up_to)))

  pub above_float : (g j : ℕ) → g < 2 ^ 53 → j ≤ 2000 → g * 2 ^ j < V → g * 2 ^ j * c < a * 2 ^ 1074
  above_float g j small low h =
      lt_of_not-le (λ (up_to : a * 2 ^ 1074 ≤ g * 2 ^ j * c).
      not-le_of_lt h (values_in_order _ _ V (g * 2 ^ j) (2 ^ 1074) (pow_pos 1074) v (exact_float g j small low) (round_mono binary64 a c (g * 2 ^ j) (2 ^ 1074) C (pow_pos 1074) up_to)))

  -- ---- in units of the IBM fraction: n / u

  module _ (k : ℕ) (K : k ≤ 128) where
    abbrev unit : ℕ
    unit = 2 ^ (794 + 4 * k)

    abbrev n : ℕ
    n = a * 2 ^ 280

    abbrev u : ℕ
    u = c * 2 ^ (4 * k)

    scaled : a * 2 ^ 1074 ≡ n * 2 ^ 794
    scaled = ap (λ x. a * x) (pow-add 2 280 794) ∙ sym (mul_assoc a (2 ^ 280) (2 ^ 794))

    -- g / 2 ^ e units
    units_are : (g e : ℕ) → e ≤ 794 → g * 2 ^ (794 + 4 * k - e) * c * 2 ^ e ≡ g * u * 2 ^ 794
    units_are g e h =
        let s : 794 + 4 * k - e + e ≡ 4 * k + 794 = omega arith in
        let p : 2 ^ (794 + 4 * k - e) * 2 ^ e ≡ 2 ^ (4 * k) * 2 ^ 794 = sym (pow-add 2 (794 + 4 * k - e) e) ∙ ap (λ x. 2 ^ x) s ∙ pow-add 2 (4 * k) 794 in
        let l : g * 2 ^ (794 + 4 * k - e) * c * 2 ^ e ≡ g * c * (2 ^ (794 + 4 * k - e) * 2 ^ e) = moved g (2 ^ (794 + 4 * k - e)) c (2 ^ e) in
        l ∙ ap (λ x. g * c * x) p ∙ regrouped g c (2 ^ (4 * k)) (2 ^ 794)
      where
        moved : (x y z w : ℕ) → x * y * z * w ≡ x * z * (y * w)
        moved x y z w = ap (λ t. t * w) (mul_right_comm x y z) ∙ mul_assoc (x * z) y w

        regrouped : (x y z w : ℕ) → x * y * (z * w) ≡ x * (y * z) * w
        regrouped x y z w = sym (mul_assoc (x * y) z w) ∙ ap (λ t. t * w) (mul_assoc x y z)

    number_is : (e : ℕ) → a * 2 ^ 1074 * 2 ^ e ≡ n * 2 ^ e * 2 ^ 794
    number_is e = ap (λ x. x * 2 ^ e) scaled ∙ mul_right_comm n (2 ^ 794) (2 ^ e)

    below_units : (g e : ℕ) → g < 2 ^ 53 → e ≤ 794 → V < g * 2 ^ (794 + 4 * k - e) → n * 2 ^ e < g * u
    below_units g e small h l =
        let b = mul-lt-mul_of_pos_right (below_float g (794 + 4 * k - e) small (omega arith) l) (pow_pos e) in
        lt_of_mul-lt-mul_right (2 ^ 794) (lt_of_le_of_lt (le_of_eq (sym (number_is e))) (lt_of_lt_of_le b (le_of_eq (units_are g e h))))

    above_units : (g e : ℕ) → g < 2 ^ 53 → e ≤ 794 → g * 2 ^ (794 + 4 * k - e) < V → g * u < n * 2 ^ e
    above_units g e small h l =
        let b = mul-lt-mul_of_pos_right (above_float g (794 + 4 * k - e) small (omega arith) l) (pow_pos e) in
        lt_of_mul-lt-mul_right (2 ^ 794) (lt_of_le_of_lt (le_of_eq (sym (units_are g e h))) (lt_of_lt_of_le b (le_of_eq (number_is e))))

    module _ (m : ℕ) (few : m < 2 ^ 24) (normal : 0 < k → 2 ^ 20 ≤ m) (from : m * unit ≤ V) (to : V < m * unit + unit) where
      half_is : 2 * 2 ^ (794 + 4 * k - 1) ≡ unit
      half_is = let e : 794 + 4 * k ≡ suc (794 + 4 * k - 1) = omega arith in sym (ap (λ x. 2 ^ x) e ∙ pow-suc 2 (794 + 4 * k - 1) ∙ mul_comm (2 ^ (794 + 4 * k - 1)) 2)

      -- which side of the middle of m and m + 1
      pub side_below : 2 * V < (2 * m + 1) * unit → 2 * n < (2 * m + 1) * u
      side_below h =
          let twice : (2 * m + 1) * unit ≡ 2 * ((2 * m + 1) * 2 ^ (794 + 4 * k - 1)) = ap (λ x. (2 * m + 1) * x) (sym half_is) ∙ mul_left_comm (2 * m + 1) 2 (2 ^ (794 + 4 * k - 1)) in
          let l = below_units (2 * m + 1) 1 (omega arith) (lit≤ tt) (omega arith) in
          omega (arith, l)

      pub side_above : (2 * m + 1) * unit < 2 * V → (2 * m + 1) * u < 2 * n
      side_above h =
          let twice : (2 * m + 1) * unit ≡ 2 * ((2 * m + 1) * 2 ^ (794 + 4 * k - 1)) = ap (λ x. (2 * m + 1) * x) (sym half_is) ∙ mul_left_comm (2 * m + 1) 2 (2 ^ (794 + 4 * k - 1)) in
          let l = above_units (2 * m + 1) 1 (omega arith) (lit≤ tt) (omega arith) in
          omega (arith, l)

      below_next : n < m * u + u
      below_next =
          let e : 794 + 4 * k - 0 ≡ 794 + 4 * k = omega arith in
          let l = below_units (m + 1) 0 (omega arith) (lit≤ tt) (subst (λ x. V < (m + 1) * 2 ^ x) (sym e) (omega arith)) in
          omega (arith, l)

      -- the whole part is m
      at_least : m * u ≤ n → (s : Bool) → ibm_nearest s a c ≡ ibm_pack s k (rounded_to m (nat_cmp (2 * n) ((2 * m + 1) * u)))
      at_least h s =
          let wide : m * u + u ≤ 2 ^ 24 * u = (let f : m + 1 ≤ 2 ^ 24 = omega arith in let l : (m + 1) * u ≤ 2 ^ 24 * u = mul-le-mul_right u f in omega (arith, l)) in
          let low : 0 < k → 2 ^ 20 * u ≤ n = λ p. le_trans (mul-le-mul_right u (normal p)) h in
          let twice : (2 * m + 1) * u ≡ 2 * (m * u) + u = omega arith in
          at_unit s a c k _ C low (lt_of_lt_of_le below_next wide)
          (elim (order_of (2 * n) ((2 * m + 1) * u)) [
            | inl l ↦ closest_below n u m h below_next (omega arith) ∙ sym (ap (rounded_to m) (cmp_less _ _ l))
            | inr (inl e) ↦ closest_tie n u m h below_next (omega arith) ∙ sym (ap (rounded_to m) (cmp_equal _ _ e))
            | inr (inr g) ↦ closest_above n u m h below_next (omega arith) ∙ sym (ap (rounded_to m) (cmp_greater _ _ g))
          ])

      -- or it is one less: then the float is m units, and the number is nearer to them than half a unit, also of the next smaller unit
      module _ (less : n < m * u) where
        float_is : V ≡ m * unit
        float_is =
            let e : 794 + 4 * k - 0 ≡ 794 + 4 * k = omega arith in
            let not_above : V ≤ m * unit = lt_or_le_of (m * unit) V (λ h. omega (arith, above_units m 0 (omega arith) (lit≤ tt) (subst (λ x. m * 2 ^ x < V) (sym e) h))) in
            omega arith
          where
            lt_or_le_of : (x y : ℕ) → (x < y → ⊥) → y ≤ x
            lt_or_le_of x y h = elim (order_of x y) [ inl l ↦ absurd (h l) | inr (inl e) ↦ omega arith | inr (inr g) ↦ omega arith ]

        some : 0 < m
        some = go m less
          where
            go : (j : ℕ) → n < j * u → 0 < j
            go zero h = absurd (omega arith)
            go (suc j) h = omega arith

        close : (2 * m - 1) * u < n * 2
        close =
            let h = 2 ^ (794 + 4 * k - 1) in
            let twice : m * unit ≡ 2 * m * h = ap (λ x. m * x) (sym half_is) ∙ omega arith in
            let e : 2 * m - 1 + 1 ≡ 2 * m = omega (arith, some) in
            let split : (2 * m - 1) * h + h ≡ 2 * m * h = (let one : (2 * m - 1 + 1) * h ≡ (2 * m - 1) * h + h = omega arith in sym one ∙ ap (λ x. x * h) e) in
            let q = above_units (2 * m - 1) 1 (omega arith) (lit≤ tt) (omega (arith, twice, split, float_is, pow_pos (794 + 4 * k - 1))) in
            q

        close_sum : 2 * (m * u) < 2 * n + u
        close_sum =
            let e : 2 * m - 1 + 1 ≡ 2 * m = omega (arith, some) in
            let split : (2 * m - 1) * u + u ≡ 2 * m * u = (let one : (2 * m - 1 + 1) * u ≡ (2 * m - 1) * u + u = omega arith in sym one ∙ ap (λ x. x * u) e) in
            omega (arith, close, split)

        order_is : nat_cmp (2 * n) ((2 * m + 1) * u) ≡ Less
        order_is =
            let e : (2 * m + 1) * u ≡ 2 * (m * u) + u = omega arith in
            let l : 2 * n < (2 * m + 1) * u = omega (arith, e, less) in
            cmp_less (2 * n) ((2 * m + 1) * u) l

        same_unit : (s : Bool) → (0 < k → 2 ^ 20 < m) → ibm_nearest s a c ≡ ibm_pack s k m
        same_unit s above =
            let low : 0 < k → 2 ^ 20 * u ≤ n = λ p. (let l : 2 ^ 20 + 1 ≤ m = omega (arith, above p) in omega (arith, mul-le-mul_right u l, close_sum)) in
            let few_u : m * u ≤ 2 ^ 24 * u = mul-le-mul_right u (le_of_lt few) in
            at_unit s a c k m C low (omega (arith, less, few_u)) (from_under n u m less close_sum)

        smaller_unit : (s : Bool) (j : ℕ) → k ≡ j + 1 → m ≡ 2 ^ 20 → ibm_nearest s a c ≡ ibm_pack s k m
        smaller_unit s j e is =
            let w = c * 2 ^ (4 * j) in
            let up : u ≡ 16 * w = (let p : 4 * k ≡ 4 * j + 4 = omega arith in ap (λ x. c * x) (ap (λ x. 2 ^ x) p ∙ pow-add 2 (4 * j) 4) ∙ omega arith) in
            let h = 2 ^ (794 + 4 * k - 5) in
            let five : unit ≡ 2 ^ 5 * h = (let q : 794 + 4 * k ≡ 5 + (794 + 4 * k - 5) = omega arith in ap (λ x. 2 ^ x) q ∙ pow-add 2 5 (794 + 4 * k - 5)) in
            let top : V ≡ 2 ^ 20 * unit = float_is ∙ ap (λ x. x * unit) is in
            let near = above_units (2 ^ 25 - 1) 5 (lit< tt) (lit≤ tt) (omega (arith, top, five, pow_pos (794 + 4 * k - 5))) in
            let below : n < 2 ^ 20 * u = subst (λ x. n < x * u) is less in
            let under : n < 2 ^ 24 * w = omega (arith, below, up) in
            let close_up : 2 * (2 ^ 24 * w) < 2 * n + w = omega (arith, near, up) in
            let low : 0 < j → 2 ^ 20 * w ≤ n = λ p. omega (arith, close_up) in
            at_unit s a c j (2 ^ 24) C low under (from_under n w (2 ^ 24) under close_up) ∙ (λ i. ibm_pack s (sym e i) (2 ^ 20)) ∙ ap (ibm_pack s k) (sym is)

        one_less : (s : Bool) → ibm_nearest s a c ≡ ibm_pack s k m
        one_less s = elim (eq-zero-or-pos k) [
          | inl z ↦ same_unit s (λ p. absurd (omega arith))
          | inr p ↦ elim (eq-zero-or-pos (m - 2 ^ 20)) [
            | inl y ↦ (let is : m ≡ 2 ^ 20 = omega (arith, normal p) in let e : k ≡ k - 1 + 1 = omega arith in smaller_unit s (k - 1) e is)
            | inr q ↦ same_unit s (λ _. omega arith)
          ]
        ]

      pub nearest_at : (s : Bool) → ibm_nearest s a c ≡ ibm_pack s k (rounded_to m (nat_cmp (2 * n) ((2 * m + 1) * u)))
      nearest_at s = elim (eq-zero-or-pos (m * u - n)) [
        | inl z ↦ at_least (omega arith) s
        | inr p ↦ (let less : n < m * u = omega arith in one_less less s ∙ ap (ibm_pack s k) (sym (ap (rounded_to m) (order_is less))))
      ]
