-- A whole number of the smallest floats, rounded.
use mathlib.Core.Path.{◌≡◌, refl, sym, ap, ◌∙◌, subst}
use mathlib.Core.Bool.{Bool, true, false, cond, false≢true, true≢false}
use mathlib.Core.Logic.{◌⊎◌, inl, inr}
use Prim.Native.Nat.{ℕ, zero, suc, ◌+◌, ◌-◌, ◌*◌, ◌/◌, ◌%◌, ◌^◌, ◌<◌, ◌≤◌}
use native.Mathlib.Nat.{mul-pos, mul_assoc, mul_comm, lt_of_lt_of_le, lt_of_le_of_lt, le_trans, le_antisymm, mul-div_cancel, mul-le-mul_right, lt_irrefl, lt_of_not-le}
use native.Mathlib.Omega.{arith}
use lib.Pow.{pow-add, pow_pos, pow_mono, shl_lt}
use lib.Dec.{leb, ltb, lit≤}
use borrow.Author.Tests.{ltb-true, ltb-false, lt-ltb, le-ltb, le-leb, lt-leb}
use lib.Ieee.{Float, nan, inf, fin, binary64, up, down, odd, size, units, round, of_bits, fits, sum}
use lib.Ieee.Fits.{round_is, core, odd-fits, down_pos}
use lib.Ieee.Bits.{of_bits-fits}
use lib.Ieee.Digits.{size-le, size-lt}
use lib.Ieee.Exact.{HasValue, odd_sign}
use lib.Ieee.Nearest.{closest, closest_same, closest_mono}
use Rattle.float_sum.proofs.StickyLemmas.{sticky}
use Rattle.float_codes.proofs.IbmLemmas.{same_value}
use lib.Count.{count_leading_zeros}
use Rattle.std.specs.Float.{NotNan, float_is_finite}
use Rattle.std.proofs.lemmas.Nat.{leading_top}
use Rattle.float_codes.proofs.NearestLemmas.{value_of_bits, value_of_bits-zero, field, finite_bits}
use lib.Ieee.{to_bits}
use lib.Ieee.Bits.{of_bits-to_bits}
use Rattle.std.proofs.lemmas.Bool.{cases_eq}
use Rattle.std.proofs.lemmas.List.Sums.{sum_by-append}
use Rattle.std.proofs.lemmas.List.Sorted.{sum_by-IsPermutation, list_any-IsPermutation}
use Rattle.std.specs.Prelude.{List, [], ◌∷◌, sum_by, filter}
use Rattle.float_sum.specs.Laws.{UnitsAreExact, SumHasNoOrder, TotalHasNoOrder}
use Rattle.float_sum.specs.Sums.{HasLeading, is_negative, units_of, plus_of, minus_of, nearest_sum, is_infinity, beside_infinities}

pub sized : (n j : ℕ) → 2 ^ j ≤ n → n < 2 ^ suc j → size n ≡ suc j
sized n j a b =
    le_antisymm (size-le n (suc j) b)
    (lt_of_not-le (λ (q : size n ≤ j). lt_irrefl n (lt_of_lt_of_le (size-lt n) (le_trans (pow_mono q) a))))

-- ---- the rounding keeps 53 digits

pub whole_round : (s : Bool) (n k : ℕ) → size n - 53 ≡ k → round binary64 s n (2 ^ 1074) ≡ units binary64 s (closest n (2 ^ k)) k
whole_round s n k e =
    let d = 2 ^ 1074 in
    round_is binary64 s n d
    ∙ ap (λ (z : ℕ). core binary64 s (n * d) d (size z - 53)) (mul-div_cancel n (pow_pos 1074))
    ∙ ap (λ (z : ℕ). core binary64 s (n * d) d z) e
    ∙ ap (λ (z : ℕ). units binary64 s z k) (closest_same (n * d) (d * 2 ^ k) n (2 ^ k) (mul-pos (pow_pos 1074) (pow_pos k)) (pow_pos k) (mul_assoc n d (2 ^ k)))

closest_one : (n : ℕ) → closest n (2 ^ 0) ≡ n
closest_one n =
    let q : n / 1 ≡ n = omega arith in
    let r : n % 1 ≡ 0 = omega arith in
    λ i. lib.Ieee.nearest (q i) (Prim.Native.Nat.compare (r i * 2) 1)

pub twice : (m : ℕ) → 2 ^ suc m ≡ 2 * 2 ^ m
twice m = let e : suc m ≡ 1 + m = omega arith in ap (λ (z : ℕ). 2 ^ z) e ∙ pow-add 2 1 m

-- a number of up to 53 digits
pub few_digits : (s : Bool) (n : ℕ) → n < 2 ^ 53 → round binary64 s n (2 ^ 1074) ≡ units binary64 s n 0
few_digits s n h =
    let z : size n ≤ 53 = size-le n 53 h in
    whole_round s n 0 (omega arith) ∙ ap (λ (x : ℕ). units binary64 s x 0) (closest_one n)

-- ---- more digits than 53

record Sized (n t m d : ℕ) : Type 0 where
  above : 2 ^ (m + 53 + 32 * d) ≤ n * 2
  below : n * 2 < 2 ^ (m + 54 + 32 * d)

-- 0 or 1
abbrev pub bit : Bool → ℕ
bit b = cond b 1 0

top_above : (top m : ℕ) (rest : Bool) → 2 ^ (m + 53) ≤ top * 2 + bit rest → 2 ^ (m + 52) ≤ top
top_above top m true h = let e : m + 53 ≡ suc (m + 52) = omega arith in let p : 2 ^ (m + 53) ≡ 2 * 2 ^ (m + 52) = ap (λ (z : ℕ). 2 ^ z) e ∙ twice (m + 52) in omega arith
top_above top m false h = let e : m + 53 ≡ suc (m + 52) = omega arith in let p : 2 ^ (m + 53) ≡ 2 * 2 ^ (m + 52) = ap (λ (z : ℕ). 2 ^ z) e ∙ twice (m + 52) in omega arith

top_below : (top m : ℕ) (rest : Bool) → top * 2 + bit rest < 2 ^ (m + 54) → top < 2 ^ (m + 53)
top_below top m rest h =
    let e : m + 54 ≡ 1 + (m + 53) = omega arith in
    let p : 2 ^ (m + 54) ≡ 2 * 2 ^ (m + 53) = ap (λ (z : ℕ). 2 ^ z) e ∙ pow-add 2 1 (m + 53) in
    omega arith

whole_size : (n top d r m : ℕ) → n ≡ top * 2 ^ (32 * d) + r → r < 2 ^ (32 * d) → 2 ^ (m + 52) ≤ top → top < 2 ^ (m + 53) → size n - 53 ≡ m + 32 * d
whole_size n top d r m e l a b =
    let c = 2 ^ (32 * d) in
    let low : 2 ^ (m + 52 + 32 * d) ≤ n = subst (λ (z : ℕ). z ≤ n) (sym (pow-add 2 (m + 52) (32 * d))) (let f : 2 ^ (m + 52) * c ≤ top * c = mul-le-mul_right c a in omega arith) in
    let k : suc (m + 52 + 32 * d) ≡ m + 53 + 32 * d = omega arith in
    let g : suc top * c ≤ 2 ^ (m + 53) * c = mul-le-mul_right c b in
    let high : n < 2 ^ suc (m + 52 + 32 * d) = subst (λ (z : ℕ). n < z) (sym (ap (λ (z : ℕ). 2 ^ z) k ∙ pow-add 2 (m + 53) (32 * d))) (omega arith) in
    let s : size n ≡ suc (m + 52 + 32 * d) = sized n (m + 52 + 32 * d) low high in
    omega arith

-- the rest counts as a half of the last digit
with_rest : (n top d r m : ℕ) (rest : Bool) → HasLeading n top d rest r → top < 2 ^ (m + 53)
    → closest n (2 ^ (m + 32 * d)) ≡ closest (top * 2 + bit rest) (2 ^ suc m)
with_rest n top d r m false h b =
    let c = 2 ^ (32 * d) in
    let z : r ≡ 0 = h.none refl in
    let i : n ≡ top * c + r = h.is in
    let p : 2 ^ (m + 32 * d) ≡ 2 ^ m * c = pow-add 2 m (32 * d) in
    let q : 2 ^ suc m ≡ 2 ^ m * 2 = twice m ∙ mul_comm 2 (2 ^ m) in
    closest_same n (2 ^ (m + 32 * d)) (top * 2 + 0) (2 ^ suc m) (pow_pos (m + 32 * d)) (pow_pos (suc m))
    (even n top c r (2 ^ m) (2 ^ suc m) (2 ^ (m + 32 * d)) i z p q)
  where
    even : (n top c r u v w : ℕ) → n ≡ top * c + r → r ≡ 0 → w ≡ u * c → v ≡ u * 2 → n * v ≡ (top * 2 + 0) * w
    even n top c r u v w i z p q =
        let a : n ≡ top * c = omega arith in
        let f : n * v ≡ top * c * (u * 2) = λ j. a j * q j in
        let g : (top * 2 + 0) * w ≡ (top * 2 + 0) * (u * c) = ap (λ (x : ℕ). (top * 2 + 0) * x) p in
        omega arith
with_rest n top zero r zero true h b = let l : r < 1 = h.below in let k : 0 < r = h.some refl in absurd (omega arith)
with_rest n top (suc d) r zero true h b = let l : 2 ^ 64 ≤ top = h.enough (omega arith) in let k : top < 2 ^ 53 = b in absurd (omega arith)
with_rest n top d r (suc m) true h b =
    let c = 2 ^ (32 * d) in
    let p : 2 ^ (suc m + 32 * d) ≡ c * (2 * 2 ^ m) = pow-add 2 (suc m) (32 * d) ∙ mul_comm (2 ^ suc m) c ∙ ap (λ (x : ℕ). c * x) (twice m) in
    let q : 2 ^ suc (suc m) ≡ 4 * 2 ^ m = let k : suc (suc m) ≡ 2 + m = omega arith in ap (λ (z : ℕ). 2 ^ z) k ∙ pow-add 2 2 m in
    let t : 2 * top + 1 ≡ top * 2 + 1 = omega arith in
    (λ j. closest (h.is j) (p j))
    ∙ sticky top r c (2 ^ m) (h.some refl) h.below (pow_pos m)
    ∙ (λ j. closest (t j) (sym q j))

pub many_digits : (s : Bool) (n top d r m : ℕ) (rest : Bool) → HasLeading n top d rest r → 2 ^ (m + 53) ≤ top * 2 + bit rest → top * 2 + bit rest < 2 ^ (m + 54)
    → round binary64 s n (2 ^ 1074) ≡ units binary64 s (closest (top * 2 + bit rest) (2 ^ suc m)) (m + 32 * d)
many_digits s n top d r m rest h a b =
    whole_round s n (m + 32 * d) (whole_size n top d r m h.is h.below (top_above top m rest a) (top_below top m rest b))
    ∙ ap (λ (x : ℕ). units binary64 s x (m + 32 * d)) (with_rest n top d r m rest h (top_below top m rest b))

-- 53 digits are kept, or 2 ^ 53
pub digits_kept : (t m : ℕ) → 2 ^ (m + 53) ≤ t → t < 2 ^ (m + 54) → (2 ^ 52 ≤ closest t (2 ^ suc m)) × (closest t (2 ^ suc m) ≤ 2 ^ 53)
digits_kept t m a b =
    let u : m + 53 ≡ 52 + suc m = omega arith in
    let v : m + 54 ≡ 53 + suc m = omega arith in
    let p : 2 ^ (m + 53) ≡ 2 ^ 52 * 2 ^ suc m = ap (λ (z : ℕ). 2 ^ z) u ∙ pow-add 2 52 (suc m) in
    let q : 2 ^ (m + 54) ≡ 2 ^ 53 * 2 ^ suc m = ap (λ (z : ℕ). 2 ^ z) v ∙ pow-add 2 53 (suc m) in
    let w = 2 ^ suc m in (
      closest_mono (2 ^ 52) 1 t w (lit≤ tt) (pow_pos (suc m)) (omega arith),
      closest_mono t w (2 ^ 53) 1 (pow_pos (suc m)) (lit≤ tt) (omega arith),
    )

-- ---- a float's bits

units_is : (s : Bool) (q k : ℕ) → q * 2 ^ k < 2 ^ 2098 → units binary64 s q k ≡ odd 54 s q k 1074
unfolding units
units_is s q k h = rw (lt-ltb (q * 2 ^ k) (2 ^ 2098) h) refl

units_far : (s : Bool) (q k : ℕ) → 2 ^ 2098 ≤ q * 2 ^ k → units binary64 s q k ≡ inf s
unfolding units
units_far s q k h = rw (le-ltb (q * 2 ^ k) (2 ^ 2098) h) refl

pub sign_is : (s : Bool) (z : ℕ) → z < 2 ^ 63 → leb (2 ^ 63) (cond s (2 ^ 63) 0 + z) ≡ s
sign_is true z h = le-leb (2 ^ 63) (2 ^ 63 + z) (omega arith)
sign_is false z h = lt-leb (2 ^ 63) (0 + z) (omega arith)

-- the sign is no part of the fields
parts_of : (s : Bool) (z : ℕ) → z < 2 ^ 63 → (field (cond s (2 ^ 63) 0 + z) ≡ z / 2 ^ 52) × ((cond s (2 ^ 63) 0 + z) % 2 ^ 52 ≡ z % 2 ^ 52)
parts_of true z h = (omega arith, omega arith)
parts_of false z h = (omega arith, omega arith)

same_units : (s : Bool) (q k b : ℕ) → q ≤ 2 ^ 53 → q * 2 ^ k < 2 ^ 2098 → HasValue (of_bits binary64 b) s (q * 2 ^ k) (2 ^ 1074) → of_bits binary64 b ≡ units binary64 s q k
same_units s q k b h l v =
    same_value binary64 (of_bits binary64 b) (odd 54 s q k 1074) s (q * 2 ^ k) (of_bits-fits binary64 b)
    (odd-fits binary64 54 s q k (lt_of_le_of_lt h (lit≤ tt)) h l) v (odd_sign 54 s q k 1074)
    ∙ sym (units_is s q k l)

-- fields and their value
at_fields : (s : Bool) (z x m a : ℕ) → z < 2047 * 2 ^ 52 → z / 2 ^ 52 ≡ suc x → z % 2 ^ 52 ≡ m → (m + 2 ^ 52) * 2 ^ x ≡ a
    → HasValue (of_bits binary64 (cond s (2 ^ 63) 0 + z)) s a (2 ^ 1074)
at_fields s z x m a h e f g =
    let b = cond s (2 ^ 63) 0 + z in
    let p = parts_of s z (omega arith) in
    subst (λ (t : Bool). HasValue (of_bits binary64 b) t a (2 ^ 1074)) (sign_is s z (omega arith))
    (subst (λ (t : ℕ). HasValue (of_bits binary64 b) (leb (2 ^ 63) b) t (2 ^ 1074)) (ap (λ (t : ℕ). (t + 2 ^ 52) * 2 ^ x) (p.1 ∙ f) ∙ g)
    (value_of_bits b x (p.0 ∙ e) (omega arith)))

at_least : (s : Bool) (z : ℕ) → z < 2 ^ 52 → HasValue (of_bits binary64 (cond s (2 ^ 63) 0 + z)) s (z * 2 ^ 0) (2 ^ 1074)
at_least s z h =
    let b = cond s (2 ^ 63) 0 + z in
    let p = parts_of s z (omega arith) in
    let e : z % 2 ^ 52 ≡ z = omega arith in
    let none : z / 2 ^ 52 ≡ 0 = omega arith in
    subst (λ (t : Bool). HasValue (of_bits binary64 b) t (z * 2 ^ 0) (2 ^ 1074)) (sign_is s z (omega arith))
    (subst (λ (t : ℕ). HasValue (of_bits binary64 b) (leb (2 ^ 63) b) (t * 2 ^ 0) (2 ^ 1074)) (p.1 ∙ e) (value_of_bits-zero b (p.0 ∙ none)))

lt_or_le : (a b : ℕ) → (a < b) ⊎ (b ≤ a)
lt_or_le a b = go (ltb a b) refl
  where
    go : (t : Bool) → ltb a b ≡ t → (a < b) ⊎ (b ≤ a)
    go true e = inl (ltb-true a b e)
    go false e = inr (ltb-false a b e)

pub near : (q k : ℕ) → q < 2 ^ 53 → k ≤ 2045 → q * 2 ^ k < 2 ^ 2098
near q k h l = lt_of_lt_of_le (shl_lt 53 k h) (let e : 53 + k ≤ 2098 = omega arith in pow_mono e)

-- the digits that are one too many
rounded_up : (q k : ℕ) → q ≡ 2 ^ 53 → q * 2 ^ k ≡ 2 ^ 52 * 2 ^ suc k
rounded_up q k e = let t = twice k in let f : q * 2 ^ k ≡ 2 ^ 53 * 2 ^ k = ap (λ (z : ℕ). z * 2 ^ k) e in omega arith

near_least : (s : Bool) (q k : ℕ) → q < 2 ^ 52 → (0 < k → ⊥) → of_bits binary64 (cond s (2 ^ 63) 0 + (k * 2 ^ 52 + q)) ≡ units binary64 s q k
near_least s q zero a f =
    let e : 0 * 2 ^ 52 + q ≡ q = omega arith in
    ap (λ (z : ℕ). of_bits binary64 (cond s (2 ^ 63) 0 + z)) e ∙ same_units s q 0 _ (omega arith) (near q 0 (omega arith) (lit≤ tt)) (at_least s q a)
near_least s q (suc k) a f = absurd (f (omega arith))

pub bits_near : (s : Bool) (q k : ℕ) → q ≤ 2 ^ 53 → (0 < k → 2 ^ 52 ≤ q) → k * 2 ^ 52 + q < 2047 * 2 ^ 52
    → of_bits binary64 (cond s (2 ^ 63) 0 + (k * 2 ^ 52 + q)) ≡ units binary64 s q k
bits_near s q k h n l = elim (lt_or_le q (2 ^ 52)) [
  | inl a ↦ near_least s q k a (λ (p : 0 < k). let f = n p in omega arith)
  | inr a ↦ elim (lt_or_le q (2 ^ 53)) [
    | inl b ↦
        let e : (k * 2 ^ 52 + q) / 2 ^ 52 ≡ suc k = omega arith in
        let m : q - 2 ^ 52 + 2 ^ 52 ≡ q = omega arith in
        same_units s q k _ h (near q k b (omega arith)) (at_fields s (k * 2 ^ 52 + q) k (q - 2 ^ 52) (q * 2 ^ k) l e (omega arith) (ap (λ (x : ℕ). x * 2 ^ k) m))
    | inr b ↦
        let e : (k * 2 ^ 52 + q) / 2 ^ 52 ≡ suc (suc k) = omega arith in
        let f : (k * 2 ^ 52 + q) % 2 ^ 52 ≡ 0 = omega arith in
        let w : q ≡ 2 ^ 53 = omega arith in
        let g : q * 2 ^ k ≡ 2 ^ 52 * 2 ^ suc k = rounded_up q k w in
        same_units s q k _ h (subst (λ (z : ℕ). z < 2 ^ 2098) (sym g) (near (2 ^ 52) (suc k) (lit≤ tt) (omega arith))) (at_fields s (k * 2 ^ 52 + q) (suc k) 0 (q * 2 ^ k) l e f (sym g))
  ]
]

far_up : (q k a b : ℕ) → 2 ^ a ≤ q → b ≤ k → 2 ^ (a + b) ≤ q * 2 ^ k
far_up q k a b h l =
    let s : a + b ≤ a + k = omega arith in
    le_trans (pow_mono s) (subst (λ (z : ℕ). z ≤ q * 2 ^ k) (sym (pow-add 2 a k)) (mul-le-mul_right (2 ^ k) h))

pub bits_far : (s : Bool) (q k : ℕ) → q ≤ 2 ^ 53 → (0 < k → 2 ^ 52 ≤ q) → 2047 * 2 ^ 52 ≤ k * 2 ^ 52 + q → units binary64 s q k ≡ inf s
bits_far s q k h n l = units_far s q k (elim (lt_or_le q (2 ^ 53)) [
  | inl b ↦ far_up q k 52 2046 (n (omega arith)) (omega arith)
  | inr b ↦ far_up q k 53 2045 b (omega arith)
])

-- ---- a float as digits

pub finite_number : (x : Float) → float_is_finite x ≡ true → NotNan x
unfolding float_is_finite lib.Ieee.is_nan
finite_number nan e = absurd (false≢true e)
finite_number (inf s) e = absurd (false≢true e)
finite_number (fin s m k) e = tt

of_value : (x : Float) (s : Bool) (a : ℕ) → HasValue x s a (2 ^ 1074) → (s ≡ is_negative x) × (a ≡ units_of x)
of_value nan s a v = absurd v
of_value (inf t) s a v = absurd v
of_value (fin t m e) s a v = (sym v.0, sym (ap (λ (k : ℕ). k / down e) v.1 ∙ mul-div_cancel a (down_pos e)))

pub least_parts : (x : Float) (b : ℕ) → of_bits binary64 b ≡ x → field b ≡ 0 → (leb (2 ^ 63) b ≡ is_negative x) × (b % 2 ^ 52 * 2 ^ 0 ≡ units_of x)
least_parts x b e f = of_value x (leb (2 ^ 63) b) (b % 2 ^ 52 * 2 ^ 0) (subst (λ (z : Float). HasValue z (leb (2 ^ 63) b) (b % 2 ^ 52 * 2 ^ 0) (2 ^ 1074)) e (value_of_bits-zero b f))

pub normal_parts : (x : Float) (b : ℕ) → of_bits binary64 b ≡ x → float_is_finite x ≡ true → (field b ≡ 0 → ⊥)
    → (leb (2 ^ 63) b ≡ is_negative x) × ((b % 2 ^ 52 + 2 ^ 52) * 2 ^ (field b - 1) ≡ units_of x)
normal_parts x b e g f =
    let k = field b - 1 in
    let h : field b < 2047 = finite_bits b (ap float_is_finite e ∙ g) in
    of_value x (leb (2 ^ 63) b) ((b % 2 ^ 52 + 2 ^ 52) * 2 ^ k) (subst (λ (z : Float). HasValue z (leb (2 ^ 63) b) ((b % 2 ^ 52 + 2 ^ 52) * 2 ^ k) (2 ^ 1074)) e (value_of_bits b k (omega arith) (omega arith)))

pub finite_field : (x : Float) (b : ℕ) → of_bits binary64 b ≡ x → float_is_finite x ≡ true → field b < 2047
finite_field x b e g = finite_bits b (ap float_is_finite e ∙ g)

-- ---- the difference

pub sum_plus : (a b o : ℕ) → o + b ≡ a → round binary64 false o (2 ^ 1074) ≡ sum binary64 false a true b (2 ^ 1074)
unfolding sum
sum_plus a b o e = let h : b ≤ a = omega arith in let d : o ≡ a - b = omega arith in rw (le-ltb a b h) (ap (λ (z : ℕ). round binary64 false z (2 ^ 1074)) d)

pub sum_minus : (a b o : ℕ) → o + a ≡ b → a < b → round binary64 true o (2 ^ 1074) ≡ sum binary64 false a true b (2 ^ 1074)
unfolding sum
sum_minus a b o e h = let d : o ≡ b - a = omega arith in rw (lt-ltb a b h) (ap (λ (z : ℕ). round binary64 true z (2 ^ 1074)) d)

-- ---- how many digits

pub digits_number : (t : ℕ) → 2 ^ 54 ≤ t → t < 2 ^ 97 → (m : ℕ) × (count_leading_zeros 128 t + suc m ≡ 75) × (m ≤ 43) × (2 ^ (m + 53) ≤ t) × (t < 2 ^ (m + 54))
digits_number t a b =
    let l = leading_top 128 t (omega arith) (omega arith) in
    let j = l.0 in
    let x : 53 < j = lt_of_not-le (λ (q : j ≤ 53). let s : suc j ≤ 54 = omega arith in lt_irrefl t (lt_of_lt_of_le l.3 (le_trans (pow_mono s) a))) in
    let y : j < 97 = lt_of_not-le (λ (q : 97 ≤ j). lt_irrefl t (lt_of_lt_of_le b (le_trans (pow_mono q) l.2))) in
    let u : j ≡ j - 53 + 53 = omega arith in
    let v : suc j ≡ j - 53 + 54 = omega arith in
    (j - 53, let w = l.1 in omega arith, omega arith, subst (λ (z : ℕ). 2 ^ z ≤ t) u l.2, subst (λ (z : ℕ). t < 2 ^ z) v l.3)

pub digits_of : (top f : ℕ) (rest : Bool) → f ≡ bit rest → 2 ^ 53 ≤ top → top < 2 ^ 96
    → (m : ℕ) × (count_leading_zeros 128 (top * 2 + f) + suc m ≡ 75) × (m ≤ 43) × (2 ^ (m + 53) ≤ top * 2 + f) × (top * 2 + f < 2 ^ (m + 54))
digits_of top f true e a b = digits_number (top * 2 + f) (omega arith) (omega arith)
digits_of top f false e a b = digits_number (top * 2 + f) (omega arith) (omega arith)

-- a number of at most 53 digits drops none
pub whole_top : (n top d r : ℕ) (rest : Bool) → top < 2 ^ 53 → HasLeading n top d rest r → n ≡ top
whole_top n top zero r rest h l = let a : n ≡ top * 1 + r = l.is in let b : r < 1 = l.below in omega arith
whole_top n top (suc d) r rest h l = let a : 2 ^ 64 ≤ top = l.enough (omega arith) in absurd (omega arith)

pub of_negative : (v : Float) → is_negative v ≡ true → (plus_of v ≡ 0) × (minus_of v ≡ units_of v)
of_negative v e = (ap (λ (b : Bool). cond b 0 (units_of v)) e, ap (λ (b : Bool). cond b (units_of v) 0) e)

pub of_positive : (v : Float) → is_negative v ≡ false → (plus_of v ≡ units_of v) × (minus_of v ≡ 0)
of_positive v e = (ap (λ (b : Bool). cond b 0 (units_of v)) e, ap (λ (b : Bool). cond b (units_of v) 0) e)

-- ---- laws

exact_by : (v : Float) (s : Bool) (a : ℕ) → HasValue v s a (2 ^ 1074) → HasValue v (is_negative v) (units_of v) (2 ^ 1074)
exact_by v s a h =
    let p = of_value v s a h in
    subst (λ (t : Bool). HasValue v t (units_of v) (2 ^ 1074)) p.0 (subst (λ (z : ℕ). HasValue v s z (2 ^ 1074)) p.1 h)

pub units_are_exact : UnitsAreExact
units_are_exact v f g =
    let b = to_bits binary64 v in
    let e : of_bits binary64 b ≡ v = of_bits-to_bits binary64 v g in
    let h = finite_field v b e f in
    elim (cases_eq (field b) 0) [
      | inl z ↦ exact_by v _ _ (subst (λ (w : Float). HasValue w (leb (2 ^ 63) b) (b % 2 ^ 52 * 2 ^ 0) (2 ^ 1074)) e (value_of_bits-zero b z))
      | inr n ↦ exact_by v _ _ (subst (λ (w : Float). HasValue w (leb (2 ^ 63) b) ((b % 2 ^ 52 + 2 ^ 52) * 2 ^ (field b - 1)) (2 ^ 1074)) e (value_of_bits b (field b - 1) (omega arith) (omega arith)))
    ]

-- what is not finite has no units
in_front : (f : Float → ℕ) (v : Float) (vs : List Float) → sum_by f (v ∷ vs) ≡ f v + sum_by f vs
in_front f v vs = let a : sum_by f (v ∷ vs) ≡ (0 + f v) + sum_by f vs = sum_by-append f (v ∷ []) vs in omega arith

one : (f : Float → ℕ) → ((v : Float) → float_is_finite v ≡ false → f v ≡ 0) → (v : Float) (vs ws : List Float) (b : Bool) → float_is_finite v ≡ b → sum_by f ws ≡ sum_by f vs
    → sum_by f (cond b (v ∷ ws) ws) ≡ sum_by f (v ∷ vs)
one f none v vs ws true e a = in_front f v ws ∙ ap (λ (z : ℕ). f v + z) a ∙ sym (in_front f v vs)
one f none v vs ws false e a = let b = none v e in let c = in_front f v vs in omega arith

finite_alone : (f : Float → ℕ) → ((v : Float) → float_is_finite v ≡ false → f v ≡ 0) → (vs : List Float) → sum_by f (filter float_is_finite vs) ≡ sum_by f vs
finite_alone f none [] = refl
finite_alone f none (v ∷ vs) = one f none v vs (filter float_is_finite vs) (float_is_finite v) refl (finite_alone f none vs)

plus_none : (v : Float) → float_is_finite v ≡ false → plus_of v ≡ 0
unfolding float_is_finite
plus_none nan e = refl
plus_none (inf true) e = refl
plus_none (inf false) e = refl
plus_none (fin s m k) e = absurd (true≢false e)

minus_none : (v : Float) → float_is_finite v ≡ false → minus_of v ≡ 0
unfolding float_is_finite
minus_none nan e = refl
minus_none (inf true) e = refl
minus_none (inf false) e = refl
minus_none (fin s m k) e = absurd (true≢false e)

of_finite : (vs : List Float) → nearest_sum (filter float_is_finite vs) ≡ nearest_sum vs
of_finite vs =
    let a = finite_alone plus_of plus_none vs in
    let b = finite_alone minus_of minus_none vs in
    λ i. sum binary64 false (a i) true (b i) (2 ^ 1074)

pub sum_has_no_order : SumHasNoOrder
sum_has_no_order vs ws p =
    let a = sum_by-IsPermutation plus_of vs ws p in
    let b = sum_by-IsPermutation minus_of vs ws p in
    sym (λ i. sum binary64 false (a i) true (b i) (2 ^ 1074))

pub total_has_no_order : TotalHasNoOrder
total_has_no_order vs ws p =
    let a = list_any-IsPermutation (is_infinity false) vs ws p in
    let b = list_any-IsPermutation (is_infinity true) vs ws p in
    let c = of_finite vs ∙ sum_has_no_order vs ws p ∙ sym (of_finite ws) in
    λ i. beside_infinities (a i) (b i) (c i)
