-- Floats are in the order of their ranks.
use mathlib.Core.Path.{◌≡◌, refl, sym, ap, ◌∙◌, subst}
use mathlib.Core.Logic.{◌⊎◌, inl, inr}
use mathlib.Core.Bool.{Bool, true, false, not, ◌&&◌, cond}
use Prim.Native.Nat.{ℕ, zero, suc, ◌+◌, ◌*◌, ◌/◌, ◌%◌, ◌^◌, ◌<◌, ◌≤◌}
use native.Mathlib.Nat.{mul-pos, mod-lt, lt_of_lt_of_le, le_trans, mul-lt-mul_of_pos_right, mul-le-mul_right, lt_of_mul-lt-mul_right, le_of_mul-le-mul_right}
use native.Mathlib.Omega.{arith}
use lib.Pow.{pow-add, pow_pos, pow_mono}
use lib.IntN.{pos, negsuc}
use lib.Dec.{leb, ltb, eqb, eqb-suc-zero, lit≤}
use lib.Signed.{lt_z}
use borrow.Author.Tests.{lt-ltb, le-ltb, ltb-true, ltb-false}
use lib.Ieee.{Float, nan, inf, fin, binary64, up, down, lt, below, of_bits, of_fields}
use lib.Ieee.Fits.{down_pos}
use lib.Ieee.Exact.{HasValue}
use Rattle.float_codes.specs.Ranks.{IsNumber, RanksKeepOrder}
use Rattle.float_codes.proofs.NearestLemmas.{field, value_of_bits, value_of_bits-zero}

-- ---- tests that say the same

same_test : (a b a' b' : ℕ) → (a < b → a' < b') → (b ≤ a → b' ≤ a') → ltb a b ≡ ltb a' b'
same_test a b a' b' f g = go (ltb a b) refl
  where
    go : (t : Bool) → ltb a b ≡ t → ltb a b ≡ ltb a' b'
    go true e = e ∙ sym (lt-ltb a' b' (f (ltb-true a b e)))
    go false e = e ∙ sym (le-ltb a' b' (g (ltb-false a b e)))

-- a * c and b * c are a' * k and b' * k
scaled_test : (a b c a' b' k : ℕ) → 0 < c → 0 < k → a * c ≡ a' * k → b * c ≡ b' * k → ltb a b ≡ ltb a' b'
scaled_test a b c a' b' k C K p q =
    same_test a b a' b'
    (λ h. lt_of_mul-lt-mul_right k (subst (λ (z : ℕ). z < b' * k) p (subst (λ (z : ℕ). a * c < z) q (mul-lt-mul_of_pos_right h C))))
    (λ h. le_of_mul-le-mul_right (subst (λ (z : ℕ). z ≤ a' * k) q (subst (λ (z : ℕ). b * c ≤ z) p (mul-le-mul_right c h))) K)

scaled_below : (s t : Bool) (a b c a' b' k : ℕ) → 0 < c → 0 < k → a * c ≡ a' * k → b * c ≡ b' * k → below s a t b ≡ below s a' t b'
scaled_below false false a b c a' b' k C K p q = scaled_test a b c a' b' k C K p q
scaled_below false true a b c a' b' k C K p q = refl
scaled_below true false a b c a' b' k C K p q =
    let z : 0 * c ≡ 0 * k = omega arith in
    let w : (a + b) * c ≡ (a' + b') * k = omega arith in
    scaled_test 0 (a + b) c 0 (a' + b') k C K z w
scaled_below true true a b c a' b' k C K p q = scaled_test b a c b' a' k C K q p

lt_of_values : (x y : Float) (s t : Bool) (a b c : ℕ) → 0 < c → HasValue x s a c → HasValue y t b c → lt x y ≡ below s a t b
unfolding lt
lt_of_values nan y s t a b c C h k = absurd h
lt_of_values (inf u) y s t a b c C h k = absurd h
lt_of_values (fin u m e) nan s t a b c C h k = absurd k
lt_of_values (fin u m e) (inf v) s t a b c C h k = absurd k
lt_of_values (fin u m e) (fin v n d) s t a b c C h k =
    (λ i. below (h.0 i) (m * up e * down d) (k.0 i) (n * up d * down e))
    ∙ scaled_below s t (m * up e * down d) (n * up d * down e) c a b (down e * down d) C (mul-pos (down_pos e) (down_pos d))
    (first (m * up e) (down d) c a (down e) h.1) (second (n * up d) (down e) c b (down d) k.1)
  where
    first : (x d c a e : ℕ) → x * c ≡ a * e → x * d * c ≡ a * (e * d)
    first x d c a e p = let q : x * c * d ≡ a * e * d = ap (λ (z : ℕ). z * d) p in omega arith

    second : (x e c b d : ℕ) → x * c ≡ b * d → x * e * c ≡ b * (e * d)
    second x e c b d p = let q : x * c * e ≡ b * d * e = ap (λ (z : ℕ). z * e) p in omega arith

-- ---- sizes in units of the smallest value

amount : ℕ → ℕ → ℕ
amount zero t = t
amount (suc x) t = (t + 2 ^ 52) * 2 ^ x

abbrev size_of : ℕ → ℕ
size_of n = amount (n / 2 ^ 52) (n % 2 ^ 52)

amount_below : (x t : ℕ) → t < 2 ^ 52 → amount x t < 2 ^ (52 + x)
unfolding amount
amount_below zero t h = h
amount_below (suc x) t h =
    let e : 52 + suc x ≡ 53 + x = omega arith in
    let l : t + 2 ^ 52 < 2 ^ 53 = omega arith in
    subst (λ (z : ℕ). (t + 2 ^ 52) * 2 ^ x < z) (sym (pow-add 2 53 x) ∙ ap (λ (z : ℕ). 2 ^ z) (sym e)) (mul-lt-mul_of_pos_right l (pow_pos x))

amount_from : (x t : ℕ) → 2 ^ (52 + x) ≤ amount (suc x) t
unfolding amount
amount_from x t =
    let l : 2 ^ 52 ≤ t + 2 ^ 52 = omega arith in
    subst (λ (z : ℕ). z ≤ (t + 2 ^ 52) * 2 ^ x) (sym (pow-add 2 52 x)) (mul-le-mul_right (2 ^ x) l)

amount_rises : (x y t u : ℕ) → t < 2 ^ 52 → (x < y) ⊎ ((x ≡ y) × (t < u)) → amount x t < amount y u
unfolding amount
amount_rises x zero t u h (inl l) = absurd (omega arith)
amount_rises x (suc y) t u h (inl l) =
    let p : 52 + x ≤ 52 + y = omega arith in
    lt_of_lt_of_le (amount_below x t h) (le_trans (pow_mono p) (amount_from y u))
amount_rises x y t u h (inr r) = subst (λ (z : ℕ). amount x t < amount z u) r.0 (more x r.1)
  where
    more : (z : ℕ) → t < u → amount z t < amount z u
    more zero l = l
    more (suc z) l = let m : t + 2 ^ 52 < u + 2 ^ 52 = omega arith in mul-lt-mul_of_pos_right m (pow_pos z)

size_rises : (n m : ℕ) → n < m → size_of n < size_of m
size_rises n m h = amount_rises (n / 2 ^ 52) (m / 2 ^ 52) (n % 2 ^ 52) (m % 2 ^ 52) (mod-lt n (lit≤ tt)) (sides (ltb (n / 2 ^ 52) (m / 2 ^ 52)) refl)
  where
    sides : (b : Bool) → ltb (n / 2 ^ 52) (m / 2 ^ 52) ≡ b → (n / 2 ^ 52 < m / 2 ^ 52) ⊎ ((n / 2 ^ 52 ≡ m / 2 ^ 52) × (n % 2 ^ 52 < m % 2 ^ 52))
    sides true e = inl (ltb-true _ _ e)
    sides false e = let l = ltb-false (n / 2 ^ 52) (m / 2 ^ 52) e in inr (omega arith, omega arith)

size_keeps : (n m : ℕ) → n ≤ m → size_of n ≤ size_of m
size_keeps n m h = go (ltb n m) refl
  where
    go : (b : Bool) → ltb n m ≡ b → size_of n ≤ size_of m
    go true e = let l = size_rises n m (ltb-true n m e) in omega arith
    go false e = let l = ltb-false n m e in let s : n ≡ m = omega arith in subst (λ (z : ℕ). size_of n ≤ size_of z) s (omega arith)

size_test : (n m : ℕ) → ltb (size_of n) (size_of m) ≡ ltb n m
size_test n m = sym (same_test n m (size_of n) (size_of m) (size_rises n m) (size_keeps m n))

some_test : (n m : ℕ) → ltb 0 (size_of n + size_of m) ≡ ltb 0 (n + m)
unfolding amount
some_test n m = sym (same_test 0 (n + m) 0 (size_of n + size_of m) above none)
  where
    at_zero : size_of 0 ≡ 0
    at_zero = refl

    above : 0 < n + m → 0 < size_of n + size_of m
    above h = go (ltb 0 n) refl
      where
        go : (b : Bool) → ltb 0 n ≡ b → 0 < size_of n + size_of m
        go true e = let l = size_rises 0 n (ltb-true 0 n e) in omega arith
        go false e = let l = ltb-false 0 n e in let k : 0 < m = omega arith in let r = size_rises 0 m k in omega arith

    none : n + m ≤ 0 → size_of n + size_of m ≤ 0
    none h = let p = size_keeps n 0 (omega arith) in let q = size_keeps m 0 (omega arith) in let z = at_zero in omega arith

below_sizes : (s t : Bool) (n m : ℕ) → below s (size_of n) t (size_of m) ≡ below s n t m
below_sizes false false n m = size_test n m
below_sizes false true n m = refl
below_sizes true false n m = some_test n m
below_sizes true true n m = size_test m n

-- ---- the order of integers

and-true : (t : Bool) → t ≡ (t && true)
and-true true = refl
and-true false = refl

signed_test : (s t : Bool) (n m : ℕ) → below s n t m ≡ (lt_z (cond s (negsuc n) (pos n)) (cond t (negsuc m) (pos m)) && not (eqb n 0 && eqb m 0))
signed_test false false zero zero = refl
signed_test false false zero (suc m) = and-true (ltb 0 (suc m)) ∙ ap (λ (t : Bool). ltb 0 (suc m) && not t) (sym (eqb-suc-zero m))
signed_test false false (suc n) m = and-true (ltb (suc n) m) ∙ ap (λ (t : Bool). ltb (suc n) m && not (t && eqb m 0)) (sym (eqb-suc-zero n))
signed_test false true n m = refl
signed_test true false zero zero = refl
signed_test true false zero (suc m) = lt-ltb 0 (0 + suc m) (omega arith) ∙ ap (λ (t : Bool). not t) (sym (eqb-suc-zero m))
signed_test true false (suc n) m = lt-ltb 0 (suc n + m) (omega arith) ∙ ap (λ (t : Bool). not (t && eqb m 0)) (sym (eqb-suc-zero n))
signed_test true true zero zero = refl
signed_test true true zero (suc m) = and-true (ltb (suc m) 0) ∙ ap (λ (t : Bool). ltb (suc m) 0 && not t) (sym (eqb-suc-zero m))
signed_test true true (suc n) m = and-true (ltb m (suc n)) ∙ ap (λ (t : Bool). ltb m (suc n) && not (t && eqb m 0)) (sym (eqb-suc-zero n))

-- ---- the law

value_of_size : (b : ℕ) → field b < 2047 → HasValue (of_bits binary64 b) (leb (2 ^ 63) b) (size_of (b % 2 ^ 63)) (2 ^ 1074)
unfolding amount
value_of_size b h = go (field b) refl
  where
    go : (x : ℕ) → field b ≡ x → HasValue (of_bits binary64 b) (leb (2 ^ 63) b) (size_of (b % 2 ^ 63)) (2 ^ 1074)
    go zero e =
        let f : b % 2 ^ 63 / 2 ^ 52 ≡ 0 = omega arith in
        let t : b % 2 ^ 52 ≡ b % 2 ^ 63 % 2 ^ 52 = omega arith in
        let o : b % 2 ^ 52 * 2 ^ 0 ≡ b % 2 ^ 52 = omega arith in
        subst (λ (z : ℕ). HasValue (of_bits binary64 b) (leb (2 ^ 63) b) z (2 ^ 1074)) (o ∙ t ∙ ap (λ (z : ℕ). amount z (b % 2 ^ 63 % 2 ^ 52)) (sym f)) (value_of_bits-zero b e)
    go (suc x) e =
        let f : b % 2 ^ 63 / 2 ^ 52 ≡ suc x = omega arith in
        let t : b % 2 ^ 52 ≡ b % 2 ^ 63 % 2 ^ 52 = omega arith in
        subst (λ (z : ℕ). HasValue (of_bits binary64 b) (leb (2 ^ 63) b) z (2 ^ 1074))
        (ap (λ (z : ℕ). (z + 2 ^ 52) * 2 ^ x) t ∙ ap (λ (z : ℕ). amount z (b % 2 ^ 63 % 2 ^ 52)) (sym f)) (value_of_bits b x e (omega arith))

-- an infinite one
infinite_bits : (b : ℕ) → b % 2 ^ 63 ≡ 2047 * 2 ^ 52 → of_bits binary64 b ≡ inf (leb (2 ^ 63) b)
unfolding of_bits of_fields
infinite_bits b e =
    let x : b % 2 ^ 63 / 2 ^ 52 ≡ 2047 = omega arith in
    let t : b % 2 ^ 52 ≡ 0 = omega arith in
    λ i. of_fields binary64 (leb (2 ^ 63) b) (x i) (t i)

inf_left : (s t : Bool) (y : Float) (m c : ℕ) → HasValue y t m c → lt (inf s) y ≡ s
unfolding lt
inf_left s t nan m c h = absurd h
inf_left s t (inf u) m c h = absurd h
inf_left s t (fin u n d) m c h = refl

inf_right : (s t : Bool) (x : Float) (n c : ℕ) → HasValue x s n c → lt x (inf t) ≡ not t
unfolding lt
inf_right s t nan n c h = absurd h
inf_right s t (inf u) n c h = absurd h
inf_right s t (fin u m d) n c h = refl

both_inf : (s t : Bool) → lt (inf s) (inf t) ≡ below s (2047 * 2 ^ 52) t (2047 * 2 ^ 52)
unfolding lt
both_inf false false = refl
both_inf false true = refl
both_inf true false = refl
both_inf true true = refl

most_left : (s t : Bool) (m : ℕ) → m < 2047 * 2 ^ 52 → s ≡ below s (2047 * 2 ^ 52) t m
most_left false false m h = sym (le-ltb (2047 * 2 ^ 52) m (omega arith))
most_left false true m h = refl
most_left true false m h = sym (lt-ltb 0 (2047 * 2 ^ 52 + m) (omega arith))
most_left true true m h = sym (lt-ltb m (2047 * 2 ^ 52) h)

most_right : (s t : Bool) (n : ℕ) → n < 2047 * 2 ^ 52 → not t ≡ below s n t (2047 * 2 ^ 52)
most_right false false n h = sym (lt-ltb n (2047 * 2 ^ 52) h)
most_right false true n h = refl
most_right true false n h = sym (lt-ltb 0 (n + 2047 * 2 ^ 52) (omega arith))
most_right true true n h = sym (le-ltb (2047 * 2 ^ 52) n (omega arith))

by_size : (b c : ℕ) → IsNumber b → IsNumber c → lt (of_bits binary64 b) (of_bits binary64 c) ≡ below (leb (2 ^ 63) b) (b % 2 ^ 63) (leb (2 ^ 63) c) (c % 2 ^ 63)
by_size b c h k = go (ltb (b % 2 ^ 63) (2047 * 2 ^ 52)) (ltb (c % 2 ^ 63) (2047 * 2 ^ 52)) refl refl
  where
    finite : (a : ℕ) → ltb (a % 2 ^ 63) (2047 * 2 ^ 52) ≡ true → field a < 2047
    finite a e = let l = ltb-true (a % 2 ^ 63) (2047 * 2 ^ 52) e in omega arith

    greatest : (a : ℕ) → IsNumber a → ltb (a % 2 ^ 63) (2047 * 2 ^ 52) ≡ false → a % 2 ^ 63 ≡ 2047 * 2 ^ 52
    greatest a n e = let l = ltb-false (a % 2 ^ 63) (2047 * 2 ^ 52) e in omega arith

    go : (u v : Bool) → ltb (b % 2 ^ 63) (2047 * 2 ^ 52) ≡ u → ltb (c % 2 ^ 63) (2047 * 2 ^ 52) ≡ v
        → lt (of_bits binary64 b) (of_bits binary64 c) ≡ below (leb (2 ^ 63) b) (b % 2 ^ 63) (leb (2 ^ 63) c) (c % 2 ^ 63)
    go true true e f =
        lt_of_values (of_bits binary64 b) (of_bits binary64 c) (leb (2 ^ 63) b) (leb (2 ^ 63) c) (size_of (b % 2 ^ 63)) (size_of (c % 2 ^ 63)) (2 ^ 1074) (pow_pos 1074)
        (value_of_size b (finite b e)) (value_of_size c (finite c f))
        ∙ below_sizes (leb (2 ^ 63) b) (leb (2 ^ 63) c) (b % 2 ^ 63) (c % 2 ^ 63)
    go true false e f =
        ap (lt (of_bits binary64 b)) (infinite_bits c (greatest c k f))
        ∙ inf_right (leb (2 ^ 63) b) (leb (2 ^ 63) c) (of_bits binary64 b) (size_of (b % 2 ^ 63)) (2 ^ 1074) (value_of_size b (finite b e))
        ∙ most_right (leb (2 ^ 63) b) (leb (2 ^ 63) c) (b % 2 ^ 63) (ltb-true _ _ e)
        ∙ ap (below (leb (2 ^ 63) b) (b % 2 ^ 63) (leb (2 ^ 63) c)) (sym (greatest c k f))
    go false true e f =
        ap (λ (z : Float). lt z (of_bits binary64 c)) (infinite_bits b (greatest b h e))
        ∙ inf_left (leb (2 ^ 63) b) (leb (2 ^ 63) c) (of_bits binary64 c) (size_of (c % 2 ^ 63)) (2 ^ 1074) (value_of_size c (finite c f))
        ∙ most_left (leb (2 ^ 63) b) (leb (2 ^ 63) c) (c % 2 ^ 63) (ltb-true _ _ f)
        ∙ ap (λ (z : ℕ). below (leb (2 ^ 63) b) z (leb (2 ^ 63) c) (c % 2 ^ 63)) (sym (greatest b h e))
    go false false e f =
        (λ i. lt (infinite_bits b (greatest b h e) i) (infinite_bits c (greatest c k f) i))
        ∙ both_inf (leb (2 ^ 63) b) (leb (2 ^ 63) c)
        ∙ (λ i. below (leb (2 ^ 63) b) (sym (greatest b h e) i) (leb (2 ^ 63) c) (sym (greatest c k f) i))

pub ranks_keep_order : RanksKeepOrder
ranks_keep_order b c h k = by_size b c h k ∙ signed_test (leb (2 ^ 63) b) (leb (2 ^ 63) c) (b % 2 ^ 63) (c % 2 ^ 63)
