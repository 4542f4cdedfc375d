-- Fractions by value, a signed numerator over a positive denominator: which is less, and the laws that the type of
-- ratios rests on. They stand here and not in proofs, since the type itself cites them.
use Rattle.std.specs.Prelude.{◌≡◌, ℕ, ℤ, pos, negsuc, ◌*ℤ◌, ◌<ℤ◌, ◌<◌, ◌*◌, ◌+◌, ◌%◌, zero, suc, refl, unsigned_abs}
use Rattle.std.proofs.Common.{arith, sym, ap, ap₂, ◌∙◌, subst}
use Rattle.std.specs.Int.{IsGcd}
use Rattle.std.specs.declared.cmp.Ordering.{Ordering}
use Rattle.std.specs.declared.cmp.Ordering.TheVariants.{Less, Equal, Greater}
use Rattle.std.specs.Ordering.{int_cmp, MatchOrdering}
use Rattle.std.specs.Cmp.{int_cmp_total}
use Rattle.std.proofs.lemmas.Cmp.{int_ranked}
use Rattle.std.proofs.lemmas.Int.{ints}
use Rattle.std.proofs.Math.IntN.{pos-*ℤ-pos, negsuc-*ℤ-pos, neg_ℤ}
use Rattle.std.specs.Int.{◌∣◌}
use Rattle.std.specs.Prelude.{◌/◌}
use native.Mathlib.Nat.{∣_prop, one-dvd, div-mul_cancel, mul-dvd-mul_right, dvd_of_mul-dvd-mul_right, one-mul, mul-add, mul-lt-mul_of_pos_right, mul-lt-mul_of_pos_left, mul-pos, mul_assoc, mul_comm, mod-lt, mod-eq_of_lt, mul-add-mod_self_left, mul-zero, zero-mul, mul-one, dvd-mul_left}
use Rattle.std.proofs.lemmas.Nat.Gcd.{IsGcd-from_zero, IsGcd-from_mod, same_from_IsGcd, dvd_antisymm}

-- which of two fractions is less: n/d against m/e
abbrev pub fraction_cmp : ℤ × ℕ → ℤ × ℕ → Ordering
fraction_cmp a b = int_cmp (a.0 *ℤ pos b.1) (b.0 *ℤ pos a.1)

int_less : (a b : ℤ) → a <ℤ b → int_cmp a b ≡ Less
int_less a b h = grind (arith, ints)

pub int_equal : (a b : ℤ) → a ≡ b → int_cmp a b ≡ Equal
int_equal a b h = grind (arith, ints)

int_greater : (a b : ℤ) → b <ℤ a → int_cmp a b ≡ Greater
int_greater a b h = grind (arith, ints)

-- a positive factor keeps the order
scaled_less : (a b : ℤ) (k : ℕ) → 0 < k → a <ℤ b → (a *ℤ pos k) <ℤ (b *ℤ pos k)
scaled_less (pos m) (pos n) k p h = let up : m * k < n * k = mul-lt-mul_of_pos_right (omega (arith, ints)) p in rw (pos-*ℤ-pos, pos-*ℤ-pos) (omega (arith, ints))
scaled_less (pos m) (negsuc n) k p h = absurd (omega (arith, ints))
scaled_less (negsuc m) (pos n) k p h = let up : 0 < suc m * k = mul-pos (omega arith) p in rw (pos-*ℤ-pos, negsuc-*ℤ-pos) (omega (arith, ints))
scaled_less (negsuc m) (negsuc n) k p h = let up : suc n * k < suc m * k = mul-lt-mul_of_pos_right (omega (arith, ints)) p in rw (negsuc-*ℤ-pos, negsuc-*ℤ-pos) (omega (arith, ints))

pub int_cmp-scaled : (a b : ℤ) (k : ℕ) → 0 < k → int_cmp (a *ℤ pos k) (b *ℤ pos k) ≡ int_cmp a b
int_cmp-scaled a b k p = go (int_cmp a b) refl (int_ranked a b (int_cmp a b) refl)
  where
    go : (r : Ordering) → int_cmp a b ≡ r → MatchOrdering r (a <ℤ b) (a ≡ b) (b <ℤ a) → int_cmp (a *ℤ pos k) (b *ℤ pos k) ≡ int_cmp a b
    go Less e h = int_less _ _ (scaled_less a b k p h) ∙ sym e
    go Equal e h = int_equal _ _ (ap (λ z. z *ℤ pos k) h) ∙ sym e
    go Greater e h = int_greater _ _ (scaled_less b a k p h) ∙ sym e

neg-*ℤ-pos : (m b : ℕ) → neg_ℤ (pos m) *ℤ pos b ≡ neg_ℤ (pos (m * b))
neg-*ℤ-pos zero b = pos-*ℤ-pos 0 b ∙ rw zero-mul refl
neg-*ℤ-pos (suc m) b = negsuc-*ℤ-pos m b

-- two factors are one
pub *ℤ-*ℤ : (n : ℤ) (a b : ℕ) → (n *ℤ pos a) *ℤ pos b ≡ n *ℤ pos (a * b)
*ℤ-*ℤ (pos n) a b = ap (λ z. z *ℤ pos b) (pos-*ℤ-pos n a) ∙ pos-*ℤ-pos (n * a) b ∙ ap pos (mul_assoc n a b) ∙ sym (pos-*ℤ-pos n (a * b))
*ℤ-*ℤ (negsuc n) a b = ap (λ z. z *ℤ pos b) (negsuc-*ℤ-pos n a) ∙ neg-*ℤ-pos (suc n * a) b ∙ ap (λ k. neg_ℤ (pos k)) (mul_assoc (suc n) a b) ∙ sym (negsuc-*ℤ-pos n (a * b))

-- ---- fractions in order

-- three numerators over one product of denominators
over : (n : ℤ) (a b c : ℕ) → a ≡ b * c → (n *ℤ pos b) *ℤ pos c ≡ n *ℤ pos a
over n a b c e = *ℤ-*ℤ n b c ∙ ap (λ k. n *ℤ pos k) (sym e)

module _ (x y z : ℤ × ℕ) (px : 0 < x.1) (py : 0 < y.1) (pz : 0 < z.1) where
  abbrev one : ℤ
  one = x.0 *ℤ pos (y.1 * z.1)

  abbrev two : ℤ
  two = y.0 *ℤ pos (x.1 * z.1)

  abbrev three : ℤ
  three = z.0 *ℤ pos (x.1 * y.1)

  first : fraction_cmp x y ≡ int_cmp one two
  first = sym (int_cmp-scaled (x.0 *ℤ pos y.1) (y.0 *ℤ pos x.1) z.1 pz) ∙ ap₂ int_cmp (*ℤ-*ℤ x.0 y.1 z.1) (*ℤ-*ℤ y.0 x.1 z.1)

  second : fraction_cmp y z ≡ int_cmp two three
  second = sym (int_cmp-scaled (y.0 *ℤ pos z.1) (z.0 *ℤ pos y.1) x.1 px) ∙ ap₂ int_cmp (over y.0 (x.1 * z.1) z.1 x.1 (mul_comm x.1 z.1)) (over z.0 (x.1 * y.1) y.1 x.1 (mul_comm x.1 y.1))

  third : fraction_cmp x z ≡ int_cmp one three
  third = sym (int_cmp-scaled (x.0 *ℤ pos z.1) (z.0 *ℤ pos x.1) y.1 py) ∙ ap₂ int_cmp (over x.0 (y.1 * z.1) z.1 y.1 (mul_comm y.1 z.1)) (*ℤ-*ℤ z.0 x.1 y.1)

  pub fraction_trans : fraction_cmp x y ≡ Less → fraction_cmp y z ≡ Less → fraction_cmp x z ≡ Less
  fraction_trans p q = third ∙ int_cmp_total.trans one two three (sym first ∙ p) (sym second ∙ q)

  pub fraction_congr : fraction_cmp x y ≡ Equal → fraction_cmp x z ≡ fraction_cmp y z
  fraction_congr p = third ∙ int_cmp_total.congr one two three (sym first ∙ p) ∙ sym second

-- ---- lowest terms

scaled_mod : (k a b : ℕ) → 0 < b → 0 < k → (k * a) % (k * b) ≡ k * (a % b)
scaled_mod k a b p q =
    let split : b * (a / b) + a % b ≡ a = omega arith in
    let low : a % b < b = mod-lt a p in
    let small : k * (a % b) < k * b = mul-lt-mul_of_pos_left low q in
    let sum : k * a ≡ (k * b) * (a / b) + k * (a % b) = ap (λ n. k * n) (sym split) ∙ mul-add k (b * (a / b)) (a % b) ∙ ap (λ n. n + k * (a % b)) (sym (mul_assoc k b (a / b))) in
    ap (λ n. n % (k * b)) sum ∙ mul-add-mod_self_left (k * b) (a / b) (k * (a % b)) ∙ mod-eq_of_lt small

-- the divisor of two numbers, and of their multiples
Scales : ℕ → ℕ → Type 0
Scales a b = (g : ℕ) × IsGcd a b g × ((k : ℕ) → 0 < k → IsGcd (k * a) (k * b) (k * g))

scales : (fuel a b : ℕ) → b < fuel → Scales a b
unfolding Scales
scales zero a b h = absurd (omega arith)
scales (suc n) a zero h = (a, IsGcd-from_zero a 0 refl, λ k p. IsGcd-from_zero (k * a) (k * 0) (mul-zero k))
scales (suc n) a (suc m) h =
    let low : a % suc m < suc m = mod-lt a (omega arith) in
    let r = scales n (suc m) (a % suc m) (omega arith) in
    (r.0, IsGcd-from_mod a (suc m) r.0 r.1, λ k p. IsGcd-from_mod (k * a) (k * suc m) (k * r.0) (rw (scaled_mod k a (suc m) (omega arith) p) (r.2 k p)))

-- Euclid: what divides a product and shares nothing with one factor divides the other
pub divides_other : (a d k : ℕ) → IsGcd a d 1 → 0 < k → d ∣ k * a → d ∣ k
unfolding Scales
divides_other a d k one p h =
    let r = scales (suc d) a d (omega arith) in
    let is : r.0 ≡ 1 = same_from_IsGcd a d r.0 1 r.1 one in
    let g = r.2 k p in
    let both : d ∣ k * r.0 = g.2 d h (dvd-mul_left d k) in
    subst (λ n. d ∣ n) (ap (λ n. k * n) is ∙ mul-one k) both

-- fractions in lowest terms with one value have one denominator
pub same_denominator : (a b c d : ℕ) → 0 < b → 0 < d → IsGcd a b 1 → IsGcd c d 1 → a * d ≡ c * b → b ≡ d
same_denominator a b c d pb pd ab cd e =
    let left : d ∣ b * c = subst (λ n. d ∣ n) (e ∙ mul_comm c b) (dvd-mul_left d a) in
    let right : b ∣ d * a = subst (λ n. b ∣ n) (sym e ∙ mul_comm a d) (dvd-mul_left b c) in
    dvd_antisymm (divides_other a b d ab pd right) (divides_other c d b cd pb left)

pub IsGcd-prop : (a b g : ℕ) → IsProp (IsGcd a b g)
IsGcd-prop a b g = hlevel ∣_prop

-- both divided by their divisor
pub lowest_terms : (a b g : ℕ) → 0 < g → IsGcd a b g → IsGcd (a / g) (b / g) 1
lowest_terms a b g p h = (
  one-dvd (a / g),
  one-dvd (b / g),
  λ d left right.
      let at_a : d * g ∣ a = subst (λ n. d * g ∣ n) (div-mul_cancel g h.0) (mul-dvd-mul_right d left g) in
      let at_b : d * g ∣ b = subst (λ n. d * g ∣ n) (div-mul_cancel g h.1) (mul-dvd-mul_right d right g) in
      let at_g : d * g ∣ 1 * g = subst (λ n. d * g ∣ n) (sym (one-mul g)) (h.2 (d * g) at_a at_b) in
      dvd_of_mul-dvd-mul_right d p at_g,
)

-- the sign of n with the magnitude m
abbrev pub with_sign : ℤ → ℕ → ℤ
with_sign (pos n) m = pos m
with_sign (negsuc n) m = neg_ℤ (pos m)

cross : (a b g : ℕ) → g ∣ a → g ∣ b → (a / g) * b ≡ a * (b / g)
cross a b g p q =
    let left : (a / g) * b ≡ (a / g) * (b / g * g) = ap (λ n. (a / g) * n) (sym (div-mul_cancel g q)) in
    let right : a * (b / g) ≡ ((a / g) * g) * (b / g) = ap (λ n. n * (b / g)) (sym (div-mul_cancel g p)) in
    left ∙ ap (λ n. (a / g) * n) (mul_comm (b / g) g) ∙ sym (mul_assoc (a / g) g (b / g)) ∙ sym right

-- the fraction keeps its value
pub same_value : (n : ℤ) (d g : ℕ) → g ∣ unsigned_abs n → g ∣ d → with_sign n (unsigned_abs n / g) *ℤ pos d ≡ n *ℤ pos (d / g)
same_value (pos n) d g p q = pos-*ℤ-pos (n / g) d ∙ ap pos (cross n d g p q) ∙ sym (pos-*ℤ-pos n (d / g))
same_value (negsuc n) d g p q = neg-*ℤ-pos (suc n / g) d ∙ ap (λ k. neg_ℤ (pos k)) (cross (suc n) d g p q) ∙ sym (negsuc-*ℤ-pos n (d / g))

pub unsigned_abs-with_sign : (n : ℤ) (m : ℕ) → unsigned_abs (with_sign n m) ≡ m
unsigned_abs-with_sign (pos n) m = refl
unsigned_abs-with_sign (negsuc n) zero = refl
unsigned_abs-with_sign (negsuc n) (suc m) = refl

pub divisor_positive : (g d : ℕ) → 0 < d → g ∣ d → 0 < g
divisor_positive zero d p h = let e : d / 0 * 0 ≡ d = div-mul_cancel 0 h in omega (arith, mul-zero)
divisor_positive (suc g) d p h = omega arith

pub quotient_positive : (g d : ℕ) → 0 < d → g ∣ d → 0 < d / g
quotient_positive g d p h = go (d / g) (div-mul_cancel g h)
  where
    go : (q : ℕ) → q * g ≡ d → 0 < q
    go zero e = let z : 0 * g ≡ 0 = zero-mul g in absurd (omega arith)
    go (suc q) e = omega arith
