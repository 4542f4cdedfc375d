-- A coordinate under its scalar (trace header, bytes 71-72): a fraction in lowest terms.
use Rattle.std.specs.Prelude.{◌≡◌, ℕ, ℤ, pos, negsuc, ◌*ℤ◌, ◌<◌, ◌%◌, ◌/◌, zero, suc, unsigned_abs, refl}
use Rattle.std.proofs.Common.{zero-lt-suc, arith, sym, ap, ◌∙◌, subst, lit<}
use Rattle.std.specs.Int.{IsGcd}
use Rattle.std.specs.declared.cmp.Ordering.TheVariants.{Equal}
use Rattle.std.proofs.Math.IntN.{pos-*ℤ-pos, negsuc-*ℤ-pos, neg_ℤ}
use native.Mathlib.Nat.{mod-lt, one-dvd, mul-one}
use Rattle.std.proofs.lemmas.Nat.Gcd.{IsGcd-from_zero, IsGcd-from_mod}
use Rattle.key_counts.specs.FractionLaws.{fraction_cmp, fraction_congr, int_equal, same_value, with_sign, lowest_terms, quotient_positive, divisor_positive, unsigned_abs-with_sign}
use Rattle.key_counts.specs.RatioOrder.{fraction_of, exact_ratios}
use Rattle.key_counts.specs.declared.ratio.Ratio.{Ratio}

-- ---- what it is

-- what a scalar multiplies by: the scalar itself where it is positive, else 1, so that 0 counts as 1
abbrev pub factor_of : ℤ → ℤ
factor_of (pos zero) = pos 1
factor_of (pos (suc n)) = pos (suc n)
factor_of (negsuc n) = pos 1

-- what a scalar divides by: its size where it is negative, else 1
abbrev pub divisor_of : ℤ → ℕ
divisor_of (pos n) = 1
divisor_of (negsuc n) = suc n

-- x is the coordinate of a header's number v under the scalar s: x = v * factor / divisor, said as x * divisor = v * factor;
-- that x is in lowest terms its type says
abbrev pub IsUnderScalar : ℤ → ℤ → Ratio → Type 0
IsUnderScalar v s x = x.num *ℤ pos (divisor_of s) ≡ (v *ℤ factor_of s) *ℤ pos x.den

-- ---- lowest terms

-- the greatest common divisor, by Euclid, in at most so many steps, which are more than b
abbrev pub divisor_within : ℕ → ℕ → ℕ → ℕ
divisor_within zero a b = a
divisor_within (suc steps) a zero = a
divisor_within (suc steps) a (suc b) = divisor_within steps (suc b) (a % suc b)

-- the greatest common divisor of two numbers
unfoldable pub greatest_divisor : ℕ → ℕ → ℕ
greatest_divisor a b = divisor_within (suc b) a b

divisor_within-is : (steps a b : ℕ) → b < steps → IsGcd a b (divisor_within steps a b)
divisor_within-is zero a b h = absurd (omega arith)
divisor_within-is (suc steps) a zero h = IsGcd-from_zero a 0 refl
divisor_within-is (suc steps) a (suc b) h =
    let low : a % suc b < suc b = mod-lt a (omega arith) in
    IsGcd-from_mod a (suc b) _ (divisor_within-is steps (suc b) (a % suc b) (omega arith))

-- it is what its name says
pub greatest_divisor-is : (a b : ℕ) → IsGcd a b (greatest_divisor a b)
unfolding greatest_divisor
greatest_divisor-is a b = divisor_within-is (suc b) a b (omega arith)

-- both parts divided by it share no divisor
pub low_terms : (n : ℤ) (d g : ℕ) → 0 < d → IsGcd (unsigned_abs n) d g → IsGcd (unsigned_abs (with_sign n (unsigned_abs n / g))) (d / g) 1
low_terms n d g p h = subst (λ m. IsGcd m (d / g) 1) (sym (unsigned_abs-with_sign n (unsigned_abs n / g))) (lowest_terms (unsigned_abs n) d g (divisor_positive g d p h.1) h)

-- n over d in lowest terms
unfoldable pub over : (n : ℤ) (d : ℕ) → 0 < d → Ratio
over n d p =
    let g : ℕ = greatest_divisor (unsigned_abs n) d in
    let is : IsGcd (unsigned_abs n) d g = greatest_divisor-is (unsigned_abs n) d in
    record { num = with_sign n (unsigned_abs n / g); den = d / g; positive = quotient_positive g d p is.1; lowest = low_terms n d g p is }

pub one_positive : 0 < 1
one_positive = lit< tt

pub suc_positive : (n : ℕ) → 0 < suc n
suc_positive n = zero-lt-suc n

pub over_1 : (a : ℕ) → IsGcd a 1 1
over_1 a = (one-dvd a, one-dvd 1, λ d left right. right)

-- a whole number
abbrev pub whole : ℤ → Ratio
whole n = record { num = n; den = 1; positive = one_positive; lowest = over_1 (unsigned_abs n) }

-- the coordinate in lowest terms
unfoldable pub under_scalar : ℤ → ℤ → Ratio
under_scalar value (pos zero) = whole value
under_scalar value (pos (suc n)) = whole (value *ℤ pos (suc n))
under_scalar value (negsuc n) = over value (suc n) (suc_positive n)

-- ---- it is what it is said to be, and nothing else is

times_1 : (v : ℤ) → v *ℤ pos 1 ≡ v
times_1 (pos n) = pos-*ℤ-pos n 1 ∙ ap pos (mul-one n)
times_1 (negsuc n) = negsuc-*ℤ-pos n 1 ∙ ap (λ k. neg_ℤ (pos k)) (mul-one (suc n))

-- in lowest terms a fraction keeps its value
over-value : (n : ℤ) (d : ℕ) (p : 0 < d) → (over n d p).num *ℤ pos d ≡ n *ℤ pos (over n d p).den
unfolding over
over-value n d p = let is = greatest_divisor-is (unsigned_abs n) d in same_value n d (greatest_divisor (unsigned_abs n) d) is.0 is.1

-- the coordinate is one of the number under the scalar
pub under_scalar-is : (v s : ℤ) → IsUnderScalar v s (under_scalar v s)
unfolding under_scalar
under_scalar-is v (pos zero) = ap (λ (n : ℤ). n *ℤ pos 1) (sym (times_1 v))
under_scalar-is v (pos (suc n)) = refl
under_scalar-is v (negsuc n) = over-value v (suc n) (suc_positive n) ∙ ap (λ (m : ℤ). m *ℤ pos (over v (suc n) (suc_positive n)).den) (sym (times_1 v))

divisor_of-positive : (s : ℤ) → 0 < divisor_of s
divisor_of-positive (pos n) = suc_positive 0
divisor_of-positive (negsuc n) = suc_positive n

-- two ratios of the value of one fraction are one ratio
same_fraction : (n : ℤ) (d : ℕ) (p : 0 < d) (x y : Ratio) → x.num *ℤ pos d ≡ n *ℤ pos x.den → y.num *ℤ pos d ≡ n *ℤ pos y.den → x ≡ y
same_fraction n d p x y ex ey =
    let to_x : fraction_cmp (n, d) (fraction_of x) ≡ Equal = int_equal _ _ (sym ex) in
    let to_y : fraction_cmp (n, d) (fraction_of y) ≡ Equal = int_equal _ _ (sym ey) in
    exact_ratios x y (sym (fraction_congr (n, d) (fraction_of x) (fraction_of y) p x.positive y.positive to_x) ∙ to_y)

-- and there is no other
pub under_scalar-only : (v s : ℤ) (x : Ratio) → IsUnderScalar v s x → x ≡ under_scalar v s
under_scalar-only v s x e = same_fraction (v *ℤ factor_of s) (divisor_of s) (divisor_of-positive s) x (under_scalar v s) e (under_scalar-is v s)
