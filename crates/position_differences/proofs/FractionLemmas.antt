-- Fractions in lowest terms, and products that fit.
use Rattle.std.specs.Prelude.{◌≡◌, ℕ, ℤ, pos, negsuc, ◌*ℤ◌, ◌-ℤ◌, ◌+◌, ◌*◌, ◌/◌, nat_lt, ◌<◌, ◌≤◌, ◌^◌, unsigned_abs, ◌-◌, refl, suc}
use Rattle.std.proofs.Common.{arith, sym, ◌∙◌, ap, inl, inr}
use Rattle.std.specs.declared.cmp.Ordering.TheVariants.{Equal}
use Rattle.std.proofs.lemmas.Int.{ints, unsigned_abs-mul}
use mir.Syntax.{w64}
use mir.Val.{SFits}
use native.Mathlib.Nat.{mul-le-mul, add-mul, mul_comm}
use Rattle.std.proofs.Math.Nat.{div-lt_iff_lt-mul}
use Rattle.std.specs.Cmp.{both_ways}
use Rattle.std.proofs.lemmas.Bool.{ltb-true, lt-ltb, cases_lt}
use Rattle.std.proofs.Math.IntN.{pos-*ℤ-pos, negsuc-*ℤ-pos, neg_ℤ}
use Rattle.key_counts.specs.FractionLaws.{fraction_cmp, fraction_congr, int_equal, same_value, *ℤ-*ℤ}
use Rattle.key_counts.specs.RatioOrder.{fraction_of, exact_ratios}
use Rattle.key_counts.specs.Coordinates.{greatest_divisor, greatest_divisor-is, over}
use Rattle.key_counts.specs.declared.ratio.Ratio.{Ratio}

-- in lowest terms a fraction keeps its value
over-value : (n : ℤ) (d : ℕ) (p : 0 < d) → (over n d p).num *ℤ pos d ≡ n *ℤ pos (over n d p).den
unfolding over
over-value n d p = let is = greatest_divisor-is (unsigned_abs n) d in same_value n d (greatest_divisor (unsigned_abs n) d) is.0 is.1

-- and there is no other of that value
pub over-only : (n : ℤ) (d : ℕ) (p : 0 < d) (x : Ratio) → x.num *ℤ pos d ≡ n *ℤ pos x.den → x ≡ over n d p
over-only n d p x e =
    let y = over n d p in
    let to_x : fraction_cmp (n, d) (fraction_of x) ≡ Equal = int_equal _ _ (sym e) in
    let to_y : fraction_cmp (n, d) (fraction_of y) ≡ Equal = int_equal _ _ (sym (over-value n d p)) in
    exact_ratios x y (sym (fraction_congr (n, d) (fraction_of x) (fraction_of y) p x.positive y.positive to_x) ∙ to_y)

-- two numbers with room for their difference
pub difference_small : (a b : ℤ) (k : ℕ) → unsigned_abs a ≤ k → unsigned_abs b ≤ k → unsigned_abs (a -ℤ b) ≤ k + k
difference_small (pos m) (pos n) k p q = omega (arith, ints)
difference_small (pos m) (negsuc n) k p q = omega (arith, ints)
difference_small (negsuc m) (pos n) k p q = omega (arith, ints)
difference_small (negsuc m) (negsuc n) k p q = omega (arith, ints)

abs_small : (n : ℤ) → SFits w64 n → unsigned_abs n ≤ 2 ^ 63
abs_small (pos m) f = omega (arith, ints)
abs_small (negsuc m) f = omega (arith, ints)

pub product_small : (n : ℤ) (d : ℕ) → SFits w64 n → d < 2 ^ 32 → unsigned_abs (n *ℤ pos d) ≤ 2 ^ 95
product_small n d f s =
    let small : d ≤ 2 ^ 32 = omega arith in
    let both : unsigned_abs n * d ≤ 2 ^ 63 * 2 ^ 32 = mul-le-mul (abs_small n f) small in
    rw (unsigned_abs-mul n (pos d)) both

-- a quotient is less than a number as the whole is less than the product
pub quotient_less : (p g n : ℕ) → 0 < g → nat_lt (p / g) n ≡ nat_lt p (n * g)
quotient_less p g n h =
    both_ways _ _
    (λ e. lt-ltb _ _ ((div-lt_iff_lt-mul h).0 (ltb-true _ _ e)))
    (λ e. lt-ltb _ _ ((div-lt_iff_lt-mul h).1 (ltb-true _ _ e)))

-- ---- numbers over one denominator

minus_pos : (m n d : ℕ) → (pos m -ℤ pos n) *ℤ pos d ≡ pos (m * d) -ℤ pos (n * d)
minus_pos m n d = elim (cases_lt m n) [
  | inl low ↦
      let k : ℕ = n - m - 1 in
      let whole : m + suc k ≡ n = omega arith in
      let parts : m * d + suc k * d ≡ n * d = sym (add-mul m (suc k) d) ∙ ap (λ x. x * d) whole in
      let less : pos m -ℤ pos n ≡ negsuc k = omega (arith, ints) in
      ap (λ z. z *ℤ pos d) less ∙ negsuc-*ℤ-pos k d ∙ omega (arith, ints)
  | inr high ↦
      let k : ℕ = m - n in
      let whole : n + k ≡ m = omega arith in
      let parts : n * d + k * d ≡ m * d = sym (add-mul n k d) ∙ ap (λ x. x * d) whole in
      let more : pos m -ℤ pos n ≡ pos k = omega (arith, ints) in
      ap (λ z. z *ℤ pos d) more ∙ pos-*ℤ-pos k d ∙ omega (arith, ints)
]

minus_times : (b a : ℤ) (d : ℕ) → (b -ℤ a) *ℤ pos d ≡ b *ℤ pos d -ℤ a *ℤ pos d
minus_times (pos m) (pos n) d = minus_pos m n d ∙ rw (pos-*ℤ-pos, pos-*ℤ-pos) refl
minus_times (pos m) (negsuc n) d =
    let sum : pos m -ℤ negsuc n ≡ pos (m + suc n) = omega (arith, ints) in
    let parts : (m + suc n) * d ≡ m * d + suc n * d = add-mul m (suc n) d in
    let one : pos m *ℤ pos d ≡ pos (m * d) = pos-*ℤ-pos m d in
    let other : negsuc n *ℤ pos d ≡ neg_ℤ (pos (suc n * d)) = negsuc-*ℤ-pos n d in
    let all : pos (m + suc n) *ℤ pos d ≡ pos ((m + suc n) * d) = pos-*ℤ-pos (m + suc n) d in
    ap (λ z. z *ℤ pos d) sum ∙ omega (arith, ints)
minus_times (negsuc m) (pos n) d =
    let sum : negsuc m -ℤ pos n ≡ negsuc (m + n) = omega (arith, ints) in
    let parts : (suc m + n) * d ≡ suc m * d + n * d = add-mul (suc m) n d in
    let same : suc (m + n) * d ≡ (suc m + n) * d = ap (λ x. x * d) (omega arith) in
    let one : negsuc m *ℤ pos d ≡ neg_ℤ (pos (suc m * d)) = negsuc-*ℤ-pos m d in
    let other : pos n *ℤ pos d ≡ pos (n * d) = pos-*ℤ-pos n d in
    let all : negsuc (m + n) *ℤ pos d ≡ neg_ℤ (pos (suc (m + n) * d)) = negsuc-*ℤ-pos (m + n) d in
    ap (λ z. z *ℤ pos d) sum ∙ omega (arith, ints)
minus_times (negsuc m) (negsuc n) d =
    let turned : negsuc m -ℤ negsuc n ≡ pos (suc n) -ℤ pos (suc m) = omega (arith, ints) in
    let one : negsuc m *ℤ pos d ≡ neg_ℤ (pos (suc m * d)) = negsuc-*ℤ-pos m d in
    let other : negsuc n *ℤ pos d ≡ neg_ℤ (pos (suc n * d)) = negsuc-*ℤ-pos n d in
    ap (λ z. z *ℤ pos d) turned ∙ minus_pos (suc n) (suc m) d ∙ omega (arith, ints)

-- a difference over one denominator, said over the product of both
pub even_value : (r b a : ℤ) (q d e : ℕ) → e ≡ d → r *ℤ pos d ≡ (b -ℤ a) *ℤ pos q → r *ℤ pos (d * e) ≡ (b *ℤ pos e -ℤ a *ℤ pos d) *ℤ pos q
even_value r b a q d e same h =
    ap (λ x. r *ℤ pos (d * x)) same
    ∙ sym (*ℤ-*ℤ r d d)
    ∙ ap (λ z. z *ℤ pos d) h
    ∙ *ℤ-*ℤ (b -ℤ a) q d
    ∙ ap (λ x. (b -ℤ a) *ℤ pos x) (mul_comm q d)
    ∙ sym (*ℤ-*ℤ (b -ℤ a) d q)
    ∙ ap (λ z. z *ℤ pos q) (minus_times b a d)
    ∙ ap (λ x. (b *ℤ pos x -ℤ a *ℤ pos d) *ℤ pos q) (sym same)
