-- How two numbers with a sign compare.
use Rattle.std.proofs.Common.{◌≡◌, ◌∙◌, ℕ, zero, suc, ◌+◌, ◌*◌, ◌<◌, pos, negsuc, neg_ℤ, cond, nat_cmp, int_cmp, Ordering, Less, Equal, Greater, refl, sym, ap, inl, inr, arith, lt-ltb, le-ltb, mul-lt-mul_of_pos_right, ltb}
use Rattle.std.specs.Ordering.{ordering_reverse, ordering_then}
use Rattle.float_text.proofs.OrderLemmas.{order_of, cmp_less, cmp_equal, cmp_greater}

pub pos_cmp : (x y : ℕ) → int_cmp (pos x) (pos y) ≡ nat_cmp x y
pos_cmp x y = elim (order_of x y) [
  | inl l ↦ ap (λ b. cond b Less (cond (ltb y x) Greater Equal)) (lt-ltb x y l) ∙ sym (cmp_less x y l)
  | inr (inl e) ↦ (λ i. cond (le-ltb x y (omega arith) i) Less (cond (le-ltb y x (omega arith) i) Greater Equal)) ∙ sym (cmp_equal x y e)
  | inr (inr g) ↦ (λ i. cond (le-ltb x y (omega arith) i) Less (cond (lt-ltb y x g i) Greater Equal)) ∙ sym (cmp_greater x y g)
]

below_zero : (x y : ℕ) → int_cmp (negsuc x) (negsuc y) ≡ ordering_reverse (nat_cmp (suc x) (suc y))
below_zero x y = elim (order_of x y) [
  | inl l ↦ (λ i. cond (le-ltb y x (omega arith) i) Less (cond (lt-ltb x y l i) Greater Equal)) ∙ sym (ap ordering_reverse (cmp_less (suc x) (suc y) (omega arith)))
  | inr (inl e) ↦ (λ i. cond (le-ltb y x (omega arith) i) Less (cond (le-ltb x y (omega arith) i) Greater Equal)) ∙ sym (ap ordering_reverse (cmp_equal (suc x) (suc y) (omega arith)))
  | inr (inr g) ↦ (λ i. cond (lt-ltb y x g i) Less (cond (ltb x y) Greater Equal)) ∙ sym (ap ordering_reverse (cmp_greater (suc x) (suc y) (omega arith)))
]

pub both_minus : (x y : ℕ) → int_cmp (neg_ℤ (pos x)) (neg_ℤ (pos y)) ≡ ordering_reverse (nat_cmp x y)
both_minus zero zero = sym (ap ordering_reverse (cmp_equal 0 0 refl))
both_minus zero (suc y) = sym (ap ordering_reverse (cmp_less 0 (suc y) (omega arith)))
both_minus (suc x) zero = sym (ap ordering_reverse (cmp_greater (suc x) 0 (omega arith)))
both_minus (suc x) (suc y) = below_zero x y

pub minus_right : (x y : ℕ) → int_cmp (pos x) (neg_ℤ (pos y)) ≡ nat_cmp (x + y) 0
minus_right x zero = pos_cmp x 0 ∙ (let e : x ≡ x + 0 = omega arith in ap (λ z. nat_cmp z 0) e)
minus_right x (suc y) = sym (cmp_greater (x + suc y) 0 (omega arith))

pub minus_left : (x y : ℕ) → int_cmp (neg_ℤ (pos x)) (pos y) ≡ nat_cmp 0 (x + y)
minus_left zero y = pos_cmp 0 y ∙ (let e : y ≡ 0 + y = omega arith in ap (nat_cmp 0) e)
minus_left (suc x) y = sym (cmp_less 0 (suc x + y) (omega arith))

pub cmp_scaled : (x y k : ℕ) → 0 < k → nat_cmp x y ≡ nat_cmp (x * k) (y * k)
cmp_scaled x y k K = elim (order_of x y) [
  | inl l ↦ cmp_less x y l ∙ sym (cmp_less (x * k) (y * k) (mul-lt-mul_of_pos_right l K))
  | inr (inl e) ↦ cmp_equal x y e ∙ sym (cmp_equal (x * k) (y * k) (ap (λ z. z * k) e))
  | inr (inr g) ↦ cmp_greater x y g ∙ sym (cmp_greater (x * k) (y * k) (mul-lt-mul_of_pos_right g K))
]

pub then_reversed : (o p : Ordering) → ordering_then (ordering_reverse o) (ordering_reverse p) ≡ ordering_reverse (ordering_then o p)
then_reversed Less p = refl
then_reversed Equal p = refl
then_reversed Greater p = refl
