-- How two numbers compare.
use Rattle.std.proofs.Common.{◌≡◌, ℕ, ◌-◌, ◌<◌, nat_cmp, Ordering, Less, Equal, Greater, refl, ap, ◌∙◌, inl, inr, arith, eq-zero-or-pos, lt-ltb, le-ltb, eq-eqb, ne_eqb}
use mathlib.Core.Logic.{◌⊎◌}

pub order_of : (a b : ℕ) → (a < b) ⊎ ((a ≡ b) ⊎ (b < a))
order_of a b = elim (eq-zero-or-pos (b - a)) [
  | inr p ↦ inl (omega arith)
  | inl z ↦ elim (eq-zero-or-pos (a - b)) [ inl y ↦ inr (inl (omega arith)) | inr p ↦ inr (inr (omega arith)) ]
]

pub cmp_less : (a b : ℕ) → a < b → nat_cmp a b ≡ Less
cmp_less a b h = rw (lt-ltb a b h) refl

pub cmp_equal : (a b : ℕ) → a ≡ b → nat_cmp a b ≡ Equal
cmp_equal a b h = rw (le-ltb a b (omega arith), eq-eqb a b h) refl

pub cmp_greater : (a b : ℕ) → b < a → nat_cmp a b ≡ Greater
cmp_greater a b h = rw (le-ltb a b (omega arith), ne_eqb a b (λ e. omega arith)) refl

-- ---- what a comparison says

abbrev mark : Ordering → ℕ
mark Less = 0
mark Equal = 1
mark Greater = 2

unlike : (x y : Ordering) → x ≡ y → mark x ≡ mark y
unlike x y e = ap mark e

pub is_less : (a b : ℕ) → Less ≡ nat_cmp a b → a < b
is_less a b h = elim (order_of a b) [
  | inl l ↦ l
  | inr (inl e) ↦ absurd (omega (arith, unlike Less Equal (h ∙ cmp_equal a b e)))
  | inr (inr g) ↦ absurd (omega (arith, unlike Less Greater (h ∙ cmp_greater a b g)))
]

pub is_equal : (a b : ℕ) → Equal ≡ nat_cmp a b → a ≡ b
is_equal a b h = elim (order_of a b) [
  | inl l ↦ absurd (omega (arith, unlike Equal Less (h ∙ cmp_less a b l)))
  | inr (inl e) ↦ e
  | inr (inr g) ↦ absurd (omega (arith, unlike Equal Greater (h ∙ cmp_greater a b g)))
]

pub is_greater : (a b : ℕ) → Greater ≡ nat_cmp a b → b < a
is_greater a b h = elim (order_of a b) [
  | inl l ↦ absurd (omega (arith, unlike Greater Less (h ∙ cmp_less a b l)))
  | inr (inl e) ↦ absurd (omega (arith, unlike Greater Equal (h ∙ cmp_equal a b e)))
  | inr (inr g) ↦ g
]
