-- The order of ratios, by value.
use Rattle.std.specs.Prelude.{◌≡◌, ℕ, ℤ, ◌*ℤ◌, ◌*◌, pos, refl, unsigned_abs}
use Rattle.std.proofs.Common.{sym, ap, ap₂, ◌∙◌, subst, ◌<ℤ◌, Bool, true, false, ◌&&◌, eqb}
use Rattle.std.specs.Ordering.{int_cmp, int_eq, is_eq, MatchOrdering}
use Rattle.std.specs.Cmp.{both_ways, Equal-is}
use Rattle.std.proofs.lemmas.Cmp.{int_ranked}
use Rattle.std.proofs.lemmas.Bool.{eqb-true, eq-eqb}
use Rattle.std.proofs.lemmas.Int.{unsigned_abs-mul}
use Rattle.std.specs.declared.cmp.Ordering.{Ordering}
use Rattle.std.specs.declared.cmp.Ordering.TheVariants.{Less, Equal, Greater}
use Rattle.std.specs.Cmp.{IsTotalOrder, int_cmp_total}
use Rattle.key_counts.specs.FractionLaws.{fraction_cmp, fraction_trans, fraction_congr, same_denominator, int_cmp-scaled, int_equal}
use Rattle.std.proofs.lemmas.Map.Lookups.{CmpEqualImpliesEq}
use Rattle.std.specs.Coded.{le_prop}
use Rattle.std.specs.Int.{IsGcd}
use Rattle.std.specs.Prelude.{◌<◌}
use Rattle.key_counts.specs.FractionLaws.{IsGcd-prop}
use Rattle.key_counts.specs.declared.ratio.Ratio.{Ratio}

-- the numerator and the denominator
abbrev pub fraction_of : Ratio → ℤ × ℕ
fraction_of r = (r.num, r.den)

-- which of two ratios is less, by value
abbrev pub ratio_cmp : Ratio → Ratio → Ordering
ratio_cmp a b = fraction_cmp (fraction_of a) (fraction_of b)

-- it is a total order
pub ratio_total : IsTotalOrder ratio_cmp
ratio_total = record {
  antisymm = λ x y. int_cmp_total.antisymm (x.num *ℤ pos y.den) (y.num *ℤ pos x.den);
  trans = λ x y z. fraction_trans (fraction_of x) (fraction_of y) (fraction_of z) x.positive y.positive z.positive;
  congr = λ x y z. fraction_congr (fraction_of x) (fraction_of y) (fraction_of z) x.positive y.positive z.positive;
}

both_from : (p q : Bool) → (p && q) ≡ true → (p ≡ true) × (q ≡ true)
both_from true true h = (refl, refl)
both_from true false h = cc
both_from false q h = cc

int_same : (a b : ℤ) → int_cmp a b ≡ Equal → a ≡ b
int_same a b h = elim_ranked (int_cmp a b) h (int_ranked a b (int_cmp a b) refl)
  where
    elim_ranked : (r : Ordering) → r ≡ Equal → MatchOrdering r (a <ℤ b) (a ≡ b) (b <ℤ a) → a ≡ b
    elim_ranked Less e m = cc
    elim_ranked Equal e m = m
    elim_ranked Greater e m = cc

-- ratios with one value are one ratio
pub same_ratio : (x y : Ratio) → ratio_cmp x y ≡ Equal → (x.num ≡ y.num) × (x.den ≡ y.den)
same_ratio x y h =
    let e : x.num *ℤ pos y.den ≡ y.num *ℤ pos x.den = int_same _ _ h in
    let sizes : unsigned_abs x.num * y.den ≡ unsigned_abs y.num * x.den = sym (unsigned_abs-mul x.num (pos y.den)) ∙ ap unsigned_abs e ∙ unsigned_abs-mul y.num (pos x.den) in
    let den : x.den ≡ y.den = same_denominator (unsigned_abs x.num) x.den (unsigned_abs y.num) y.den x.positive y.positive x.lowest y.lowest sizes in
    let over_one : x.num *ℤ pos y.den ≡ y.num *ℤ pos y.den = e ∙ ap (λ d. y.num *ℤ pos d) den in
    (int_same x.num y.num (sym (int_cmp-scaled x.num y.num y.den y.positive) ∙ int_equal _ _ over_one), den)

-- equal parts are equal values
pub ratio_ties : (x y : Ratio) → (int_eq x.num y.num && eqb x.den y.den) ≡ is_eq (ratio_cmp x y)
ratio_ties x y = both_ways _ _
    (λ h. let p = both_from (int_eq x.num y.num) (eqb x.den y.den) h in
    let n : x.num ≡ y.num = int_same x.num y.num ((Equal-is (int_cmp x.num y.num)).0 p.0) in
    let d : x.den ≡ y.den = eqb-true x.den y.den p.1 in
    ap is_eq (int_equal _ _ (ap₂ (λ a b. a *ℤ pos b) n (sym d))))
    (λ h. let s = same_ratio x y ((Equal-is (ratio_cmp x y)).0 h) in
    ap₂ (λ a b. a && b) (ap is_eq (int_equal x.num y.num s.0)) (eq-eqb x.den y.den s.1))

-- a ratio of its parts
of_parts : (n : ℤ) (d : ℕ) → 0 < d → IsGcd (unsigned_abs n) d 1 → Ratio
of_parts n d p l = record { num = n; den = d; positive = p; lowest = l }

of_same : (n : ℤ) (d : ℕ) (p q : 0 < d) (l m : IsGcd (unsigned_abs n) d 1) → of_parts n d p l ≡ of_parts n d q m
of_same n d p q l m = ap₂ (of_parts n d) (le_prop p q) (IsGcd-prop (unsigned_abs n) d 1 l m)

joined : (n : ℤ) (d : ℕ) (p : 0 < d) (l : IsGcd (unsigned_abs n) d 1) (m : ℤ) → n ≡ m → (c : ℕ) → d ≡ c → (q : 0 < c) (k : IsGcd (unsigned_abs m) c 1) → of_parts n d p l ≡ of_parts m c q k
joined n d p l m e c f q k =
    let at_den : (q : 0 < c) (k : IsGcd (unsigned_abs n) c 1) → of_parts n d p l ≡ of_parts n c q k
    = subst (λ (b : ℕ). (q : 0 < b) (k : IsGcd (unsigned_abs n) b 1) → of_parts n d p l ≡ of_parts n b q k) f (λ q k. of_same n d p q l k) in
    subst (λ (o : ℤ). (k : IsGcd (unsigned_abs o) c 1) → of_parts n d p l ≡ of_parts o c q k) e (at_den q) k

-- ratios of the same parts are identical
pub same_parts : (x y : Ratio) → x.num ≡ y.num → x.den ≡ y.den → x ≡ y
unfolding of_parts
same_parts x y num den = joined x.num x.den x.positive x.lowest y.num num y.den den y.positive y.lowest

-- ratios that compare equal are identical
pub exact_ratios : CmpEqualImpliesEq ratio_cmp
exact_ratios x y h = let s = same_ratio x y h in same_parts x y s.0 s.1
