-- Keys of several numbers are equal where each number is.
use Rattle.std.specs.Prelude.{◌≡◌, ℤ, true, ◌&&◌, refl}
use Rattle.std.proofs.Common.{ap, int_cmp, ◌∙◌}
use Rattle.std.specs.Ordering.{is_eq, int_eq, ordering_then}
use Rattle.std.specs.Cmp.{int_cmp_total, tied_itself}
use Rattle.std.specs.declared.cmp.Ordering.{Ordering}
use Rattle.std.specs.declared.cmp.Ordering.TheVariants.{Less, Equal, Greater}

pub is_eq-pair : (a b : Ordering) → is_eq (ordering_then a b) ≡ (is_eq a && is_eq b)
is_eq-pair Less b = refl
is_eq-pair Equal b = refl
is_eq-pair Greater b = refl

pub is_eq-triple : (a b c : Ordering) → is_eq (ordering_then (ordering_then a b) c) ≡ (is_eq a && is_eq b && is_eq c)
is_eq-triple Less b c = refl
is_eq-triple Equal b c = is_eq-pair b c
is_eq-triple Greater b c = refl

pub int_eq-itself : (a b : ℤ) → a ≡ b → int_eq b a ≡ true
int_eq-itself a b e = ap (λ z. is_eq (int_cmp b z)) e ∙ ap is_eq (tied_itself int_cmp_total b)
