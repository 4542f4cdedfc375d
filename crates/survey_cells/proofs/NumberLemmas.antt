-- Sums and differences of numbers of 32 and of 64 bits fit 128.
use Rattle.std.specs.Prelude.{◌≡◌, ◌==◌, ℤ, ◌+ℤ◌, ◌-ℤ◌}
use Rattle.std.specs.Ordering.{int_eq}
use Rattle.std.proofs.Common.{arith, sym, ap, ap₂, ◌∙◌}
use Rattle.std.proofs.lemmas.Bool.Decides.{same_from_decides, Decides-like, Decides-eqb, Decides-int_eq}
use mir.Syntax.{w32, w64, w128}
use mir.Val.{SFits, to_z, of_z}
use Rattle.std.proofs.lemmas.Int.{ints, to_z-of_z}

module _ (n m a b : ℤ) (fn : SFits w32 n) (fm : SFits w64 m) (ea : a ≡ to_z w32 (of_z w32 n)) (eb : b ≡ to_z w64 (of_z w64 m)) where
  first_is : to_z w128 (of_z w128 a) ≡ n
  first_is = let e : a ≡ n = ea ∙ to_z-of_z w32 n fn in omega (arith, ints)

  second_is : to_z w128 (of_z w128 b) ≡ m
  second_is = let e : b ≡ m = eb ∙ to_z-of_z w64 m fm in omega (arith, ints)

  pub sum_is : to_z w128 (of_z w128 (to_z w128 (of_z w128 a) +ℤ to_z w128 (of_z w128 b))) ≡ n +ℤ m
  sum_is =
      let fits : SFits w128 (n +ℤ m) = omega (arith, ints) in
      ap (λ z. to_z w128 (of_z w128 z)) (ap₂ (λ u v. u +ℤ v) first_is second_is) ∙ to_z-of_z w128 (n +ℤ m) fits

  pub rest_is : to_z w128 (of_z w128 (to_z w128 (of_z w128 a) -ℤ to_z w128 (of_z w128 b))) ≡ n -ℤ m
  rest_is =
      let fits : SFits w128 (n -ℤ m) = omega (arith, ints) in
      ap (λ z. to_z w128 (of_z w128 z)) (ap₂ (λ u v. u -ℤ v) first_is second_is) ∙ to_z-of_z w128 (n -ℤ m) fits

-- a number lies so far above another where it is that sum
module _ (n m d : ℤ) (fn : SFits w32 n) (fm : SFits w32 m) (fd : SFits w64 d) where
  pub gap_is : (a b : ℤ) → a ≡ to_z w32 (of_z w32 n) → b ≡ to_z w32 (of_z w32 m)
      → (of_z w64 (to_z w64 (of_z w64 a) -ℤ to_z w64 (of_z w64 b)) == of_z w64 d) ≡ int_eq n (m +ℤ d)
  gap_is a b ea eb =
      let fits : SFits w64 (n -ℤ m) = omega (arith, ints) in
      let wide_n : SFits w64 n = omega (arith, ints) in
      let wide_m : SFits w64 m = omega (arith, ints) in
      let first : to_z w64 (of_z w64 a) ≡ n = ap (λ z. to_z w64 (of_z w64 z)) (ea ∙ to_z-of_z w32 n fn) ∙ to_z-of_z w64 n wide_n in
      let second : to_z w64 (of_z w64 b) ≡ m = ap (λ z. to_z w64 (of_z w64 z)) (eb ∙ to_z-of_z w32 m fm) ∙ to_z-of_z w64 m wide_m in
      let forth : of_z w64 (n -ℤ m) ≡ of_z w64 d → n ≡ m +ℤ d = λ e.
      let gap : n -ℤ m ≡ d = sym (to_z-of_z w64 (n -ℤ m) fits) ∙ ap (to_z w64) e ∙ to_z-of_z w64 d fd in
      omega (arith, ints) in
      let back : n ≡ m +ℤ d → of_z w64 (n -ℤ m) ≡ of_z w64 d = λ e.
      let gap : n -ℤ m ≡ d = omega (arith, ints) in
      ap (of_z w64) gap in
      ap₂ (λ u v. of_z w64 (u -ℤ v) == of_z w64 d) first second
      ∙ same_from_decides _ _ (Decides-like _ forth back (Decides-eqb (of_z w64 (n -ℤ m)) (of_z w64 d))) (Decides-int_eq n (m +ℤ d))
