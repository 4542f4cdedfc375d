-- A value that stands so many steps behind the first, counted by halves, each sum within 128 bits where the last one is.
use Rattle.std.proofs.Common.{◌≡◌, ℕ, ℤ, suc, ◌+◌, ◌*◌, ◌/◌, ◌%◌, pos, negsuc, ◌+ℤ◌, ◌*ℤ◌, eqb, Bool, true, false, refl, sym, ap, ◌∙◌, arith}
use Rattle.std.specs.Prelude.{neg_ℤ}
use Rattle.std.specs.Int.{w128}
use Rattle.std.proofs.lemmas.Bool.Decides.{nat_tests}
use Rattle.std.proofs.lemmas.Int.{ints}
use mir.Val.{SFits}
use Rattle.bench_rules.specs.TraceEdits.{counted}

-- ---- products with sums

neg_sum : (a b : ℕ) → neg_ℤ (pos (a + b)) ≡ neg_ℤ (pos a) +ℤ neg_ℤ (pos b)
neg_sum a b = omega (arith, ints)

times_sum : (step : ℤ) (a b : ℕ) → step *ℤ pos (a + b) ≡ step *ℤ pos a +ℤ step *ℤ pos b
times_sum (pos n) a b = let e : n * (a + b) ≡ n * a + n * b = omega arith in ap (λ (x : ℕ). pos x) e
times_sum (negsuc n) a b = let e : suc n * (a + b) ≡ suc n * a + suc n * b = omega arith in ap (λ (x : ℕ). neg_ℤ (pos x)) e ∙ neg_sum (suc n * a) (suc n * b)

times_one : (step : ℤ) → step *ℤ pos 1 ≡ step
times_one (pos n) = let e : n * 1 ≡ n = omega arith in ap (λ (x : ℕ). pos x) e
times_one (negsuc n) = let e : suc n * 1 ≡ suc n = omega arith in ap (λ (x : ℕ). neg_ℤ (pos x)) e

-- an even number of steps is two halves, and an odd one a step more
even_steps : (step : ℤ) (k : ℕ) → k % 2 ≡ 0 → step *ℤ pos k ≡ step *ℤ pos (k / 2) +ℤ step *ℤ pos (k / 2)
even_steps step k e = let halves : k ≡ k / 2 + k / 2 = omega arith in ap (λ (n : ℕ). step *ℤ pos n) halves ∙ times_sum step (k / 2) (k / 2)

odd_steps : (step : ℤ) (k : ℕ) → (k % 2 ≡ 0 → ⊥) → step *ℤ pos k ≡ (step *ℤ pos (k / 2) +ℤ step *ℤ pos (k / 2)) +ℤ step
odd_steps step k e =
    let halves : k ≡ k / 2 + k / 2 + 1 = omega (arith, e) in
    ap (λ (n : ℕ). step *ℤ pos n) halves
    ∙ times_sum step (k / 2 + k / 2) 1
    ∙ ap (λ (x : ℤ). x +ℤ step *ℤ pos 1) (times_sum step (k / 2) (k / 2))
    ∙ ap (λ (x : ℤ). (step *ℤ pos (k / 2) +ℤ step *ℤ pos (k / 2)) +ℤ x) (times_one step)

-- ---- the sums on the way

-- half of the steps, and the first value with one and with two halves, are numbers of 128 bits
pub record Halves (first half : ℤ) : Type 0 where
  pub half_fits : SFits w128 half
  pub once : SFits w128 (first +ℤ half)
  pub twice : SFits w128 ((first +ℤ half) +ℤ half)

even_halves : (first half : ℤ) → SFits w128 first → SFits w128 (first +ℤ (half +ℤ half)) → Halves first half
even_halves first half fits all = record { half_fits = omega (arith, ints); once = omega (arith, ints); twice = omega (arith, ints) }

-- the halves have the sign of the step
odd_up : (first : ℤ) (a p : ℕ) → SFits w128 first → SFits w128 (first +ℤ ((pos p +ℤ pos p) +ℤ pos a)) → Halves first (pos p)
odd_up first a p fits all = record { half_fits = omega (arith, ints); once = omega (arith, ints); twice = omega (arith, ints) }

odd_down : (first : ℤ) (a p : ℕ) → SFits w128 first → SFits w128 (first +ℤ ((neg_ℤ (pos p) +ℤ neg_ℤ (pos p)) +ℤ negsuc a)) → Halves first (neg_ℤ (pos p))
odd_down first a p fits all = record { half_fits = omega (arith, ints); once = omega (arith, ints); twice = omega (arith, ints) }

odd_halves : (first step : ℤ) (h : ℕ) → SFits w128 first → SFits w128 (first +ℤ ((step *ℤ pos h +ℤ step *ℤ pos h) +ℤ step)) → Halves first (step *ℤ pos h)
odd_halves first (pos n) h fits all = odd_up first n (n * h) fits all
odd_halves first (negsuc n) h fits all = odd_down first n (suc n * h) fits all

pub halves : (first step : ℤ) (k : ℕ) → SFits w128 first → SFits w128 (counted first step k) → Halves first (step *ℤ pos (k / 2))
halves first step k fits all = by (eqb (k % 2) 0) refl
  where
    by : (b : Bool) → eqb (k % 2) 0 ≡ b → Halves first (step *ℤ pos (k / 2))
    by true e =
        let even : k % 2 ≡ 0 = grind (arith, nat_tests) in
        even_halves first (step *ℤ pos (k / 2)) fits (rw (even_steps step k even) at all)
    by false e =
        let odd : k % 2 ≡ 0 → ⊥ = λ f. absurd (grind (arith, nat_tests)) in
        odd_halves first step (k / 2) fits (rw (odd_steps step k odd) at all)

-- ---- and where they lead

assoc : (a b c : ℤ) → (a +ℤ b) +ℤ c ≡ a +ℤ (b +ℤ c)
assoc a b c = omega (arith, ints)

pub even_is : (first step : ℤ) (k : ℕ) → k % 2 ≡ 0 → (first +ℤ step *ℤ pos (k / 2)) +ℤ step *ℤ pos (k / 2) ≡ counted first step k
even_is first step k e = assoc first (step *ℤ pos (k / 2)) (step *ℤ pos (k / 2)) ∙ ap (λ (x : ℤ). first +ℤ x) (sym (even_steps step k e))

pub odd_is : (first step : ℤ) (k : ℕ) → (k % 2 ≡ 0 → ⊥) → ((first +ℤ step *ℤ pos (k / 2)) +ℤ step *ℤ pos (k / 2)) +ℤ step ≡ counted first step k
odd_is first step k e =
    ap (λ (x : ℤ). x +ℤ step) (assoc first (step *ℤ pos (k / 2)) (step *ℤ pos (k / 2)))
    ∙ assoc first (step *ℤ pos (k / 2) +ℤ step *ℤ pos (k / 2)) step
    ∙ ap (λ (x : ℤ). first +ℤ x) (sym (odd_steps step k e))
