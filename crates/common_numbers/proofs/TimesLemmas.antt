-- How often a number stands in a list, as the list grows.
use Rattle.std.specs.Prelude.{◌≡◌, ℕ, ℤ, ◌+◌, ◌⊎◌, Bool, true, false, cond, List, [], ◌∷◌, ◌++◌, refl}
use Rattle.std.proofs.Common.{ap, inl, inr}
use Rattle.std.proofs.lemmas.List.Sums.{sum_by-cons, sum_by_push}
use Rattle.std.proofs.lemmas.Bool.Decides.{Decides-int_eq}
use Rattle.std.specs.Ordering.{int_eq}
use Rattle.common_numbers.specs.Commonest.{times}

-- the number itself counts, and another does not
abbrev pub one_if : ℤ → ℤ → ℕ
one_if m n = cond (int_eq m n) 1 0

pub times-cons : (n m : ℤ) (ms : List ℤ) → times n (m ∷ ms) ≡ one_if m n + times n ms
times-cons n m ms = sum_by-cons (λ k. one_if k n) m ms

pub times-push : (n m : ℤ) (ms : List ℤ) → times n (ms ++ m ∷ []) ≡ times n ms + one_if m n
times-push n m ms = sum_by_push (λ k. one_if k n) ms m

pub one_if-same : (n : ℤ) → one_if n n ≡ 1
one_if-same n = ap (λ b. cond b 1 0) ((Decides-int_eq n n).1 refl)

-- a number is the other, or does not count
pub same_or_other : (m n : ℤ) → (m ≡ n) ⊎ (one_if m n ≡ 0)
same_or_other m n = by (int_eq m n) refl
  where
    by : (b : Bool) → int_eq m n ≡ b → (m ≡ n) ⊎ (one_if m n ≡ 0)
    by true e = inl ((Decides-int_eq m n).0 e)
    by false e = inr (ap (λ b. cond b 1 0) e)
