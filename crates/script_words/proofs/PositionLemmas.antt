-- What the place of the first element that passes a test says of a list.
use Rattle.std.proofs.Common.{◌≡◌, ℕ, ◌+◌, ◌<◌, ◌≤◌, length, List, Bool, true, false, not, cond, get_or, take, drop, arith, refl, Some, None, ◌∙◌, sym, ap, suc, ◌-◌, ◌||◌, [], ◌∷◌, drop-drop}
use Rattle.std.specs.Prelude.{position, unwrap_or}
use Rattle.std.specs.List.{position_or_len, list_any, before_first, after_first}
use Rattle.std.proofs.lemmas.List.Sums.{prefix_len-le-length, passes_at_first}
use Rattle.std.proofs.lemmas.List.{take_rest, drop_all}
use Rattle.std.proofs.lemmas.List.Folds.{list_any_at}
use Rattle.std.proofs.lemmas.Bool.Decides.{nat_tests}

module _ (p : ℕ → Bool) (xs : List ℕ) where
  pub none_is : position p xs ≡ None → position_or_len p xs ≡ length xs
  none_is e = grind (arith, nat_tests, prefix_len-le-length (λ x. not (p x)) xs)

  pub some_is : (i : ℕ) → position p xs ≡ Some i → position_or_len p xs ≡ i
  some_is i e = grind (arith, nat_tests)

  pub some_in : (i : ℕ) → position p xs ≡ Some i → i < length xs
  some_in i e = grind (arith, nat_tests)

  pub some_passes : (i : ℕ) → position p xs ≡ Some i → p (get_or xs i 0) ≡ true
  some_passes i e =
      let same : position_or_len p xs ≡ i = some_is i e in
      let inside : i < length xs = some_in i e in
      let here : p (get_or xs (position_or_len p xs) 0) ≡ true = passes_at_first p xs 0 (omega arith) in
      rw same at here

  pub or_length : unwrap_or (position p xs) (length xs) ≡ position_or_len p xs
  or_length = grind (arith, nat_tests, prefix_len-le-length (λ x. not (p x)) xs)

  pub any_some : (i : ℕ) → position p xs ≡ Some i → list_any p xs ≡ true
  any_some i e = list_any_at p xs i 0 (some_in i e) (some_passes i e)

none_passes : (p : ℕ → Bool) (xs : List ℕ) → length xs ≤ position_or_len p xs → list_any p xs ≡ false
none_passes p [] h = refl
none_passes p (x ∷ xs) h =
    elim (p x) as (λ b. suc (length xs) ≤ cond (not b) (1 + position_or_len p xs) 0 → (b || list_any p xs) ≡ false)
    [ true ↦ λ g. absurd (omega arith) | false ↦ λ g. none_passes p xs (omega arith) ] h

pub any_none : (p : ℕ → Bool) (xs : List ℕ) → position p xs ≡ None → list_any p xs ≡ false
any_none p xs e = let all : position_or_len p xs ≡ length xs = none_is p xs e in none_passes p xs (omega arith)

-- what stands in front of the first that passes and behind it
pub front_is : (p : ℕ → Bool) (xs front : List ℕ) (i : ℕ) → position p xs ≡ Some i → front ≡ take i xs → front ≡ before_first p xs
front_is p xs front i e h = h ∙ ap (λ n. take n xs) (sym (some_is p xs i e))

pub back_is : (p : ℕ → Bool) (xs back : List ℕ) (i : ℕ) → position p xs ≡ Some i → back ≡ drop i xs → take (length back - 1) (drop 1 back) ≡ after_first p xs
back_is p xs back i e h = rw take_rest (ap (drop 1) h ∙ drop-drop 1 i xs ∙ ap (λ n. drop (n + 1) xs) (sym (some_is p xs i e)))

all_in_front : (p : ℕ → Bool) (xs : List ℕ) → list_any p xs ≡ false → position_or_len p xs ≡ length xs
all_in_front p [] e = refl
all_in_front p (x ∷ xs) e =
    elim (p x) as (λ b. (b || list_any p xs) ≡ false → cond (not b) (1 + position_or_len p xs) 0 ≡ suc (length xs))
    [ true ↦ λ g. cc | false ↦ λ g. let rest = all_in_front p xs g in omega arith ] e

-- where none passes nothing stands behind
pub nothing_behind : (p : ℕ → Bool) (xs : List ℕ) → list_any p xs ≡ false → after_first p xs ≡ []
nothing_behind p xs e = let all : position_or_len p xs ≡ length xs = all_in_front p xs e in drop_all (position_or_len p xs + 1) xs (omega arith)
