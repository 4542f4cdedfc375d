-- Whether a trace meets conditions, one after another.
use Rattle.std.proofs.Common.{◌≡◌, ℕ, ◌+◌, ◌<◌, ◌≤◌, Bool, true, false, ◌&&◌, ◌||◌, List, [], ◌∷◌, length, drop, get_or, Option, Some, None, refl, sym, ap, ◌∙◌}
use Rattle.std.specs.Prelude.{option_map, option_and_then}
use Rattle.std.specs.List.{list_all, list_any}
use Rattle.std.proofs.Math.ListN.{drop_of_length-le}
use Rattle.std.proofs.lemmas.List.{drop_more}
use Rattle.bench_rules.specs.ManyTraces.{each_of}

-- what the conditions that are left say, where those before have said this
abbrev pub said : Bool → Option (List Bool) → Option Bool
said all o = option_map (λ bs. all && list_all (λ b. b) bs) o

one_more : (all here : Bool) (o : Option (List Bool)) → said all (option_map (λ bs. here ∷ bs) o) ≡ said (all && here) o
one_more all here None = refl
one_more true here (Some bs) = refl
one_more false here (Some bs) = refl

module _ {X : Type 0} (f : X → Option Bool) where
  pub goes_on : (tests : List X) (i : ℕ) (d : X) (all here : Bool) (o : Option Bool) → i < length tests → Some here ≡ f (get_or tests i d)
      → o ≡ said all (each_of f (drop i tests)) → o ≡ said (all && here) (each_of f (drop (i + 1) tests))
  goes_on tests i d all here o below is far =
      far
      ∙ ap (λ ts. said all (each_of f ts)) (drop_more tests i d below)
      ∙ ap (λ x. said all (option_and_then (λ b. option_map (λ bs. b ∷ bs) (each_of f (drop (i + 1) tests))) x)) (sym is)
      ∙ one_more all here (each_of f (drop (i + 1) tests))

  pub is_missing : (tests : List X) (i : ℕ) (d : X) (all : Bool) (o : Option Bool) → i < length tests → None ≡ f (get_or tests i d)
      → o ≡ said all (each_of f (drop i tests)) → None ≡ o
  is_missing tests i d all o below is far =
      sym (far
      ∙ ap (λ ts. said all (each_of f ts)) (drop_more tests i d below)
      ∙ ap (λ x. said all (option_and_then (λ b. option_map (λ bs. b ∷ bs) (each_of f (drop (i + 1) tests))) x)) (sym is))

  pub ends : (tests : List X) (i : ℕ) (all : Bool) (o : Option Bool) → length tests ≤ i → o ≡ said all (each_of f (drop i tests)) → Some all ≡ o
  ends tests i all o past far = sym (far ∙ ap (λ ts. said all (each_of f ts)) (drop_of_length-le tests past) ∙ by all)
    where
      by : (b : Bool) → said b (Some []) ≡ Some b
      by true = refl
      by false = refl

-- ---- whether one of them has something

module _ {X : Type 0} (f : X → Bool) where
  pub has_one : (xs : List X) (i : ℕ) (d : X) → i < length xs → f (get_or xs i d) ≡ true → list_any f xs ≡ list_any f (drop i xs) → list_any f xs ≡ true
  has_one xs i d below is far = far ∙ ap (λ ys. list_any f ys) (drop_more xs i d below) ∙ ap (λ b. b || list_any f (drop (i + 1) xs)) is

  pub has_none_yet : (xs : List X) (i : ℕ) (d : X) → i < length xs → f (get_or xs i d) ≡ false → list_any f xs ≡ list_any f (drop i xs) → list_any f xs ≡ list_any f (drop (i + 1) xs)
  has_none_yet xs i d below is far = far ∙ ap (λ ys. list_any f ys) (drop_more xs i d below) ∙ ap (λ b. b || list_any f (drop (i + 1) xs)) is

  pub has_none : (xs : List X) (i : ℕ) → length xs ≤ i → list_any f xs ≡ list_any f (drop i xs) → list_any f xs ≡ false
  has_none xs i past far = far ∙ ap (λ ys. list_any f ys) (drop_of_length-le xs past)
