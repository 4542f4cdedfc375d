-- Traces that follow one another, and what each of them gives.
use Rattle.std.specs.Prelude.{ℕ, ◌+◌, ◌-◌, List, [], ◌∷◌, Option, Some, option_map, option_and_then}
use Rattle.std.specs.List.{range_with_len}

-- the positions a to b
abbrev pub positions : ℕ → ℕ → List ℕ
positions a b = range_with_len a (b + 1 - a)

-- what each of these gives, where all of them give something
abbrev pub each_of : {A B : Type 0} → (A → Option B) → List A → Option (List B)
each_of f [] = Some []
each_of f (x ∷ xs) = option_and_then (λ y. option_map (λ ys. y ∷ ys) (each_of f xs)) (f x)
