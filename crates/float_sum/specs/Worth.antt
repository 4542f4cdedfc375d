-- The number that words have.
use Rattle.std.specs.Prelude.{ℕ, ◌+◌, ◌*◌, ◌≤◌, ◌^◌, List, [], ◌∷◌, All}

-- the first word counts ones, and each next counts 2 ^ 32 of what the one before it counts
abbrev pub worth : List ℕ → ℕ
worth [] = 0
worth (x ∷ xs) = x + 2 ^ 32 * worth xs

-- each word is at most b
abbrev pub IsWithin : ℕ → List ℕ → Type 0
IsWithin b xs = All (λ x. x ≤ b) xs
