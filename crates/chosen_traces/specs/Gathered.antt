-- Traces that are brought to the front of a file, in their order, and back again. Positions are counted from 1.
use Rattle.std.specs.Prelude.{ℕ, ◌+◌, List, [], ◌∷◌, ◌++◌}

-- pairs of positions that bring these to position a, a + 1 and so on
abbrev pub pairs_from : ℕ → List ℕ → List (ℕ × ℕ)
pairs_from a [] = []
pairs_from a (p ∷ ps) = (a, p) ∷ pairs_from (a + 1) ps

-- the same pairs, the last first: they bring all back
abbrev pub pairs_back : ℕ → List ℕ → List (ℕ × ℕ)
pairs_back a [] = []
pairs_back a (p ∷ ps) = pairs_back (a + 1) ps ++ (a, p) ∷ []
