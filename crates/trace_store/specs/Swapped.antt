-- Items that change places, two at a time.
use Rattle.std.specs.Prelude.{ℕ, ◌-◌, ◌≤◌, List, [], ◌∷◌}
use Rattle.std.specs.List.{swap}
use Rattle.frame_cut.specs.Volume.{Volume}

-- the list with the items of each pair in the place of one another, one pair after the other; places count from 1
abbrev pub with_swapped : {T : Type 0} → List T → List (ℕ × ℕ) → List T
with_swapped xs [] = xs
with_swapped xs (pair ∷ pairs) = with_swapped (swap xs (pair.0 - 1) (pair.1 - 1)) pairs

-- so many items have both places of each pair
abbrev pub ArePlaces : ℕ → List (ℕ × ℕ) → Type 0
ArePlaces n [] = Unit {0}
ArePlaces n (pair ∷ pairs) = (1 ≤ pair.0) × (pair.0 ≤ n) × (1 ≤ pair.1) × (pair.1 ≤ n) × ArePlaces n pairs

-- the volume with the traces of each pair in the place of one another, one pair after the other
abbrev pub with_places_swapped : Volume → List (ℕ × ℕ) → Volume
with_places_swapped v pairs = record v { traces = with_swapped v.traces pairs }
