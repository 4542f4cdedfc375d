-- Iterators over pieces of bytes.
use Rattle.std.specs.Prelude.{ℕ, ◌≡◌, ◌<◌, List, [], ◌++◌, length, Option, MatchOption}
use Rattle.std.specs.Borrow.{Bor}

-- a piece is the front of the bytes that were left, and is not empty; there is none where none are left
abbrev pub GivesFront : List ℕ → Option (Bor (List ℕ)) → List ℕ → Type 0
GivesFront old piece new = MatchOption piece ((old ≡ []) × (new ≡ [])) (λ p. (old ≡ p.now ++ new) × (0 < length p.now))
