-- A journal of one piece, byte by byte.
use Rattle.std.specs.Prelude.{◌≡◌, refl, [], ◌∷◌}
use Rattle.journal_codes.specs.Codes.{number, number_in, piece}

-- the number 259 is 3 and once 256
pub number-259 : number 259 ≡ 3 ∷ 1 ∷ 0 ∷ 0 ∷ 0 ∷ 0 ∷ 0 ∷ 0 ∷ []
number-259 = refl

-- two bytes, 7 and 9, at place 5
pub piece-two : piece (5, 7 ∷ 9 ∷ []) ≡ 5 ∷ 0 ∷ 0 ∷ 0 ∷ 0 ∷ 0 ∷ 0 ∷ 0 ∷ 2 ∷ 0 ∷ 0 ∷ 0 ∷ 0 ∷ 0 ∷ 0 ∷ 0 ∷ 7 ∷ 9 ∷ []
piece-two = refl

-- the number that begins there is 259 again, whatever follows
pub number_in-259 : number_in (3 ∷ 1 ∷ 0 ∷ 0 ∷ 0 ∷ 0 ∷ 0 ∷ 0 ∷ 77 ∷ []) ≡ 259
unfolding number_in
number_in-259 = refl
