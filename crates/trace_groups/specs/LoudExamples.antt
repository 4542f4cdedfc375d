-- Loud traces of a small survey, worked by hand.
use Rattle.std.specs.Prelude.{◌≡◌, ℕ, ℤ, ◌^◌, pos, negsuc, true, false, [], ◌∷◌, refl}
use Rattle.float_codes.specs.Ranks.{no_number}
use Rattle.trace_record.specs.Facts.{Facts, with_samples}
use Rattle.trace_record.specs.SmallSurvey.{trace_1, trace_2, trace_3}
use Rattle.trace_groups.specs.declared.mark.Mark.{Mark}
use Rattle.trace_groups.specs.Loud.{units_of, loud_marks}

-- a trace with one number
abbrev saying : ℕ → ℤ → Mark
saying p n = record { position = p; facts = (n, pos 0) }

-- the amounts 2, 401 and 4, whose median is 4; 400 would not be loud
pub loud-one : loud_marks false (trace_1 ∷ with_samples false trace_2 (pos 3 ∷ negsuc 400 ∷ []) ∷ trace_2 ∷ []) ≡ saying 2 (pos 401) ∷ []
loud-one = refl

pub loud-none : loud_marks false (trace_1 ∷ with_samples false trace_2 (pos 3 ∷ negsuc 399 ∷ []) ∷ trace_2 ∷ []) ≡ []
loud-none = refl

-- where most are 0 none is loud
pub loud-silent : loud_marks false (with_samples false trace_1 (pos 0 ∷ []) ∷ trace_2 ∷ with_samples false trace_3 (pos 0 ∷ []) ∷ []) ≡ []
loud-silent = refl

-- a trace of floats, 0 and the one of this rank
abbrev beside_0 : ℤ → Facts
beside_0 r = with_samples true trace_1 (pos 0 ∷ r ∷ [])

-- the ranks of 1, -1, 100, -100 and the floats next to 100 and -100, farther from 0
abbrev one : ℤ
one = pos 0x3FF0000000000000

abbrev minus_one : ℤ
minus_one = negsuc 0x3FF0000000000000

abbrev hundred : ℤ
hundred = pos 0x4059000000000000

abbrev beyond_hundred : ℤ
beyond_hundred = pos 0x4059000000000001

abbrev minus_beyond_hundred : ℤ
minus_beyond_hundred = negsuc 0x4059000000000001

-- 100 is not more than 100 times 1, and the next float is, whatever its sign
pub loud-floats : loud_marks true (beside_0 one ∷ beside_0 minus_one ∷ beside_0 hundred ∷ beside_0 beyond_hundred ∷ beside_0 one ∷ beside_0 minus_beyond_hundred ∷ beside_0 one ∷ []) ≡ saying 4 beyond_hundred ∷ saying 6 beyond_hundred ∷ []
loud-floats = refl

-- an infinite amount is loud, and a trace with one number has no amount
pub loud-infinite : loud_marks true (beside_0 one ∷ beside_0 (pos 0x7FF0000000000000) ∷ with_samples true trace_1 (beyond_hundred ∷ no_number ∷ []) ∷ beside_0 one ∷ []) ≡ saying 2 (pos 0x7FF0000000000000) ∷ []
loud-infinite = refl

-- where the median is infinite none is
pub loud-beyond : loud_marks true (beside_0 (pos 0x7FF0000000000000) ∷ beside_0 one ∷ beside_0 (pos 0x7FF0000000000000) ∷ []) ≡ []
loud-beyond = refl

-- 1, and the least float above 0
pub units-one : units_of 0x3FF0000000000000 ≡ 2 ^ 1074
units-one = refl

pub units-least : units_of 1 ≡ 1
units-least = refl
