-- Where a number lies among the binary64 values.
use Rattle.std.specs.Prelude.{ℕ, ℤ, pos, negsuc, neg_ℤ, ◌≡◌, ◌⊎◌, ◌*◌, true, cond, List, Some}
use Rattle.std.specs.declared.cmp.Ordering.{Ordering}
use Rattle.std.specs.declared.cmp.Ordering.TheVariants.{Less, Equal, Greater}
use Rattle.std.specs.Ordering.{int_cmp, ordering_then}
use Rattle.std.specs.Float.{Float, nan, inf, fin, binary64}
use lib.Ieee.{up, down, round}
use Rattle.fast_float.specs.Text.{with_sign}
use Rattle.float_codes.specs.Ranks.{rank_of, value_at, is_number_rank, no_number}
use Rattle.exact_amounts.specs.declared.amount.Amount.{Amount}
use Rattle.exact_amounts.specs.Numbers.{Number, Fraction, Infinity, whole, number_of}

-- How a number compares with a float, both exactly: `fin t m e` is m * up e / down e with the sign t. So 0 and -0 are the same number.
-- What is no number stands above all.
abbrev pub compares : Number → Float → Ordering
compares n nan = Less
compares (Fraction s a c) (inf t) = cond t Greater Less
compares (Fraction s a c) (fin t m e) = int_cmp (with_sign s (a * down e)) (with_sign t (m * up e * c))
compares (Infinity s) (inf t) = cond s (cond t Equal Less) (cond t Greater Equal)
compares (Infinity s) (fin t m e) = cond s Less Greater

-- how a number compares with the value of a rank
abbrev pub compares_with : Number → ℤ → Ordering
compares_with n r = compares n (value_at r)

-- the float nearest to a number, at a tie the even one
abbrev pub nearest : Number → Float
nearest (Fraction s a c) = round binary64 s a c
nearest (Infinity s) = inf s

-- the place of a number: the rank of the float nearest to it, and on which side of that the number lies
abbrev pub place_of : Number → Amount
place_of n = record { rank = rank_of (nearest n); side = compares n (nearest n) }

-- the rank where that of -0 is taken as that of 0
abbrev pub level : ℤ → ℤ
level (pos n) = pos n
level (negsuc n) = neg_ℤ (pos n)

-- how a place compares with a rank: by the ranks, and then by the side
abbrev pub stands : Amount → ℤ → Ordering
stands a r = ordering_then (int_cmp (level a.rank) (level r)) a.side

-- the rank of a number, finite or infinite, or of what is none
abbrev pub IsRank : ℤ → Type 0
IsRank r = (is_number_rank r ≡ true) ⊎ (r ≡ no_number)

-- a place compares with each rank as the number does with its value
abbrev pub IsPlaceOf : Amount → Number → Type 0
IsPlaceOf a n = (r : ℤ) → IsRank r → stands a r ≡ compares_with n r

-- The place of each number that can be said compares as the number.
pub record PlacesAreExact : Type 0 where
  pub of_whole : (x : ℤ) → IsPlaceOf (place_of (whole x)) (whole x)
  pub of_word : (word : List ℕ) (n : Number) → number_of word ≡ Some n → IsPlaceOf (place_of n) n
