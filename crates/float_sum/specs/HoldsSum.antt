-- What the fields of a sum hold.
use Rattle.std.specs.Prelude.{◌≡◌, ◌≤◌, ◌*◌, ◌^◌, length, sum_by}
use Rattle.float_sum.specs.declared.exact_sum.ExactSum.TheInside.{Inside}
use Rattle.float_sum.specs.Worth.{worth, IsWithin}
use Rattle.float_sum.specs.Sums.{AreFinite, plus_of, minus_of}

-- The words of each sign have the sum of that sign. Each float made one word grow by at most 2 ^ 84, so that none overflows,
-- and the sum by at most 2 ^ 2098, so that it fits the words when they are carried.
pub record HoldsSum (s : Inside) : Type 0 where
  pub plus : worth s.plus ≡ sum_by plus_of s.added.values
  pub minus : worth s.minus ≡ sum_by minus_of s.added.values
  pub plus_words : length s.plus ≡ 68
  pub minus_words : length s.minus ≡ 68
  pub plus_room : IsWithin (length s.added.values * 2 ^ 84) s.plus
  pub minus_room : IsWithin (length s.added.values * 2 ^ 84) s.minus
  pub plus_small : worth s.plus ≤ length s.added.values * 2 ^ 2098
  pub minus_small : worth s.minus ≤ length s.added.values * 2 ^ 2098
  pub finite : AreFinite s.added.values
