-- What the fields of a total hold.
use Rattle.std.specs.Prelude.{◌≡◌, true, false, filter}
use Rattle.std.specs.List.{list_any}
use Rattle.std.specs.Float.{float_is_finite}
use Rattle.float_sum.specs.declared.float_total.FloatTotal.TheInside.{Inside}
use Rattle.float_sum.specs.Sums.{is_infinity}

-- the finite ones stand in the sum, and an infinity is marked
pub record HoldsTotal (s : Inside) : Type 0 where
  pub finite : s.finite ≡ filter float_is_finite s.added.values
  pub infinite : s.infinite ≡ list_any (is_infinity false) s.added.values
  pub minus_infinite : s.minus_infinite ≡ list_any (is_infinity true) s.added.values
