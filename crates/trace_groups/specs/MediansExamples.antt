-- Lower medians, worked by hand.
use Rattle.std.specs.Prelude.{◌≡◌, [], ◌∷◌, refl, Some, None}
use Rattle.trace_groups.specs.Medians.{lower_median}

pub median-odd : lower_median (9 ∷ 1 ∷ 5 ∷ []) ≡ Some 5
median-odd = refl

pub median-even : lower_median (9 ∷ 1 ∷ 7 ∷ 5 ∷ []) ≡ Some 5
median-even = refl

pub median-repeated : lower_median (4 ∷ 4 ∷ 0 ∷ 4 ∷ []) ≡ Some 4
median-repeated = refl

pub median-none : lower_median [] ≡ None
median-none = refl
