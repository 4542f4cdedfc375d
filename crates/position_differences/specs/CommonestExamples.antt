-- Commonest differences, worked by hand.
use Rattle.std.specs.Prelude.{◌≡◌, ℤ, pos, negsuc, [], ◌∷◌, Some, None, refl}
use Rattle.key_counts.specs.Coordinates.{whole}
use Rattle.position_differences.specs.declared.difference.Difference.{Difference}
use Rattle.position_differences.specs.Commonest.{commonest}

-- a difference of whole numbers
abbrev by : ℤ → ℤ → Difference
by x y = record { x = whole x; y = whole y }

pub commonest-most : commonest (by (pos 25) (pos 0) ∷ by (pos 26) (pos 0) ∷ by (pos 25) (pos 1) ∷ by (pos 26) (pos 0) ∷ []) ≡ Some (by (pos 26) (pos 0))
commonest-most = refl

-- of two that occur equally often the one with the lesser x, and then the lesser y
pub commonest-lesser : commonest (by (pos 25) (pos 0) ∷ by (negsuc 24) (pos 9) ∷ by (negsuc 24) (pos 8) ∷ []) ≡ Some (by (negsuc 24) (pos 8))
commonest-lesser = refl

pub commonest-none : commonest [] ≡ None
commonest-none = refl
