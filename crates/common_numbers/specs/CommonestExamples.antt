-- The commonest numbers of short lists, worked by hand.
use Rattle.std.specs.Prelude.{◌≡◌, pos, negsuc, [], ◌∷◌, Some, None, refl}
use Rattle.common_numbers.specs.Commonest.{times, commonest}

pub times-two : times (pos 4) (pos 4 ∷ pos 2 ∷ pos 4 ∷ []) ≡ 2
times-two = refl

-- 2 stands three times among these, 4 twice
pub commonest-most : commonest (pos 4 ∷ pos 2 ∷ pos 2 ∷ pos 4 ∷ pos 9 ∷ pos 2 ∷ []) ≡ Some (pos 2)
unfolding commonest
commonest-most = refl

-- of two that stand equally often the lesser, also below 0
pub commonest-lesser : commonest (pos 4 ∷ negsuc 2 ∷ negsuc 2 ∷ pos 4 ∷ pos 1 ∷ []) ≡ Some (negsuc 2)
unfolding commonest
commonest-lesser = refl

pub commonest-none : commonest [] ≡ None
unfolding commonest
commonest-none = refl
