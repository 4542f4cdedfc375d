-- A list in order.
use Rattle.std.specs.Prelude.{List, [], ◌∷◌, if◌then◌else◌}
use Rattle.std.specs.Ordering.{is_gt}
use Rattle.std.specs.declared.cmp.Ordering.{Ordering}

module _ {X : Type 0} (cmp : X → X → Ordering) where
  -- one more in a list in order: in front of the first that it is not above
  abbrev pub put_in : X → List X → List X
  put_in x [] = x ∷ []
  put_in x (y ∷ ys) = if is_gt (cmp x y) then y ∷ put_in x ys else x ∷ y ∷ ys

  -- the list in order
  abbrev pub in_order : List X → List X
  in_order [] = []
  in_order (x ∷ xs) = put_in x (in_order xs)
