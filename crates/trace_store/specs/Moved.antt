-- Lists with an item at another place.
use Rattle.std.specs.Prelude.{ℕ, List, Option, Some, None, slice_get}
use Rattle.std.specs.List.{insert, remove}

-- the list with the item, if there is one, put at a place
abbrev pub put_back : {T : Type 0} → Option T → List T → ℕ → List T
put_back None xs to = xs
put_back (Some x) xs to = insert xs to x

-- the list with the item at a place taken out, then put at another place of what is left; both count from 0
abbrev pub with_moved : {T : Type 0} → List T → ℕ → ℕ → List T
with_moved xs from to = put_back (slice_get xs from) (remove xs from) to
