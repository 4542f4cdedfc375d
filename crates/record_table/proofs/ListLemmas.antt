-- What is made of each item of a list, where an item is put in, taken out or put elsewhere.
use Rattle.std.proofs.Common.{◌≡◌, ℕ, zero, suc, List, [], ◌∷◌, refl, ap, ap₂, sym, ◌∙◌}
use Rattle.std.specs.Prelude.{map, slice_get, Option, Some, None, option_map}
use Rattle.std.specs.List.{insert, remove}
use Rattle.std.proofs.lemmas.Option.{slice_get-map}
use Rattle.trace_store.specs.Moved.{put_back, with_moved}

-- of an item that is put in
pub map-insert : {T U : Type 0} (f : T → U) (xs : List T) (p : ℕ) (x : T) → map f (insert xs p x) ≡ insert (map f xs) p (f x)
map-insert f [] zero x = refl
map-insert f [] (suc p) x = refl
map-insert f (y ∷ ys) zero x = refl
map-insert f (y ∷ ys) (suc p) x = ap (λ l. f y ∷ l) (map-insert f ys p x)

-- of those that are left
pub map-remove : {T U : Type 0} (f : T → U) (xs : List T) (p : ℕ) → map f (remove xs p) ≡ remove (map f xs) p
map-remove f [] zero = refl
map-remove f [] (suc p) = refl
map-remove f (y ∷ ys) zero = refl
map-remove f (y ∷ ys) (suc p) = ap (λ l. f y ∷ l) (map-remove f ys p)

-- of those with an item put back
pub map-put_back : {T U : Type 0} (f : T → U) (o : Option T) (xs : List T) (to : ℕ) → map f (put_back o xs to) ≡ put_back (option_map f o) (map f xs) to
map-put_back f None xs to = refl
map-put_back f (Some x) xs to = map-insert f xs to x

-- of the same items, one of them at another place
pub map-with_moved : {T U : Type 0} (f : T → U) (xs : List T) (from to : ℕ) → map f (with_moved xs from to) ≡ with_moved (map f xs) from to
map-with_moved f xs from to =
    map-put_back f (slice_get xs from) (remove xs from) to
    ∙ ap₂ (λ o l. put_back o l to) (sym (slice_get-map f xs from)) (map-remove f xs from)
