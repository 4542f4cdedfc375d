-- A record that is put in, taken out or written over, and the records in front of it and behind it.
use Rattle.std.proofs.Common.{◌≡◌, ℕ, zero, suc, ◌<◌, ◌≤◌, List, [], ◌∷◌, ◌++◌, length, refl, ap, arith, Some}
use Rattle.std.specs.Prelude.{slice_get, slice_set}
use Rattle.std.specs.List.{insert, remove}

-- the item stands at the place, between two parts of the list
pub record StandsAt {T : Type 0} (xs : List T) (p : ℕ) (x : T) : Type 0 where
  pub front : List T
  pub behind : List T
  pub whole : xs ≡ front ++ x ∷ behind
  pub removed : remove xs p ≡ front ++ behind
  pub written : (y : T) → slice_set xs p y ≡ front ++ y ∷ behind

pub stands_at : {T : Type 0} (xs : List T) (p : ℕ) (x : T) → slice_get xs p ≡ Some x → StandsAt xs p x
stands_at [] p x h = absurd cc
stands_at (y ∷ ys) zero x h =
    let same : y ≡ x = cc in
    record { front = []; behind = ys; whole = ap (λ z. z ∷ ys) same; removed = refl; written = λ z. refl }
stands_at (y ∷ ys) (suc p) x h =
    let s = stands_at ys p x h in
    record { front = y ∷ s.front; behind = s.behind; whole = ap (λ l. y ∷ l) s.whole; removed = ap (λ l. y ∷ l) s.removed; written = λ z. ap (λ l. y ∷ l) (s.written z) }

-- the place cuts the list in two, and what is put in there stands between them
pub record CutsAt {T : Type 0} (xs : List T) (p : ℕ) : Type 0 where
  pub front : List T
  pub behind : List T
  pub whole : xs ≡ front ++ behind
  pub inserted : (y : T) → insert xs p y ≡ front ++ y ∷ behind

pub cuts_at : {T : Type 0} (xs : List T) (p : ℕ) → p ≤ length xs → CutsAt xs p
cuts_at xs zero h = record { front = []; behind = xs; whole = refl; inserted = λ y. refl }
cuts_at [] (suc p) h = absurd (omega arith)
cuts_at (x ∷ xs) (suc p) h =
    let c = cuts_at xs p (omega arith) in
    record { front = x ∷ c.front; behind = c.behind; whole = ap (λ l. x ∷ l) c.whole; inserted = λ y. ap (λ l. x ∷ l) (c.inserted y) }

-- there is an item at a place in the list
pub record ItemAt {T : Type 0} (xs : List T) (p : ℕ) : Type 0 where
  pub item : T
  pub is : slice_get xs p ≡ Some item

pub item_at : {T : Type 0} (xs : List T) (p : ℕ) → p < length xs → ItemAt xs p
item_at [] p h = absurd (omega arith)
item_at (x ∷ xs) zero h = record { item = x; is = refl }
item_at (x ∷ xs) (suc p) h = let i = item_at xs p (omega arith) in record { item = i.item; is = i.is }

-- ---- an item that is put in

-- it stands there
pub get_inserted : {T : Type 0} (xs : List T) (p : ℕ) (x : T) → p ≤ length xs → slice_get (insert xs p x) p ≡ Some x
get_inserted xs zero x h = refl
get_inserted [] (suc p) x h = absurd (omega arith)
get_inserted (y ∷ ys) (suc p) x h = get_inserted ys p x (omega arith)

-- and leaves the list as it was where it is taken out again
pub remove_inserted : {T : Type 0} (xs : List T) (p : ℕ) (x : T) → p ≤ length xs → remove (insert xs p x) p ≡ xs
remove_inserted xs zero x h = refl
remove_inserted [] (suc p) x h = absurd (omega arith)
remove_inserted (y ∷ ys) (suc p) x h = ap (λ l. y ∷ l) (remove_inserted ys p x (omega arith))

-- ---- an item behind others

pub get_behind : {T : Type 0} (xs : List T) (y : T) (ys : List T) (i : ℕ) → length xs ≡ i → slice_get (xs ++ y ∷ ys) i ≡ Some y
get_behind [] y ys zero e = refl
get_behind [] y ys (suc i) e = absurd (omega (arith, e))
get_behind (x ∷ xs) y ys zero e = absurd (omega (arith, e))
get_behind (x ∷ xs) y ys (suc i) e = get_behind xs y ys i (omega (arith, e))

pub set_behind : {T : Type 0} (xs : List T) (y : T) (ys : List T) (i : ℕ) (z : T) → length xs ≡ i → slice_set (xs ++ y ∷ ys) i z ≡ xs ++ z ∷ ys
set_behind [] y ys zero z e = refl
set_behind [] y ys (suc i) z e = absurd (omega (arith, e))
set_behind (x ∷ xs) y ys zero z e = absurd (omega (arith, e))
set_behind (x ∷ xs) y ys (suc i) z e = ap (λ l. x ∷ l) (set_behind xs y ys i z (omega (arith, e)))
