-- How often an id stands in a list that was joined, cut or changed.
use Rattle.std.proofs.Common.{◌≡◌, ◌≢◌, ℕ, zero, suc, ◌+◌, ◌<◌, ◌≤◌, List, [], ◌∷◌, ◌++◌, length, get_or, take, drop, sym, ap, ◌∙◌, arith, zero-add, add-one}
use Rattle.std.specs.List.{insert, remove}
use Rattle.std.proofs.lemmas.List.{take-append-drop}
use Rattle.std.proofs.lemmas.Grind.{common_steps}
use Rattle.trace_seq.specs.Order.{times, AreDistinct}

pub times-append : (id : ℕ) (xs ys : List ℕ) → times id (xs ++ ys) ≡ times id xs + times id ys
times-append id [] ys = omega arith
times-append id (x ∷ xs) ys = omega (arith, times-append id xs ys)

pub times-cut : (id : ℕ) (xs : List ℕ) (i : ℕ) → times id (take i xs) + times id (drop i xs) ≡ times id xs
times-cut id xs i = sym (times-append id (take i xs) (drop i xs)) ∙ ap (times id) (take-append-drop i xs)

pub times-insert : (id : ℕ) (xs : List ℕ) (i x : ℕ) → times id (insert xs i x) ≡ times id (x ∷ []) + times id xs
times-insert id xs i x = omega (arith, times-append id (take i xs) (x ∷ drop i xs), times-cut id xs i)

-- an id is in a list once more than in the list without it
pub times-remove : (id : ℕ) (xs : List ℕ) (i d : ℕ) → i < length xs → times id (remove xs i) + times id (get_or xs i d ∷ []) ≡ times id xs
times-remove id [] i d h = absurd (omega arith)
times-remove id (x ∷ xs) zero d h = omega (arith)
times-remove id (x ∷ xs) (suc i) d h = let e : i < length xs = omega arith in omega (arith, times-remove id xs i d e)

pub times-self : (x : ℕ) (xs : List ℕ) → 0 < times x (x ∷ xs)
times-self x xs = grind (arith, common_steps)

-- the id at a place stands in the list
pub times-get : (xs : List ℕ) (i d : ℕ) → i < length xs → 0 < times (get_or xs i d) xs
times-get [] i d h = absurd (omega arith)
times-get (x ∷ xs) zero d h = times-self x xs
times-get (x ∷ xs) (suc i) d h = let e : i < length xs = omega arith in omega (arith, times-get xs i d e)

times-take-suc : (id : ℕ) (xs : List ℕ) (i d : ℕ) → i < length xs → times id (take (suc i) xs) ≡ times id (take i xs) + times id (get_or xs i d ∷ [])
times-take-suc id [] i d h = absurd (omega arith)
times-take-suc id (x ∷ xs) zero d h = sym (zero-add _)
times-take-suc id (x ∷ xs) (suc i) d h = let e : i < length xs = omega arith in omega (arith, times-take-suc id xs i d e)

-- a step of a count from the front
pub times-take : (id : ℕ) (xs : List ℕ) (i d : ℕ) → i < length xs → times id (take (i + 1) xs) ≡ times id (take i xs) + times id (get_or xs i d ∷ [])
times-take id xs i d h = rw add-one (times-take-suc id xs i d h)

pub times-other : (id x : ℕ) → x ≢ id → times id (x ∷ []) ≡ 0
times-other id x h = grind (arith, common_steps)

pub times-one : (id x : ℕ) → times id (x ∷ []) ≤ 1
times-one id x = grind (arith, common_steps)

pub same-times : (id x : ℕ) → 0 < times id (x ∷ []) → x ≡ id
same-times id x h = grind (arith, common_steps)

pub distinct-insert : (xs : List ℕ) (i x : ℕ) → times x xs ≡ 0 → AreDistinct xs → AreDistinct (insert xs i x)
distinct-insert xs i x absent h id = grind (arith, common_steps, times-insert id xs i x, times-one id x, same-times id x, h id)

pub distinct-remove : (xs : List ℕ) (i : ℕ) → i < length xs → AreDistinct xs → AreDistinct (remove xs i)
distinct-remove xs i short h id = omega (arith, times-remove id xs i 0 short, h id)

-- an id that was taken out of a list of distinct ids is not left in it
pub absent-remove : (xs : List ℕ) (i d : ℕ) → i < length xs → AreDistinct xs → times (get_or xs i d) (remove xs i) ≡ 0
absent-remove xs i d short h = omega (arith, times-remove (get_or xs i d) xs i d short, times-self (get_or xs i d) [], h (get_or xs i d))

pub distinct-move : (xs : List ℕ) (i j x : ℕ) → i < length xs → x ≡ get_or xs i x → AreDistinct xs → AreDistinct (insert (remove xs i) j x)
distinct-move xs i j x short read h = distinct-insert (remove xs i) j x (ap (λ y. times y (remove xs i)) read ∙ absent-remove xs i x short h) (distinct-remove xs i short h)

-- an id that was not held is held once with itself
pub once-more : (x id : ℕ) (ids : List ℕ) → times id ids ≡ 0 → times x ids ≤ 1 → times x (id ∷ []) + times x ids ≤ 1
once-more x id ids absent h = grind (arith, common_steps, times-one x id, same-times x id)
