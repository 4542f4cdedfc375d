-- The order of traces: a list of ids.
use Rattle.std.specs.Prelude.{ℕ, ◌+◌, ◌-◌, ◌≤◌, ◌==◌, List, [], ◌∷◌, slice_get, slice_index, if◌then◌else◌, Option, None}
use Rattle.std.specs.List.{insert, remove}

-- an order that is kept in so many chunks, and how many inserts or moves need no memory
pub record ChunkOrder : Type 0 where
  pub ids : List ℕ
  pub chunks : ℕ
  pub spare : ℕ

-- how often the id stands in the list
abbrev pub times : ℕ → List ℕ → ℕ
times id [] = 0
times id (x ∷ xs) = (if x == id then 1 else 0) + times id xs

-- no id stands twice
abbrev pub AreDistinct : List ℕ → Type 0
AreDistinct ids = (id : ℕ) → times id ids ≤ 1

-- the id at position p, from 1
abbrev pub id_at : List ℕ → ℕ → Option ℕ
id_at ids p = if p == 0 then None else slice_get ids (p - 1)

-- the list with the id put at position p: 1 is in front of all, one more than their number is behind all
abbrev pub with_id : List ℕ → ℕ → ℕ → List ℕ
with_id ids p id = insert ids (p - 1) id

-- the list without the id at position p
abbrev pub without_id : List ℕ → ℕ → List ℕ
without_id ids p = remove ids (p - 1)

-- the list with the id at position a taken out, then put at position b of what is left
abbrev pub with_id_moved : List ℕ → ℕ → ℕ → List ℕ
with_id_moved ids a b = with_id (without_id ids a) b (slice_index ids (a - 1))
