-- Places of whole numbers, of cells and of cells at one offset each.
use Rattle.std.specs.Prelude.{ℕ, ℤ, pos, negsuc, ◌+◌, ◌-◌, ◌*◌, ◌/◌, ◌%◌, ◌^◌, ◌<◌, ◌+ℤ◌, ◌-ℤ◌, ◌≤ℤ◌, ◌<ℤ◌, ◌≤◌, suc, length, nat_lt, if◌then◌else◌, List, [], ◌∷◌, Vec, Option, Some, None, option_map, get_or, slice_get, unwrap_or}
use Rattle.std.specs.Global.{Global}
use Rattle.std.specs.Vec.{vec_len, vec_capacity}
use Rattle.std.specs.Ordering.{int_cmp, int_eq, ordering_then}
use Rattle.std.specs.declared.cmp.Ordering.{Ordering}

-- ---- an interval of whole numbers

-- the place at so many steps from the first, among so many
abbrev pub place_within : ℕ → ℤ → Option ℕ
place_within n (pos i) = if nat_lt i n then Some i else None
place_within n (negsuc i) = None

-- the place of a whole number among so many from the lowest on
abbrev pub interval_place : ℤ → ℕ → ℤ → Option ℕ
interval_place low n k = place_within n (k -ℤ low)

-- the whole number of a place
abbrev pub interval_key : ℤ → ℕ → ℤ
interval_key low p = low +ℤ pos p

-- ---- rows: so many inlines from the lowest one on, and behind them others that rise

-- where a whole number first stands in a list
abbrev pub index_of : List ℤ → ℤ → Option ℕ
index_of [] k = None
index_of (x ∷ xs) k = if int_eq x k then Some 0 else option_map suc (index_of xs k)

-- a place among so many, or else one counted on behind them
abbrev pub or_behind : ℕ → Option ℕ → Option ℕ → Option ℕ
or_behind n (Some p) other = Some p
or_behind n None other = option_map (λ i. n + i) other

-- the row of an inline
abbrev pub row_place : ℤ → ℕ → List ℤ → ℤ → Option ℕ
row_place low n more k = or_behind n (interval_place low n k) (index_of more k)

-- the inline of a row
abbrev pub row_key : ℤ → ℕ → List ℤ → ℕ → ℤ
row_key low n more p = if nat_lt p n then interval_key low p else get_or more (p - n) (pos 0)

-- all are whole numbers of 32 bits; those behind are above the others, and rise; they are at most as many
pub record AreRows (low : ℤ) (n : ℕ) (more : List ℤ) : Type 0 where
  pub fit : (low +ℤ pos n) ≤ℤ pos (2 ^ 31)
  pub small : n ≤ 2 ^ 32
  pub few : length more ≤ n
  pub above : (i : ℕ) → i < length more → (low +ℤ pos n) ≤ℤ get_or more i (pos 0)
  pub rising : (i j : ℕ) → i < j → j < length more → get_or more i (pos 0) <ℤ get_or more j (pos 0)

-- the numbers of a list, if there is one
abbrev pub numbers_in : Option (Vec ℤ Global) → List ℤ
numbers_in None = []
numbers_in (Some v) = v.items

-- a list that has room for one number more
abbrev pub HasRoom : Option (Vec ℤ Global) → Type 0
HasRoom None = ⊥
HasRoom (Some v) = vec_len v < vec_capacity v

-- a row can be added for an inline above all others, while fewer were added than there were at first
pub record CanAdd (low : ℤ) (n : ℕ) (added : Option (Vec ℤ Global)) (k : ℤ) : Type 0 where
  pub room : HasRoom added
  pub few : length (numbers_in added) < n
  pub above : (low +ℤ pos n) ≤ℤ k
  pub over : (i : ℕ) → i < length (numbers_in added) → get_or (numbers_in added) i (pos 0) <ℤ k

-- ---- a rectangle of inlines and crosslines, row by row

-- cells by inline, then by crossline
abbrev pub cell_cmp : ℤ × ℤ → ℤ × ℤ → Ordering
cell_cmp a b = ordering_then (int_cmp a.0 b.0) (int_cmp a.1 b.1)

-- the place at a row and a column, with so many columns
abbrev pub place_at : ℕ → Option ℕ → Option ℕ → Option ℕ
place_at w None b = None
place_at w (Some a) None = None
place_at w (Some a) (Some b) = Some (a * w + b)

-- the place of a cell, by the row of its inline, among so many columns from the lowest crossline on
abbrev pub cell_place : (ℤ → Option ℕ) → ℤ → ℕ → ℤ × ℤ → Option ℕ
cell_place row low w k = place_at w (row k.0) (interval_place low w k.1)

-- the cell of a place, by the inlines of rows
abbrev pub cell_key : (ℕ → ℤ) → ℤ → ℕ → ℕ → ℤ × ℤ
cell_key inline low w p = (inline (p / w), interval_key low (p % w))

-- the columns are whole numbers of 32 bits, and the places can be counted in 64
pub record IsRectangle (rows : ℕ) (low : ℤ) (w : ℕ) : Type 0 where
  pub columns : (low +ℤ pos w) ≤ℤ pos (2 ^ 31)
  pub area : rows * w < 2 ^ 64

-- ---- the cells of a rectangle, each at one offset

-- triples by inline, then by crossline, then by offset
abbrev pub triple_cmp : ℤ × ℤ × ℤ → ℤ × ℤ × ℤ → Ordering
triple_cmp a b = ordering_then (ordering_then (int_cmp a.0 b.0) (int_cmp a.1 b.1)) (int_cmp a.2 b.2)

-- the offset at a place of this list, or else the usual one
abbrev pub offset_in : List ℤ → ℤ → ℕ → ℤ
offset_in own o p = unwrap_or (slice_get own p) o

-- where the offset of a place is kept: at the place itself among the first rows, and behind them in its column of the last of these
abbrev pub place_below : ℕ → ℕ → ℕ → ℕ
place_below rows w p = if nat_lt p (rows * w) then p else (rows - 1) * w + p % w

-- the offset at a place: its own, where places have one each, or else that of all
abbrev pub offset_at : Option (Vec ℤ Global) → ℤ → ℕ → ℤ
offset_at None o p = o
offset_at (Some own) o p = offset_in own.items o p

-- the place, if the offset is that of the place
abbrev pub place_with : (ℕ → ℤ) → ℤ → Option ℕ → Option ℕ
place_with offset o None = None
place_with offset o (Some p) = if int_eq o (offset p) then Some p else None

-- the place of a cell with the offset that it has there
abbrev pub triple_place : (ℤ → Option ℕ) → ℤ → ℕ → (ℕ → ℤ) → ℤ × ℤ × ℤ → Option ℕ
triple_place row low w offset k = place_with offset k.2 (cell_place row low w (k.0, k.1))

-- the triple of a place
abbrev pub triple_key : (ℕ → ℤ) → ℤ → ℕ → (ℕ → ℤ) → ℕ → ℤ × ℤ × ℤ
triple_key inline low w offset p = (inline (p / w), interval_key low (p % w), offset p)
