-- Numbers in the headers of many traces: as a table, and those between two bounds. Traces are counted from 1.
use Rattle.std.specs.Prelude.{ℕ, ◌+◌, ◌*◌, ◌^◌, ◌<◌, ◌≤◌, ◌≡◌, ℤ, Bool, not, ◌&&◌, int_lt, List, Vec, length, take, drop, map, filter, slice_index, Option, Some, None, option_map}
use Rattle.std.specs.Global.{Global}
use Rattle.std.specs.List.{range_with_len}
use Rattle.field_map.specs.declared.place.Place.{Place}
use Rattle.frame_cut.specs.declared.file_head.Head.{Head}
use Rattle.frame_cut.specs.Traces.{trace_at}
use Rattle.frame_cut.specs.Volume.{Volume}
use Rattle.trace_view.specs.Values.{value_of}
use Rattle.bench_rules.specs.declared.table.Table.TheInside.{Inside}
use Rattle.bench_rules.specs.ManyTraces.{positions, each_of}

-- so many rows of this width from the numbers, the rows counted from a first position on
abbrev pub rows_from : (first count width : ℕ) → List ℤ → List (ℕ × List ℤ)
rows_from first count width xs = map (λ k. (first + k, take width (drop (width * k) xs))) (range_with_len 0 count)

-- a row of this width from the numbers for each of these positions
abbrev pub rows_at : List ℕ → (width : ℕ) → List ℤ → List (ℕ × List ℤ)
rows_at ps width xs = map (λ k. (slice_index ps k, take width (drop (width * k) xs))) (range_with_len 0 (length ps))

-- the position of row k: of the traces that are listed, or of those from a first one on
abbrev pub position_in : Option (Vec ℕ Global) → (first k : ℕ) → ℕ
position_in None first k = first + k
position_in (Some ps) first k = slice_index ps.items k

-- the rows of a table of so many traces, with so many numbers each
abbrev pub rows_of : Option (Vec ℕ Global) → (first count width : ℕ) → List ℤ → List (ℕ × List ℤ)
rows_of listed first count width xs = map (λ k. (position_in listed first k, take width (drop (width * k) xs))) (range_with_len 0 count)

-- the rows of the table that is held
abbrev pub rows_in : Inside → List (ℕ × List ℤ)
rows_in t = rows_of t.listed t.first t.count t.width t.numbers.items

-- as many are listed
abbrev pub AreCounted : Option (Vec ℕ Global) → ℕ → Type 0
AreCounted None count = Unit {0}
AreCounted (Some ps) count = length ps.items ≡ count

-- where traces are listed, they are more than k
abbrev pub AreAbove : ℕ → Option (Vec ℕ Global) → Type 0
AreAbove k None = Unit {0}
AreAbove k (Some ps) = k < length ps.items

-- a table has all numbers of its rows, and each row a position of a trace
pub record IsWhole (t : Inside) : Type 0 where
  pub numbers : length t.numbers.items ≡ t.width * t.count
  pub last : t.first + t.count ≤ 2 ^ 32
  pub listed : AreCounted t.listed t.count

-- the numbers at these places of a trace, where it has all of them
abbrev pub row_of : Head → List Place → List ℕ → Option (List ℤ)
row_of h places t = each_of (λ place. value_of h t place) places

-- for each of traces a to b its position and its numbers at these places; nothing where one of them lacks a place
abbrev pub table_of : Volume → List Place → ℕ → ℕ → Option (List (ℕ × List ℤ))
table_of v places a b = each_of (λ p. option_map (λ xs. (p, xs)) (row_of v.head places (trace_at v p))) (positions a b)

-- for each of traces a to b its position and its number at the place; nothing where one of them lacks it
abbrev pub column_of : Volume → Place → ℕ → ℕ → Option (List (ℕ × ℤ))
column_of v place a b = each_of (λ p. option_map (λ x. (p, x)) (value_of v.head (trace_at v p) place)) (positions a b)

-- from low to high
abbrev pub is_between : ℤ → ℤ → ℤ → Bool
is_between low high x = not (int_lt x low) && not (int_lt high x)

-- those of traces a to b whose number at the place is from low to high, each with it; nothing where one of traces a to b lacks the place
abbrev pub found_of : Volume → Place → ℤ → ℤ → ℕ → ℕ → Option (List (ℕ × ℤ))
found_of v place low high a b = option_map (filter (λ e. is_between low high e.1)) (column_of v place a b)
