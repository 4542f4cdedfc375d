-- Traces in the order of numbers in their headers. Traces are counted from 1.
use Rattle.std.specs.Prelude.{ℕ, ◌+◌, ◌-◌, ℤ, Bool, false, int_lt, ◌&&◌, ◌||◌, List, [], ◌∷◌, ◌++◌, take, drop, map, Option, option_map, if◌then◌else◌}
use Rattle.std.specs.List.{concat}
use Rattle.std.specs.Option.{option_map_or}
use Rattle.std.specs.Ordering.{int_eq}
use Rattle.field_map.specs.declared.place.Place.{Place}
use Rattle.frame_cut.specs.Splice.{splice}
use Rattle.frame_cut.specs.Traces.{trace_at}
use Rattle.frame_cut.specs.Volume.{Volume, bytes_of}
use Rattle.bench_rules.specs.Tables.{table_of}
use Rattle.bench_rules.specs.WholeTraces.{trace_start}

-- a number in front of another: the lesser one, or where numbers are to fall the greater one
abbrev pub is_in_front : (falls : Bool) → ℤ → ℤ → Bool
is_in_front falls x y = if falls then int_lt y x else int_lt x y

-- numbers in front of others: the first two that differ tell, each rising or falling
abbrev pub are_in_front : (falls : List Bool) → List ℤ → List ℤ → Bool
are_in_front (falls ∷ rest) (x ∷ xs) (y ∷ ys) = is_in_front falls x y || (int_eq x y && are_in_front rest xs ys)
are_in_front _ _ _ = false

-- a row in its place among rows that are in order: behind those that are in front of it, and in front of its equals
abbrev pub put_in_order : (falls : List Bool) → ℕ × List ℤ → List (ℕ × List ℤ) → List (ℕ × List ℤ)
put_in_order falls row [] = row ∷ []
put_in_order falls row (other ∷ others) =
    if are_in_front falls other.1 row.1 then other ∷ put_in_order falls row others else row ∷ other ∷ others

-- the rows in order, those that are equal as they stood
abbrev pub in_order : (falls : List Bool) → List (ℕ × List ℤ) → List (ℕ × List ℤ)
in_order falls [] = []
in_order falls (row ∷ rows) = put_in_order falls row (in_order falls rows)

-- traces a to b, each by its position, in the order of their numbers at these places; nothing where one of them lacks a place
abbrev pub order_of : Volume → List Place → (falls : List Bool) → ℕ → ℕ → Option (List ℕ)
order_of v places falls a b = option_map (λ rows. map (λ row. row.0) (in_order falls rows)) (table_of v places a b)

-- the file's bytes with these traces in the place of traces a to b
abbrev pub with_traces_as : Volume → ℕ → ℕ → List ℕ → List ℕ
with_traces_as v a b order = splice (bytes_of v) (trace_start v a) (trace_start v (b + 1) - trace_start v a) (concat (map (trace_at v) order))

-- the file's bytes with traces a to b in the order of their numbers at these places, of which each falls or rises
abbrev pub bytes_after_sort : Volume → List Place → (falls : List Bool) → ℕ → ℕ → List ℕ
bytes_after_sort v places falls a b = option_map_or (with_traces_as v a b) (order_of v places falls a b) (bytes_of v)

-- the volume with these traces in the place of traces a to b
abbrev pub with_order : Volume → ℕ → ℕ → List ℕ → Volume
with_order v a b order = record v { traces = take (a - 1) v.traces ++ map (trace_at v) order ++ drop b v.traces }
