-- All named numbers of the headers of a trace, and the extremes of each over many traces. Traces are counted from 1.
use Rattle.std.specs.Prelude.{ℕ, ℤ, pos, Bool, not, List, [], ◌∷◌, ◌++◌, map, filter_map, unwrap_or, Option, Some, None, option_map, if◌then◌else◌}
use Rattle.std.specs.List.{list_any}
use Rattle.std.specs.Ordering.{int_eq}
use Rattle.field_map.specs.declared.place.Place.{Place}
use Rattle.field_map.specs.Pairs.{Pairs, place_of}
use Rattle.field_map.specs.HeaderNames.{header_names}
use Rattle.frame_cut.specs.declared.file_head.Head.{Head}
use Rattle.frame_cut.specs.Traces.{trace_at}
use Rattle.frame_cut.specs.Volume.{Volume}
use Rattle.trace_view.specs.Values.{value_of}
use Rattle.trace_record.specs.Statistics.{least_of, greatest_of}
use Rattle.bench_rules.specs.declared.extremes.Extremes.{Extremes}
use Rattle.bench_rules.specs.ManyTraces.{positions}

-- a name of the trace header with its place: the one that it is bound to, where it is, else the standard's
abbrev pub meant : Pairs → List ℕ × Place → List ℕ × Place
meant fields e = (e.0, unwrap_or (place_of fields e.0) e.1)

-- the names of the standard's trace header, in the order of bytes
unfoldable pub header_places : Pairs → Pairs
header_places fields = map (meant fields) header_names

-- these, then the bound names in the map's order
unfoldable pub named_places : Pairs → Pairs
named_places fields = header_places fields ++ fields

-- a name with what there is for it
abbrev pub with_name : {X : Type 0} → List ℕ → Option X → Option (List ℕ × X)
with_name name x = option_map (λ y. (name, y)) x

-- each name whose place the trace has, with the number there
abbrev pub header_of : Head → Pairs → List ℕ → List (List ℕ × ℤ)
header_of h names t = filter_map (λ e. with_name e.0 (value_of h t e.1)) names

-- the numbers at the place of those of traces a to b that have it, in order
abbrev pub numbers_at : Volume → Place → ℕ → ℕ → List ℤ
numbers_at v place a b = filter_map (λ p. value_of v.head (trace_at v p) place) (positions a b)

-- the last of these, which begin with x
abbrev pub last_from : ℤ → List ℤ → ℤ
last_from x [] = x
last_from x (y ∷ ys) = last_from y ys

-- the least, the greatest, the first and the last of the numbers, where there are any
abbrev pub extremes_of : List ℤ → Option Extremes
extremes_of [] = None
extremes_of (x ∷ xs) = Some (record { least = least_of (x ∷ xs); greatest = greatest_of (x ∷ xs); first = x; last = last_from x xs })

-- one of the numbers is not 0
abbrev pub some_number : List ℤ → Bool
some_number xs = list_any (λ x. not (int_eq x (pos 0))) xs

-- the extremes of numbers that are not all 0
abbrev pub extremes_unless_zero : List ℤ → Option Extremes
extremes_unless_zero xs = if some_number xs then extremes_of xs else None

-- each name whose numbers in traces a to b are not all 0, with their extremes
abbrev pub extremes_in : Volume → Pairs → ℕ → ℕ → List (List ℕ × Extremes)
extremes_in v names a b = filter_map (λ e. with_name e.0 (extremes_unless_zero (numbers_at v e.1 a b))) names
