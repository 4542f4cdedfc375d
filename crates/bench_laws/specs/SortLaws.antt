-- Laws of a sort of traces.
use Rattle.std.specs.Prelude.{◌≡◌, ℕ, ◌-◌, ℤ, Bool, List, length, map, take, drop, filter, All, Some, None, option_map}
use Rattle.std.specs.List.Sorted.{IsPermutation, IsSortedBy, ties}
use Rattle.field_map.specs.declared.place.Place.{Place}
use Rattle.frame_cut.specs.Cuts.{IsCut}
use Rattle.frame_cut.specs.Volume.{bytes_of}
use Rattle.bench_rules.specs.declared.edit.Edit.TheVariants.{Sort}
use Rattle.bench_rules.specs.declared.field.Field.{Field}
use Rattle.bench_rules.specs.ManyTraces.{each_of}
use Rattle.bench_rules.specs.Places.{place_in_trace}
use Rattle.bench_rules.specs.Refused.{first_refusal}
use Rattle.bench_rules.specs.Sorted.{are_in_front, in_order, with_order}
use Rattle.bench_rules.specs.State.{State}
use Rattle.bench_rules.specs.Steps.{IsAfter}
use Rattle.bench_rules.specs.Tables.{table_of}

-- a row in front of another by their numbers, of which each falls or rises
abbrev pub is_row_before : (falls : List Bool) → ℕ × List ℤ → ℕ × List ℤ → Bool
is_row_before falls row other = are_in_front falls row.1 other.1

-- rows in order are the same rows, none of them is in front of the one before it, and those that tie with a row stand as they stood
abbrev pub RowsStandInOrder : Type 0
RowsStandInOrder = (falls : List Bool) (rows : List (ℕ × List ℤ)) (width : ℕ) → All (λ row. length row.1 ≡ width) rows
    → IsPermutation rows (in_order falls rows)
    × IsSortedBy (is_row_before falls) (in_order falls rows)
    × ((row : ℕ × List ℤ) → length row.1 ≡ width → filter (ties (is_row_before falls) row) (in_order falls rows) ≡ filter (ties (is_row_before falls) row) rows)

-- a sort that is done changes nothing but the order of the traces of its range: they stand as the rows of their table stand in order
abbrev pub SortPutsRowsInOrder : Type 0
SortPutsRowsInOrder = (s new : State) (a b : ℕ) (names : List Field) (falls : List Bool) (places : List Place) (rows : List (ℕ × List ℤ))
    → IsCut (bytes_of s.volume) s.reading s.limits s.volume → first_refusal s (Sort a b names falls) ≡ None → IsAfter s (Sort a b names falls) new
    → each_of (place_in_trace s.fields) names ≡ Some places → table_of s.volume places a b ≡ Some rows
    → new.volume ≡ with_order s.volume a b (map (λ row. row.0) (in_order falls rows))

-- a sort that is done leaves the same traces, and those before and behind its range where they stood
abbrev pub SortKeepsTraces : Type 0
SortKeepsTraces = (s new : State) (a b : ℕ) (names : List Field) (falls : List Bool)
    → IsCut (bytes_of s.volume) s.reading s.limits s.volume → first_refusal s (Sort a b names falls) ≡ None → IsAfter s (Sort a b names falls) new
    → IsPermutation s.volume.traces new.volume.traces
    × (take (a - 1) new.volume.traces ≡ take (a - 1) s.volume.traces)
    × (drop b new.volume.traces ≡ drop b s.volume.traces)

-- a table of the fields that is asked behind a sort has the numbers of the one before it, in order
abbrev pub SortedTableIsInOrder : Type 0
SortedTableIsInOrder = (s new : State) (a b : ℕ) (names : List Field) (falls : List Bool) (places : List Place) (rows : List (ℕ × List ℤ))
    → IsCut (bytes_of s.volume) s.reading s.limits s.volume → first_refusal s (Sort a b names falls) ≡ None → IsAfter s (Sort a b names falls) new
    → each_of (place_in_trace s.fields) names ≡ Some places → table_of s.volume places a b ≡ Some rows
    → option_map (map (λ row. row.1)) (table_of new.volume places a b) ≡ Some (map (λ row. row.1) (in_order falls rows))
