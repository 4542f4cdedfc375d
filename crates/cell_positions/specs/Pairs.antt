-- Pairs of cells that are neighbours on a line, and how far their positions are from one another.
use Rattle.std.specs.Prelude.{ℤ, ◌+ℤ◌, ◌-ℤ◌, ◌&&◌, List, map, find, filter_map, Option, option_map, option_and_then}
use Rattle.std.specs.Ordering.{int_eq}
use Rattle.position_differences.specs.declared.difference.Position.{Position}
use Rattle.position_differences.specs.declared.difference.Difference.{Difference}
use Rattle.position_differences.specs.Differences.{difference_of}
use Rattle.position_differences.specs.Commonest.{commonest}
use Rattle.cell_positions.specs.declared.cell.Cell.{Cell}
use Rattle.cell_positions.specs.declared.pairs.Pair.{Pair}
use Rattle.cell_positions.specs.Placed.{position_at}

-- the cell at an inline and a crossline, where there is one
abbrev pub cell_at : List Cell → ℤ → ℤ → Option Cell
cell_at cs i c = find (λ d. int_eq d.inline i && int_eq d.crossline c) cs

-- the cell that lies so many inlines and crosslines beyond another
abbrev pub cell_beyond : List Cell → ℤ × ℤ → Cell → Option Cell
cell_beyond cs apart c = cell_at cs (c.inline +ℤ apart.0) (c.crossline +ℤ apart.1)

-- the cell that lies so many in front of another
abbrev pub cell_before : List Cell → ℤ × ℤ → Cell → Option Cell
cell_before cs apart c = cell_at cs (c.inline -ℤ apart.0) (c.crossline -ℤ apart.1)

-- how far the second cell's position lies above the first's; nothing where one of them has none
abbrev pub difference_between : List (Option Position) → Cell → Cell → Option Difference
difference_between ps c d = option_and_then (λ p. option_map (difference_of p) (position_at ps d.trace)) (position_at ps c.trace)

-- a cell with the one that lies so many beyond it, where both have positions
abbrev pub pair_from : List (Option Position) → List Cell → ℤ × ℤ → Cell → Option Pair
pair_from ps cs apart c =
    option_and_then (λ d. option_map (λ v. record { first = c; second = d; difference = v }) (difference_between ps c d)) (cell_beyond cs apart c)

-- all pairs of cells that lie so many apart and have positions
abbrev pub pairs_of : List (Option Position) → List Cell → ℤ × ℤ → List Pair
pairs_of ps cs apart = filter_map (pair_from ps cs apart) cs

-- the commonest of their differences
abbrev pub usual_of : List Pair → Option Difference
usual_of pairs = commonest (map (λ p. p.difference) pairs)

-- the difference of the pair that begins at a cell, where there is one
abbrev pub difference_from : List (Option Position) → List Cell → ℤ × ℤ → Cell → Option Difference
difference_from ps cs apart c = option_map (λ p. p.difference) (pair_from ps cs apart c)

-- that of the pair in front of a pair on its line, which ends where the pair begins
abbrev pub difference_in_front : List (Option Position) → List Cell → ℤ × ℤ → Pair → Option Difference
difference_in_front ps cs apart p = option_and_then (difference_from ps cs apart) (cell_before cs apart p.first)

-- that of the pair behind it, which begins where the pair ends
abbrev pub difference_behind : List (Option Position) → List Cell → ℤ × ℤ → Pair → Option Difference
difference_behind ps cs apart p = difference_from ps cs apart p.second
