-- Cells that stand at one position.
use Rattle.std.specs.Prelude.{ℕ, ◌&&◌, Bool, List, [], ◌∷◌, length, take, filter_map, Option, Some, None, option_map, if◌then◌else◌}
use Rattle.std.specs.Ordering.{nat_cmp, is_eq, ordering_then}
use Rattle.std.specs.declared.cmp.Ordering.{Ordering}
use Rattle.key_counts.specs.RatioOrder.{ratio_cmp}
use Rattle.trace_record.specs.Facts.{Facts}
use Rattle.position_differences.specs.declared.difference.Position.{Position}
use Rattle.cell_positions.specs.declared.cell.Cell.{Cell}
use Rattle.cell_positions.specs.declared.shared.PlacedCell.{PlacedCell}
use Rattle.cell_positions.specs.declared.shared.SharedPositions.{SharedPositions}
use Rattle.cell_positions.specs.declared.trace_pair.TracePair.{TracePair}
use Rattle.cell_positions.specs.declared.trace_pair.TheConstants.{MOST_PAIRS}
use Rattle.cell_positions.specs.InOrder.{in_order}
use Rattle.cell_positions.specs.Cells.{cells_of}
use Rattle.cell_positions.specs.Placed.{position_at, positions_of}
use Rattle.cell_positions.specs.Jumps.{trace_pair_cmp}

-- a cell by its first trace and where that stands, where it has a position
abbrev pub placed_cell : List (Option Position) → Cell → Option PlacedCell
placed_cell ps c = option_map (λ p. record { x = p.x; y = p.y; trace = c.trace }) (position_at ps c.trace)

-- the cells that have positions
abbrev pub placed_cells : List (Option Position) → List Cell → List PlacedCell
placed_cells ps cs = filter_map (placed_cell ps) cs

-- which of two is less: by x, by y, by first trace
abbrev pub placed_cmp : PlacedCell → PlacedCell → Ordering
placed_cmp a b = ordering_then (ratio_cmp a.x b.x) (ordering_then (ratio_cmp a.y b.y) (nat_cmp a.trace b.trace))

-- both stand at one position
abbrev pub at_one_position : PlacedCell → PlacedCell → Bool
at_one_position a b = is_eq (ratio_cmp a.x b.x) && is_eq (ratio_cmp a.y b.y)

-- of cells in order, behind the first one at a position: each that stands where an earlier one does, with the first one there
abbrev pub sharing_behind : PlacedCell → List PlacedCell → List TracePair
sharing_behind a [] = []
sharing_behind a (b ∷ bs) = if at_one_position a b then record { later = b.trace; earlier = a.trace } ∷ sharing_behind a bs else sharing_behind b bs

-- of cells in order each that stands where an earlier one does, with the first one there
abbrev pub sharing : List PlacedCell → List TracePair
sharing [] = []
sharing (a ∷ bs) = sharing_behind a bs

-- the first traces of the cells that stand where a cell before them does, in order, each with that of the first cell there
abbrev pub shared_pairs : List (Option Position) → List Cell → List TracePair
shared_pairs ps cs = in_order trace_pair_cmp (sharing (in_order placed_cmp (placed_cells ps cs)))

-- what is told of shared positions: how many cells stand where a cell before them does, and the first ten of those
pub record SharedTold : Type 0 where
  pub cells : ℕ
  pub first_cells : List TracePair

-- what is told of these cells; nothing of none
abbrev pub shared_told : List TracePair → Option SharedTold
shared_told [] = None
shared_told (p ∷ ps) = Some (record { cells = length (p ∷ ps); first_cells = take MOST_PAIRS (p ∷ ps) })

-- the shared positions of the cells of these traces; nothing in a file of shots
abbrev pub shared_of : Bool → List Facts → Option SharedTold
shared_of shots fs = if shots then None else shared_told (shared_pairs (positions_of fs) (cells_of fs))

-- what an answer tells
abbrev pub told_shared : SharedPositions → SharedTold
told_shared s = record { cells = s.cells; first_cells = s.first_cells.items }
