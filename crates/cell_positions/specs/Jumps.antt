-- Jumps of positions between neighbouring cells.
use Rattle.std.specs.Prelude.{ℕ, ℤ, ◌+◌, Bool, List, [], ◌∷◌, ◌++◌, length, map, take, filter, min, max, Option, Some, None, option_and_then, if◌then◌else◌}
use Rattle.std.specs.Option.{option_map_or}
use Rattle.std.specs.Ordering.{nat_cmp, ordering_then}
use Rattle.std.specs.declared.cmp.Ordering.{Ordering}
use Rattle.trace_record.specs.Facts.{Facts}
use Rattle.position_differences.specs.declared.difference.Position.{Position}
use Rattle.position_differences.specs.declared.difference.Difference.{Difference}
use Rattle.position_differences.specs.Differences.{is_jump}
use Rattle.cell_positions.specs.declared.cell.Cell.{Cell}
use Rattle.cell_positions.specs.declared.pairs.Pair.{Pair}
use Rattle.cell_positions.specs.declared.trace_pair.TracePair.{TracePair}
use Rattle.cell_positions.specs.declared.trace_pair.TheConstants.{MOST_PAIRS}
use Rattle.cell_positions.specs.declared.jumps.Jumps.{Jumps}
use Rattle.cell_positions.specs.InOrder.{in_order}
use Rattle.cell_positions.specs.Cells.{cells_of}
use Rattle.cell_positions.specs.Placed.{positions_of}
use Rattle.cell_positions.specs.Pairs.{pairs_of, usual_of, difference_in_front, difference_behind}
use Rattle.cell_positions.specs.Steps.{inlines_apart, crosslines_apart, inline_span_of, crossline_span_of}

-- which of two pairs of traces is less: by the later trace, then by the earlier
abbrev pub trace_pair_cmp : TracePair → TracePair → Ordering
trace_pair_cmp a b = ordering_then (nat_cmp a.later b.later) (nat_cmp a.earlier b.earlier)

-- the first traces of the two cells
abbrev pub traces_of : Pair → TracePair
traces_of p = record { later = max p.first.trace p.second.trace; earlier = min p.first.trace p.second.trace }

-- a pair of cells that lie so many apart jumps where u is the usual difference of such pairs
abbrev pub jumps_beside : List (Option Position) → List Cell → ℤ × ℤ → Difference → Pair → Bool
jumps_beside ps cs apart u p = is_jump u (difference_in_front ps cs apart p) p.difference (difference_behind ps cs apart p)

-- the pairs of cells that lie so many apart: how many there are, and the first traces of those that jump where u is the usual difference
abbrev pub jumps_at : List (Option Position) → List Cell → ℤ × ℤ → Difference → ℕ × List TracePair
jumps_at ps cs apart u = (length (pairs_of ps cs apart), map traces_of (filter (jumps_beside ps cs apart u) (pairs_of ps cs apart)))

-- the same where the usual difference is the commonest; without a step, or a pair, nothing
abbrev pub jumps_along : List (Option Position) → List Cell → Option (ℤ × ℤ) → ℕ × List TracePair
jumps_along ps cs step = option_map_or (λ apart. option_map_or (jumps_at ps cs apart) (usual_of (pairs_of ps cs apart)) (0, [])) step (0, [])

-- what is told of jumps: how many pairs there are, how many of them jump, and the first ten of those
pub record JumpsTold : Type 0 where
  pub pairs : ℕ
  pub jumps : ℕ
  pub first_jumps : List TracePair

-- what is told of so many pairs of which these jump; nothing where none does
abbrev pub told_of : ℕ → List TracePair → Option JumpsTold
told_of n [] = None
told_of n (j ∷ js) = Some (record { pairs = n; jumps = length (j ∷ js); first_jumps = take MOST_PAIRS (j ∷ js) })

-- .. of those of both kinds, in order
abbrev pub told_of_both : ℕ × List TracePair → ℕ × List TracePair → Option JumpsTold
told_of_both a b = told_of (a.0 + b.0) (in_order trace_pair_cmp (a.1 ++ b.1))

-- the step from a crossline to the next; in a file of shots it does not count
abbrev pub crossline_step : Bool → List Facts → Option (ℤ × ℤ)
crossline_step shots fs = if shots then None else option_and_then crosslines_apart (crossline_span_of fs)

-- the jumps of these traces: of the pairs of neighbouring inlines and, but in a file of shots, of those of neighbouring crosslines
abbrev pub jumps_of : Bool → List Facts → Option JumpsTold
jumps_of shots fs =
    told_of_both
    (jumps_along (positions_of fs) (cells_of fs) (option_and_then inlines_apart (inline_span_of fs)))
    (jumps_along (positions_of fs) (cells_of fs) (crossline_step shots fs))

-- what an answer tells
abbrev pub told : Jumps → JumpsTold
told j = record { pairs = j.pairs; jumps = j.jumps; first_jumps = j.first_jumps.items }
