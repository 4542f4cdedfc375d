-- The cells of the traces at 0.
use Rattle.std.specs.Prelude.{◌≡◌, ℤ, List, length, slice_get}
use Rattle.trace_groups.specs.Suspects.{has_two}
use Rattle.trace_groups.specs.declared.positions.Origins.{Origins}

-- they are counted, the first is known, and whether another differs from it
pub record AreOf (cells : List (ℤ × ℤ)) (o : Origins) : Type 0 where
  pub traces : o.traces ≡ length cells
  pub first : o.first ≡ slice_get cells 0
  pub two : o.two_cells ≡ has_two cells
