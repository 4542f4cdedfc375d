use Rattle.std.proofs.Common.{refl}
use Rattle.trace_record.specs.Keys.{cell, inline, crossline, offset, coordinate_x, coordinate_y, least, greatest, triple}
use Rattle.fault_live.proofs.faults.Faults.lower.Goals as goal

pub lower_any-requires : goal.lower_any-requires
lower_any-requires c = λ q. c.requires (triple q.0 q.1 q.2)

pub returns-clause-less : goal.returns-clause-less
returns-clause-less c = elim [
  | cell i x ↦ refl
  | inline i ↦ refl
  | crossline x ↦ refl
  | offset o ↦ refl
  | coordinate_x r ↦ refl
  | coordinate_y r ↦ refl
  | least v ↦ refl
  | greatest v ↦ refl
  | triple i x o ↦ c.lower_any.ensures (i, x, o)
]
