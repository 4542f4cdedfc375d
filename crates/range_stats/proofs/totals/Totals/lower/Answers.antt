use Rattle.std.proofs.Common.{refl}
use Rattle.trace_record.specs.Keys.{cell, inline, crossline, offset, coordinate_x, coordinate_y, least, greatest, triple}
use Rattle.range_stats.proofs.totals.Totals.lower.Goals as goal

pub lower_both-requires-clause-first : goal.lower_both-requires-clause-first
lower_both-requires-clause-first c = λ q. c.requires (least q)

pub lower_both-requires-clause-second : goal.lower_both-requires-clause-second
lower_both-requires-clause-second c = λ q. c.requires (greatest q)

pub returns-clause-less : goal.returns-clause-less
returns-clause-less c = elim [
  | cell i x ↦ refl
  | inline i ↦ refl
  | crossline x ↦ refl
  | offset o ↦ refl
  | coordinate_x r ↦ refl
  | coordinate_y r ↦ refl
  | least v ↦ c.lower_both.ensures.first v
  | greatest v ↦ c.lower_both.ensures.second v
  | triple i x o ↦ refl
]
