use Rattle.std.proofs.Common.{refl}
use Rattle.trace_record.specs.Keys.{cell, inline, crossline, offset, coordinate_x, coordinate_y, least, greatest, triple}
use Rattle.range_stats.proofs.ranges.Ranges.lower.Goals as goal

pub lower_lines-requires-clause-has_inline : goal.lower_lines-requires-clause-has_inline
lower_lines-requires-clause-has_inline c = λ q. c.requires (inline q)

pub lower_lines-requires-clause-has_crossline : goal.lower_lines-requires-clause-has_crossline
lower_lines-requires-clause-has_crossline c = λ q. c.requires (crossline q)

pub lower_lines-requires-clause-has_offset : goal.lower_lines-requires-clause-has_offset
lower_lines-requires-clause-has_offset c = λ q. c.requires (offset q)

pub lower_both-requires-clause-first : goal.lower_both-requires-clause-first
lower_both-requires-clause-first c = λ q. c.requires (coordinate_x q)

pub lower_both-requires-clause-second : goal.lower_both-requires-clause-second
lower_both-requires-clause-second c = λ q. c.requires (coordinate_y q)

pub returns-clause-less : goal.returns-clause-less
returns-clause-less c = elim [
  | cell i x ↦ refl
  | inline i ↦ c.lower_lines.ensures.inline i
  | crossline x ↦ c.lower_lines.ensures.crossline x
  | offset o ↦ c.lower_lines.ensures.offset o
  | coordinate_x r ↦ c.lower_both.ensures.first r
  | coordinate_y r ↦ c.lower_both.ensures.second r
  | least v ↦ refl
  | greatest v ↦ refl
  | triple i x o ↦ refl
]
