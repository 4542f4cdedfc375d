use Rattle.std.proofs.Common.{arith, refl}
use Rattle.trace_record.specs.Keys.{cell, inline, crossline, offset, coordinate_x, coordinate_y, least, greatest, triple}
use Rattle.range_stats.proofs.ranges.Ranges.raise.Goals as goal

pub raise_lines-requires-clause-room_inline : goal.raise_lines-requires-clause-room_inline
raise_lines-requires-clause-room_inline c = λ q. c.requires (inline q)

pub raise_lines-requires-clause-room_crossline : goal.raise_lines-requires-clause-room_crossline
raise_lines-requires-clause-room_crossline c = λ q. c.requires (crossline q)

pub raise_lines-requires-clause-room_offset : goal.raise_lines-requires-clause-room_offset
raise_lines-requires-clause-room_offset c = λ q. c.requires (offset q)

pub returns-in_err-raise_lines-clause-held : goal.returns-in_err-raise_lines-clause-held
returns-in_err-raise_lines-clause-held c held =
    let bad = c.in_err-raise_lines.ensures.held (λ q. held (inline q)) (λ q. held (crossline q)) (λ q. held (offset q)) in
    cc

pub raise_both-requires-clause-room_first : goal.raise_both-requires-clause-room_first
raise_both-requires-clause-room_first c = λ q. c.requires (coordinate_x q)

pub raise_both-requires-clause-room_second : goal.raise_both-requires-clause-room_second
raise_both-requires-clause-room_second c = λ q. c.requires (coordinate_y q)

pub returns-in-Err-clause-err : goal.returns-in-Err-clause-err
returns-in-Err-clause-err c = elim [
  | cell i x ↦ refl
  | inline i ↦ let more = c.in_ok-raise_lines.ensures.ok_inline i in let less = c.lower_lines.ensures.inline i in omega arith
  | crossline x ↦ let more = c.in_ok-raise_lines.ensures.ok_crossline x in let less = c.lower_lines.ensures.crossline x in omega arith
  | offset o ↦ let more = c.in_ok-raise_lines.ensures.ok_offset o in let less = c.lower_lines.ensures.offset o in omega arith
  | coordinate_x r ↦ c.in-Err.ensures.err_first r
  | coordinate_y r ↦ c.in-Err.ensures.err_second r
  | least v ↦ refl
  | greatest v ↦ refl
  | triple i x o ↦ refl
]

pub returns-in-Err-clause-held : goal.returns-in-Err-clause-held
returns-in-Err-clause-held c held = c.in-Err.ensures.held (λ q. held (coordinate_x q)) (λ q. held (coordinate_y q))

pub returns-clause-ok : goal.returns-clause-ok
returns-clause-ok c = elim [
  | cell i x ↦ refl
  | inline i ↦ c.in_ok-raise_lines.ensures.ok_inline i
  | crossline x ↦ c.in_ok-raise_lines.ensures.ok_crossline x
  | offset o ↦ c.in_ok-raise_lines.ensures.ok_offset o
  | coordinate_x r ↦ c.in_default.ensures.ok_first r
  | coordinate_y r ↦ c.in_default.ensures.ok_second r
  | least v ↦ refl
  | greatest v ↦ refl
  | triple i x o ↦ refl
]
