use Rattle.std.proofs.Common.{refl}
use Rattle.trace_record.specs.Keys.{cell, inline, crossline, offset, coordinate_x, coordinate_y, least, greatest, triple}
use Rattle.range_stats.proofs.totals.Totals.raise.Goals as goal

pub raise_both-requires-clause-room_first : goal.raise_both-requires-clause-room_first
raise_both-requires-clause-room_first c = λ q. c.requires (least q)

pub raise_both-requires-clause-room_second : goal.raise_both-requires-clause-room_second
raise_both-requires-clause-room_second c = λ q. c.requires (greatest q)

pub returns-in_err-raise_both-clause-held : goal.returns-in_err-raise_both-clause-held
returns-in_err-raise_both-clause-held c held =
    let bad = c.in_err-raise_both.ensures.held (λ q. held (least q)) (λ q. held (greatest q)) in
    cc

pub returns-clause-ok : goal.returns-clause-ok
returns-clause-ok c = elim [
  | cell i x ↦ refl
  | inline i ↦ refl
  | crossline x ↦ refl
  | offset o ↦ refl
  | coordinate_x r ↦ refl
  | coordinate_y r ↦ refl
  | least v ↦ c.in_ok-raise_both.ensures.ok_first v
  | greatest v ↦ c.in_ok-raise_both.ensures.ok_second v
  | triple i x o ↦ refl
]
