use Rattle.std.proofs.Common.{arith, refl}
use Rattle.trace_record.specs.Keys.{cell, inline, crossline, offset, coordinate_x, coordinate_y, least, greatest, triple}
use Rattle.grid_live.proofs.FittingLemmas.{CellsFit-more, CellsFit-same}
use Rattle.grid_live.proofs.grid.Grid.raise.Goals as goal

pub raise_both-requires-clause-room_first : goal.raise_both-requires-clause-room_first
raise_both-requires-clause-room_first c = λ q. c.requires (inline q)

pub raise_both-requires-clause-room_second : goal.raise_both-requires-clause-room_second
raise_both-requires-clause-room_second c = λ q. c.requires (crossline q)

pub returns-in_err-raise_both-clause-held : goal.returns-in_err-raise_both-clause-held
returns-in_err-raise_both-clause-held c held =
    let bad = c.in_err-raise_both.ensures.held (λ q. held (inline q)) (λ q. held (crossline q)) in
    cc

pub raise_any-requires : goal.raise_any-requires
raise_any-requires c = λ q. c.requires (cell q.0 q.1)

pub invariant_of-self-in-Err : goal.invariant_of-self-in-Err
invariant_of-self-in-Err c = record { fitting = CellsFit-same c.args.self.now.cells c.raise_any.new.counter c.args.self.now.fitting c.in-Err.ensures.err }

pub returns-in-Err-clause-err : goal.returns-in-Err-clause-err
returns-in-Err-clause-err c = elim [
  | cell i x ↦ c.in-Err.ensures.err (i, x)
  | inline i ↦ let more = c.in_ok-raise_both.ensures.ok_first i in let less = c.lower_both.ensures.first i in omega arith
  | crossline x ↦ let more = c.in_ok-raise_both.ensures.ok_second x in let less = c.lower_both.ensures.second x in omega arith
  | offset o ↦ refl
  | coordinate_x r ↦ refl
  | coordinate_y r ↦ refl
  | least v ↦ refl
  | greatest v ↦ refl
  | triple i x o ↦ refl
]

pub returns-in-Err-clause-held : goal.returns-in-Err-clause-held
returns-in-Err-clause-held c held = c.in-Err.ensures.held (λ q. held (cell q.0 q.1))

pub invariant_of-self-in_default : goal.invariant_of-self-in_default
invariant_of-self-in_default c =
    record { fitting = CellsFit-more c.args.self.now.cells c.raise_any.new.counter c.args.keys.now.cell c.args.keys.now.fits c.args.self.now.fitting c.in_default.ensures.ok }

pub returns-clause-ok : goal.returns-clause-ok
returns-clause-ok c = elim [
  | cell i x ↦ c.in_default.ensures.ok (i, x)
  | inline i ↦ c.in_ok-raise_both.ensures.ok_first i
  | crossline x ↦ c.in_ok-raise_both.ensures.ok_second x
  | offset o ↦ refl
  | coordinate_x r ↦ refl
  | coordinate_y r ↦ refl
  | least v ↦ refl
  | greatest v ↦ refl
  | triple i x o ↦ refl
]
