use Rattle.std.proofs.Common.{refl}
use Rattle.trace_record.specs.Keys.{cell, inline, crossline, offset, coordinate_x, coordinate_y, least, greatest, triple}
use Rattle.grid_live.proofs.FittingLemmas.{CellsFit-less}
use Rattle.grid_live.proofs.grid.Grid.lower.Goals as goal

pub lower_any-requires : goal.lower_any-requires
lower_any-requires c = λ q. c.requires (cell q.0 q.1)

pub lower_both-requires-clause-first : goal.lower_both-requires-clause-first
lower_both-requires-clause-first c = λ q. c.requires (inline q)

pub lower_both-requires-clause-second : goal.lower_both-requires-clause-second
lower_both-requires-clause-second c = λ q. c.requires (crossline q)

pub invariant_of-self : goal.invariant_of-self
invariant_of-self c = record { fitting = CellsFit-less c.args.self.now.cells c.lower_any.new.counter c.args.keys.now.cell c.args.self.now.fitting c.lower_any.ensures }

pub returns-clause-less : goal.returns-clause-less
returns-clause-less c = elim [
  | cell i x ↦ c.lower_any.ensures (i, x)
  | inline i ↦ c.lower_both.ensures.first i
  | crossline x ↦ c.lower_both.ensures.second x
  | offset o ↦ refl
  | coordinate_x r ↦ refl
  | coordinate_y r ↦ refl
  | least v ↦ refl
  | greatest v ↦ refl
  | triple i x o ↦ refl
]
