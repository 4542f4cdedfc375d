use Rattle.std.proofs.Common.{◌-◌, ◌∙◌, ap₂}
use Rattle.grid_live.proofs.FittingLemmas.{CellFits-beside}
use Rattle.grid_live.proofs.OwnKeyLemmas.{among-beside}
use Rattle.grid_live.proofs.keys.Keys.beside.Goals as goal

pub invariant_of-result : goal.invariant_of-result
invariant_of-result c = record { fits = CellFits-beside c.of-own.result.cell c.of-others.result.cell c.beside.result c.of-own.result.fits c.beside.ensures }

pub returns : goal.returns
returns c = λ k.
    among-beside (record { cell = c.beside.result; inline = c.beside-2.result; crossline = c.beside-3.result; fits = CellFits-beside c.of-own.result.cell c.of-others.result.cell c.beside.result c.of-own.result.fits c.beside.ensures }) c.of-own.result c.of-others.result c.beside.ensures c.beside-2.ensures c.beside-3.ensures k
    ∙ ap₂ (λ m n. m - n) (c.of-own.ensures k) (c.of-others.ensures k)
