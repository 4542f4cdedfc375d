use Rattle.std.proofs.Common.{rules}
use mir.Syntax.{w32, w64}
use mir.Val.{SFits}
use Rattle.survey_cells.proofs.NumberLemmas.{gap_is}
use Rattle.survey_cells.proofs.pairs.lies_above.Goals as goal

pub returns : goal.returns
returns c =
    let number : SFits w32 c.args.number = search rules in
    let other : SFits w32 c.args.other = search rules in
    let distance : SFits w64 c.args.distance = search rules in
    gap_is c.args.number c.args.other c.args.distance number other distance c.from.result c.from-2.result c.from.ensures c.from-2.ensures
