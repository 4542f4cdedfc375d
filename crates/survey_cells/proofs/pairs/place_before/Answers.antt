use Rattle.std.proofs.Common.{rules, ap₂}
use mir.Syntax.{w32, w64}
use mir.Val.{SFits}
use Rattle.survey_cells.proofs.NumberLemmas.{rest_is}
use Rattle.survey_cells.proofs.pairs.place_before.Goals as goal

pub returns : goal.returns
returns c =
    let inline : SFits w32 c.args.cell.now.inline = search rules in
    let crossline : SFits w32 c.args.cell.now.crossline = search rules in
    let first : SFits w64 c.args.apart.0 = search rules in
    let second : SFits w64 c.args.apart.1 = search rules in
    ap₂ (λ u v. (u, v))
    (rest_is c.args.cell.now.inline c.args.apart.0 c.from.result c.from-2.result inline first c.from.ensures c.from-2.ensures)
    (rest_is c.args.cell.now.crossline c.args.apart.1 c.from-3.result c.from-4.result crossline second c.from-3.ensures c.from-4.ensures)
