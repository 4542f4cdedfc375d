use Rattle.std.proofs.Common.{rules}
use mir.Syntax.{w64}
use mir.Val.{SFits}
use Rattle.std.proofs.lemmas.Int.{to_z-of_z}
use Rattle.position_differences.proofs.FractionLemmas.{even_value, over-only}
use Rattle.position_differences.proofs.fractions.above_even.Goals as goal

pub returns : goal.returns
returns c =
    let from = c.args.from in
    let to = c.args.to in
    let num = c.minus.result in
    let fn : SFits w64 num = search rules in
    let fo : SFits w64 to.num = search rules in
    let fp : SFits w64 from.num = search rules in
    over-only _ _ _ c.lowest.result
    (even_value c.lowest.result.num to.num from.num c.lowest.result.den to.den from.den c.requires.even
    (rw (to_z-of_z w64 num fn, c.minus.ensures.value, to_z-of_z w64 to.num fo, to_z-of_z w64 from.num fp) at c.lowest.ensures))
