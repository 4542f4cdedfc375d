use Rattle.std.proofs.Common.{◌∙◌, ap₂, ◌<◌, ◌^◌, rules, int_cmp}
use mir.Syntax.{w64}
use mir.Val.{SFits}
use Rattle.key_counts.proofs.ProductLemmas.{product_is}
use Rattle.key_counts.proofs.ratio.RatioOrd.cmp.Goals as goal

pub returns : goal.returns
returns c =
    let fn : SFits w64 c.args.self.now.num = search rules in
    let fm : SFits w64 c.args.other.now.num = search rules in
    let fd : c.args.self.now.den < 2 ^ 32 = search rules in
    let fe : c.args.other.now.den < 2 ^ 32 = search rules in
    c.cmp.ensures ∙ ap₂ int_cmp
    (product_is c.args.self.now.num c.args.other.now.den _ _ fn fe c.from.ensures c.from-2.ensures)
    (product_is c.args.other.now.num c.args.self.now.den _ _ fm fd c.from-3.ensures c.from-4.ensures)
