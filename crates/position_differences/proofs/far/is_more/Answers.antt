use Rattle.std.specs.Prelude.{◌≡◌, ◌*◌, ◌/◌, nat_lt, unsigned_abs}
use Rattle.std.proofs.Common.{rules, ap, ap₂, ◌∙◌}
use mir.Syntax.{w64}
use mir.Val.{SFits}
use Rattle.std.proofs.lemmas.Int.{to_z-of_z}
use Rattle.position_differences.proofs.FractionLemmas.{quotient_less}
use Rattle.position_differences.proofs.far.is_more.Goals as goal

pub returns : goal.returns
returns c =
    let third = c.args.third in
    let fits : SFits w64 third.num = search rules in
    let amount : c.from-3.result ≡ unsigned_abs third.num = c.from-3.ensures ∙ c.unsigned_abs.ensures.value ∙ ap unsigned_abs (to_z-of_z w64 third.num fits) in
    let most : c.from-3.result * (c.from.result * c.from-2.result) ≡ unsigned_abs third.num * (c.args.one.den * c.args.other.den)
    = ap₂ (λ u v. u * v) amount (ap₂ (λ u v. u * v) c.from.ensures c.from-2.ensures) in
    ap (λ n. nat_lt n (2 * c.args.distance)) (ap₂ (λ u v. u / v) most c.from-4.ensures)
    ∙ quotient_less _ third.den _ third.positive
