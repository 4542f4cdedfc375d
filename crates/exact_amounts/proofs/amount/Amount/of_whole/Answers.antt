use Rattle.std.proofs.Common.{◌∙◌, sym, ap, subst}
use Rattle.std.specs.Int.{w128}
use Rattle.std.proofs.lemmas.Int.{to_z-of_z}
use Rattle.exact_amounts.specs.Numbers.{whole}
use Rattle.exact_amounts.specs.Places.{place_of, IsPlaceOf}
use Rattle.exact_amounts.proofs.PlaceLemmas.{whole_exact}
use Rattle.exact_amounts.proofs.amount.Amount.of_whole.Goals as goal

pub returns-clause-exact : goal.returns-clause-exact
returns-clause-exact c =
    let back = to_z-of_z w128 c.args.number c.ranges.number in
    subst (λ a. IsPlaceOf a (whole c.args.number)) (sym (c.whole_place.ensures ∙ ap (λ x. place_of (whole x)) back)) (whole_exact c.args.number)
