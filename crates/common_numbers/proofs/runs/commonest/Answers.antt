use Rattle.std.specs.Prelude.{◌≡◌, ℤ, List, Some, FitsSigned}
use Rattle.std.proofs.Common.{rules, subst, sym}
use Rattle.std.specs.Int.{w64}
use Rattle.std.proofs.lemmas.Int.{to_z-of_z}
use Rattle.common_numbers.specs.Commonest.{commonest}
use Rattle.common_numbers.proofs.CommonestLemmas.{commonest-nothing, commonest-one}
use Rattle.common_numbers.proofs.runs.commonest.Goals as goal

pub returns-in_default-clause-number : goal.returns-in_default-clause-number
returns-in_default-clause-number c = commonest-nothing c.args.numbers.now c.in_default.ensures.cases

pub returns-then-are_all-clause-number : goal.returns-then-are_all-clause-number
returns-then-are_all-clause-number c =
    let fits : FitsSigned w64 c.in-Some.first.now = search rules in
    rw (to_z-of_z w64 c.in-Some.first.now fits)
    (subst (λ (l : List ℤ). Some c.in-Some.first.now ≡ commonest l) (sym c.in-Some.ensures.cases.0) (commonest-one c.in-Some.first.now c.in-Some.others.now (sym (rw (to_z-of_z w64 c.in-Some.first.now fits) at c.if-are_all.ensures))))
