use Rattle.std.proofs.Common.{◌≡◌, ◌∙◌, ap, ap₂, rules, ◌/◌, ℕ, ℤ, subst}
use Rattle.std.specs.Prelude.{unsigned_abs}
use Rattle.std.specs.Int.{IsGcd}
use mir.Syntax.{w64}
use mir.Val.{SFits, to_z, of_z}
use Rattle.std.proofs.lemmas.Int.{to_z-of_z}
use Rattle.key_counts.specs.FractionLaws.{lowest_terms, divisor_positive, quotient_positive, same_value, with_sign, unsigned_abs-with_sign}
use Rattle.key_counts.proofs.ratio.Ratio.reduced.Goals as goal

-- what is stored is the quotient with its sign
stored : (num r : ℤ) (f g a : ℕ) → SFits w64 num → a ≡ unsigned_abs num → r ≡ with_sign (to_z w64 (of_z w64 num)) (a / f) → f ≡ g → SFits w64 r
    → to_z w64 (of_z w64 r) ≡ with_sign num (unsigned_abs num / g)
stored num r f g a fn ea er ef fr =
    to_z-of_z w64 r fr ∙ er ∙ ap₂ (λ z k. with_sign z (k / f)) (to_z-of_z w64 num fn) ea ∙ ap (λ k. with_sign num (unsigned_abs num / k)) ef

pub invariant_of-result : goal.invariant_of-result
invariant_of-result c =
    let fn : SFits w64 c.args.num = search rules in
    let size : c.unsigned_abs-size.result ≡ unsigned_abs c.args.num = c.unsigned_abs-size.ensures.value ∙ ap unsigned_abs (to_z-of_z w64 c.args.num fn) in
    let is_gcd : IsGcd (unsigned_abs c.args.num) c.args.den c.greatest_common_divisor-divisor.result = subst (λ n. IsGcd n c.args.den c.greatest_common_divisor-divisor.result) size c.greatest_common_divisor-divisor.ensures in
    record { positive = c.requires.den; lowest = rw (to_z-of_z w64 c.args.num fn) (subst (λ g. IsGcd (unsigned_abs c.args.num) c.args.den g) c.if-divisor-eq1.true is_gcd) }

pub invariant_of-result-2 : goal.invariant_of-result-2
invariant_of-result-2 c =
    let fn : SFits w64 c.args.num = search rules in
    let fr : SFits w64 c.with_sign_of.result = search rules in
    let size : c.unsigned_abs-size.result ≡ unsigned_abs c.args.num = c.unsigned_abs-size.ensures.value ∙ ap unsigned_abs (to_z-of_z w64 c.args.num fn) in
    let is_gcd : IsGcd (unsigned_abs c.args.num) c.args.den c.greatest_common_divisor-divisor.result = subst (λ n. IsGcd n c.args.den c.greatest_common_divisor-divisor.result) size c.greatest_common_divisor-divisor.ensures in
    let top = stored c.args.num c.with_sign_of.result c.from.result c.greatest_common_divisor-divisor.result c.unsigned_abs-size.result fn size c.with_sign_of.ensures c.from.ensures fr in
    let least = lowest_terms _ _ c.greatest_common_divisor-divisor.result (divisor_positive _ _ c.requires.den is_gcd.1) is_gcd in
    record {
      positive = quotient_positive c.greatest_common_divisor-divisor.result c.args.den c.requires.den is_gcd.1;
      lowest = rw (top, unsigned_abs-with_sign) least;
    }

pub returns-clause-value : goal.returns-clause-value
returns-clause-value c =
    let fn : SFits w64 c.args.num = search rules in
    let fr : SFits w64 c.with_sign_of.result = search rules in
    let size : c.unsigned_abs-size.result ≡ unsigned_abs c.args.num = c.unsigned_abs-size.ensures.value ∙ ap unsigned_abs (to_z-of_z w64 c.args.num fn) in
    let is_gcd : IsGcd (unsigned_abs c.args.num) c.args.den c.greatest_common_divisor-divisor.result = subst (λ n. IsGcd n c.args.den c.greatest_common_divisor-divisor.result) size c.greatest_common_divisor-divisor.ensures in
    let top = stored c.args.num c.with_sign_of.result c.from.result c.greatest_common_divisor-divisor.result c.unsigned_abs-size.result fn size c.with_sign_of.ensures c.from.ensures fr in
    rw top (same_value c.args.num c.args.den c.greatest_common_divisor-divisor.result is_gcd.0 is_gcd.1)
