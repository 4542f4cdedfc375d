use Rattle.std.proofs.Common.{◌*◌, sym, subst, ap₂}
use Rattle.std.specs.Int.{IsGcd}
use Rattle.key_counts.proofs.DivisorLemmas.{with_100}
use Rattle.key_counts.proofs.ratio.divisor_with_100.Goals as goal

pub returns : goal.returns
returns c = subst (λ g. IsGcd 100 c.args.rest g) (sym (ap₂ (λ a b. a * b) c.first_divisor.ensures.divisor c.first_divisor-2.ensures.divisor)) (with_100 c.args.rest c.requires)
