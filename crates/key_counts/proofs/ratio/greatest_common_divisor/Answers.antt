use Rattle.std.proofs.Common.{subst, sym}
use Rattle.std.specs.Int.{IsGcd}
use native.Mathlib.Nat.{one-dvd}
use Rattle.std.proofs.lemmas.Nat.Gcd.{IsGcd-from_mod}
use Rattle.key_counts.proofs.ratio.greatest_common_divisor.Goals as goal

pub returns-in-1 : goal.returns-in-1
returns-in-1 c = (one-dvd c.args.a, one-dvd c.args.b, λ d of_a of_b. rw c.in-1.is at of_b)

pub returns-in-10 : goal.returns-in-10
returns-in-10 c = subst (λ b. IsGcd c.args.a b c.divisor_with_10.result) (sym c.in-10.is) (IsGcd-from_mod c.args.a 10 _ c.divisor_with_10.ensures)

pub returns-in-100 : goal.returns-in-100
returns-in-100 c = subst (λ b. IsGcd c.args.a b c.divisor_with_100.result) (sym c.in-100.is) (IsGcd-from_mod c.args.a 100 _ c.divisor_with_100.ensures)

pub returns-in-1000 : goal.returns-in-1000
returns-in-1000 c = subst (λ b. IsGcd c.args.a b c.divisor_with_1000.result) (sym c.in-1000.is) (IsGcd-from_mod c.args.a 1000 _ c.divisor_with_1000.ensures)
