use Prim.Native.Nat.{ℕ, ◌*◌, ◌^◌}
use mathlib.Core.Path.{◌≡◌, ap, ◌∙◌}
use native.Mathlib.Omega.{arith}
use Rattle.std.proofs.Common.{length}
use Rattle.float_sum.specs.Worth.{worth}
use Rattle.float_sum.proofs.WordLemmas.{worth_lt, lower, not_lower}
use Rattle.float_sum.proofs.RoundLemmas.{sum_plus, sum_minus}
use Rattle.float_sum.proofs.exact_sum.difference.Goals as goal

pub returns-then-subtract : goal.returns-then-subtract
returns-then-subtract c =
    let a = worth c.args.plus.now in
    let b = worth c.args.minus.now in
    let n = length c.args.plus.now in
    let same : length c.args.minus.now ≡ n = omega arith in
    let first = c.subtract.ensures in
    let second = c.subtract-then-subtract.ensures in
    let l = lower (worth c.subtract.new.out) (worth c.subtract-then-subtract.new.out) a b (2 ^ (32 * n)) (2 ^ (32 * length c.args.minus.now)) c.subtract.result c.subtract-then-subtract.result
    c.if-subtract.true (ap (λ (z : ℕ). 2 ^ (32 * z)) same) (worth_lt _ n first.length first.digits) (worth_lt _ n (second.length ∙ same) second.digits) first.worth second.worth in
    c.rounded.ensures (worth c.subtract-then-subtract.new.out) c.leading_of.ensures.leading.0 c.leading_of.ensures.leading.1
    ∙ sum_minus a b (worth c.subtract-then-subtract.new.out) l.0 l.1

pub returns : goal.returns
returns c =
    let a = worth c.args.plus.now in
    let b = worth c.args.minus.now in
    c.rounded-2.ensures (worth c.subtract.new.out) c.leading_of-2.ensures.leading.0 c.leading_of-2.ensures.leading.1
    ∙ sum_plus a b (worth c.subtract.new.out) (not_lower (worth c.subtract.new.out) a b _ c.subtract.result c.if-subtract.false c.subtract.ensures.worth)
