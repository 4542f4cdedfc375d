use Rattle.std.proofs.Common.{arith, ◌+◌, ◌-◌, ap, ◌∙◌, take, drop, ℕ, ◌≡◌, true}
use Rattle.num_order.specs.Number.{unsigned, with_sign}
use Rattle.num_order.proofs.SizeLemmas.{slice-lt, cast_i16, kept_i16}
use Rattle.num_order.proofs.placed.i16_at.Goals as goal

pub overflow_cast-result : goal.overflow_cast-result
overflow_cast-result c =
    cast_i16 c.read.result _ (slice-lt c.args.order c.args.at 2 (c.args.at + 2 - c.args.at) c.args.bytes.now (omega arith) c.requires c.type_inv.bytes) c.read.ensures

pub returns : goal.returns
returns c =
    let size : c.args.at + 2 - c.args.at ≡ 2 = omega arith in
    kept_i16 c.read.result _ (slice-lt c.args.order c.args.at 2 (c.args.at + 2 - c.args.at) c.args.bytes.now (omega arith) c.requires c.type_inv.bytes) c.read.ensures
    ∙ ap (λ (k : ℕ). with_sign true 2 (unsigned c.args.order (take k (drop c.args.at c.args.bytes.now)))) size
