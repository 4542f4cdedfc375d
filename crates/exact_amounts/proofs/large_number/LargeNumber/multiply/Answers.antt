use Rattle.std.proofs.Common.{arith}
use Rattle.float_text.proofs.LimbLemmas.{power_step}
use Rattle.exact_amounts.proofs.large_number.LargeNumber.multiply.Goals as goal

pub multiply_add-requires : goal.multiply_add-requires
multiply_add-requires c = omega (arith, power_step c.args.by c.loop-left.self c.loop-left.left (omega arith) (omega arith))

pub loop-left-preserved : goal.loop-left-preserved
loop-left-preserved c = rw c.multiply_add.ensures (omega (arith, power_step c.args.by c.loop-left.self c.loop-left.left (omega arith) (omega arith)))
