use Rattle.std.proofs.Common.{arith}
use Rattle.std.proofs.lemmas.Int.{ints}
use Rattle.num_order.proofs.RangeLemmas.{of_unsigned}
use Rattle.num_order.proofs.number.from_unsigned.Goals as goal

pub returns-else-number-half : goal.returns-else-number-half
returns-else-number-half c =
    of_unsigned c.args.size c.args.number _ c.requires (omega (arith, ints, c.half-half.ensures.value, c.from-number.ensures)) (omega (arith, ints, c.half-half.ensures.value, c.from-number.ensures))
