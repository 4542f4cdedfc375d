use Rattle.std.proofs.Common.{arith}
use Rattle.float_text.proofs.LimbLemmas.{no_value}
use Rattle.exact_amounts.proofs.RoomLemmas.{word_fits}
use Rattle.exact_amounts.proofs.large_number.LargeNumber.new.Goals as goal

pub multiply_add-requires : goal.multiply_add-requires
multiply_add-requires c = omega (arith, word_fits c.args.number c.ranges.number.fits, no_value 72 72)

pub returns : goal.returns
returns c = omega (arith, no_value 72 72)
