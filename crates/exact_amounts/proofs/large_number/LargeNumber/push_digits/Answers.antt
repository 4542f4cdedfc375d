use Rattle.std.proofs.Common.{arith, refl}
use Rattle.float_text.proofs.DigitLemmas.{digit_byte, one_digit_on, one_digit_up_to}
use Rattle.exact_amounts.proofs.large_number.LargeNumber.push_digits.Goals as goal

pub overflow_sub-digits : goal.overflow_sub-digits
overflow_sub-digits c = (digit_byte c.args.digits.now c.loop-at.at c.requires.digits c.loop-at-test.true).from

pub multiply_add-requires : goal.multiply_add-requires
multiply_add-requires c = omega (arith, one_digit_up_to c.args.digits.now c.loop-at.at c.loop-at.self _ _ c.requires.digits c.loop-at-test.true refl c.loop-at.invariant, c.requires.room)

pub loop-at-preserved : goal.loop-at-preserved
loop-at-preserved c = rw c.multiply_add.ensures (one_digit_on c.args.digits.now c.loop-at.at c.loop-at.self _ _ c.requires.digits c.loop-at-test.true refl c.loop-at.invariant)
