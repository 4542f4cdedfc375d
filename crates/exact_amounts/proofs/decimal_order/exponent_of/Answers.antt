use Rattle.std.proofs.Common.{arith, refl}
use Rattle.float_text.proofs.DigitLemmas.{digit_byte, one_digit_on, one_digit_up_to}
use Rattle.exact_amounts.proofs.decimal_order.exponent_of.Goals as goal

pub overflow_sub-value : goal.overflow_sub-value
overflow_sub-value c = (digit_byte c.args.digits.now c.loop-at.at c.requires.digits c.loop-at-test.true).from

pub overflow_mul-value : goal.overflow_mul-value
overflow_mul-value c = omega (arith, one_digit_up_to c.args.digits.now c.loop-at.at c.loop-at.value _ _ c.requires.digits c.loop-at-test.true refl c.loop-at.invariant, c.requires.room)

pub overflow_add-value : goal.overflow_add-value
overflow_add-value c = omega (arith, one_digit_up_to c.args.digits.now c.loop-at.at c.loop-at.value _ _ c.requires.digits c.loop-at-test.true refl c.loop-at.invariant, c.requires.room)

pub loop-at-preserved : goal.loop-at-preserved
loop-at-preserved c = one_digit_on c.args.digits.now c.loop-at.at c.loop-at.value _ _ c.requires.digits c.loop-at-test.true refl c.loop-at.invariant
