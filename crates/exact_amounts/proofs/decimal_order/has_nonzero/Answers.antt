use Rattle.std.proofs.Common.{◌<◌, sym, arith, lt-ltb, get_or}
use Rattle.std.specs.Char.{digit_value}
use Rattle.fast_float.proofs.Rows.{rest_some}
use Rattle.float_text.proofs.DigitLemmas.{digit_byte, zero_more}
use Rattle.exact_amounts.proofs.decimal_order.has_nonzero.Goals as goal

pub returns-then-digits-at-ne48 : goal.returns-then-digits-at-ne48
returns-then-digits-at-ne48 c =
    let b = digit_byte c.args.digits.now c.loop-at.at c.requires c.loop-at-test.true in
    let some : 0 < digit_value (get_or c.args.digits.now c.loop-at.at 0) = omega (arith, b.from, b.value, c.if-digits-at-ne48.true) in
    sym (lt-ltb 0 _ (rest_some c.args.digits.now 0 c.loop-at.at (omega arith) c.loop-at-test.true some))

pub loop-at-preserved : goal.loop-at-preserved
loop-at-preserved c = zero_more c.args.digits.now c.loop-at.at c.requires c.loop-at-test.true c.if-digits-at-ne48.false c.loop-at.invariant
