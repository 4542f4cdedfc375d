use Rattle.std.proofs.Common.{◌-◌, length, take, arith, mul-le-mul_left}
use Rattle.std.specs.Str.Parse.{digits_value}
use Rattle.fast_float.proofs.ExactLemmas.{ten_to_pos}
use Rattle.fast_float.proofs.Rows.{AllDigits-take}
use Rattle.float_text.proofs.DigitLemmas.{taken_past}
use Rattle.exact_amounts.proofs.decimal_order.digits_up_to.Goals as goal

pub push_digits-requires-clause-digits : goal.push_digits-requires-clause-digits
push_digits-requires-clause-digits c = AllDigits-take c.args.kept c.args.whole.now c.requires.digits.0

pub push_digits-requires-else-kept-whole-clause-room : goal.push_digits-requires-else-kept-whole-clause-room
push_digits-requires-else-kept-whole-clause-room c =
    let w = c.args.whole.now in
    let rest = take (c.args.kept - length w) c.args.fraction.now in
    let all = taken_past w c.args.fraction.now c.args.kept (omega arith) in
    let most = mul-le-mul_left (digits_value 10 w) (ten_to_pos (length rest)) in
    rw c.new-number.ensures (omega (arith, c.requires.room, all, most))

pub push_digits-requires-else-kept-whole-2-clause-digits : goal.push_digits-requires-else-kept-whole-2-clause-digits
push_digits-requires-else-kept-whole-2-clause-digits c = AllDigits-take _ c.args.fraction.now c.requires.digits.1

pub push_digits-requires-else-kept-whole-2-clause-room : goal.push_digits-requires-else-kept-whole-2-clause-room
push_digits-requires-else-kept-whole-2-clause-room c =
    let all = taken_past c.args.whole.now c.args.fraction.now c.args.kept (omega arith) in
    rw (c.push_digits-else-kept-whole.ensures, c.new-number.ensures) (omega (arith, c.requires.room, all))

pub returns-else-kept-whole : goal.returns-else-kept-whole
returns-else-kept-whole c =
    let all = taken_past c.args.whole.now c.args.fraction.now c.args.kept (omega arith) in
    rw (c.push_digits-else-kept-whole-2.ensures, c.push_digits-else-kept-whole.ensures, c.new-number.ensures) (omega (arith, all))
