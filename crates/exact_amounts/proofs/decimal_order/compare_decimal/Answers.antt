use Rattle.std.proofs.Common.{◌+◌, ◌-◌, ◌*◌, ◌^◌, refl, arith, rules, lt_of_le_of_lt}
use Rattle.fast_float.specs.Text.{tens_up, tens_down}
use Rattle.float_text.proofs.MiddleLemmas.{kept_up_to}
use Rattle.exact_amounts.proofs.RoomLemmas.{power_fits, some_digits_of, up_small, twos_room, size_room, first_room, stands}
use Rattle.fast_float.proofs.ExactLemmas.{ten_to_pos}
use Rattle.exact_amounts.proofs.decimal_order.compare_decimal.Goals as goal

pub tens-up-requires : goal.tens-up-requires
tens-up-requires c =
    let w = c.whole-whole in
    let f = c.fraction-fraction in
    power_fits c.args.decimal.now w.result.now f.result.now w.ensures.value f.ensures.value w.ensures.digits f.ensures.digits (search rules) (search rules) c.requires.above c.requires.below

pub digits_up_to-left-requires-clause-room : goal.digits_up_to-left-requires-clause-room
digits_up_to-left-requires-clause-room c =
    let w = c.whole-whole in
    let f = c.fraction-fraction in
    let p = c.args.decimal.now in
    let zeros = tens_up p + 1074 - tens_down p in
    let room = first_room p w.result.now f.result.now w.ensures.value f.ensures.value w.ensures.digits f.ensures.digits c.saturating_sub-kept.result zeros (omega arith) refl c.requires.below in
    lt_of_le_of_lt (kept_up_to _ zeros) room

pub overflow_cast-saturating_sub : goal.overflow_cast-saturating_sub
overflow_cast-saturating_sub c =
    let p = c.args.decimal.now in
    let most = up_small _ (tens_up p) (tens_down p) (some_digits_of _ _ _ (ten_to_pos (tens_down p)) c.requires.above) c.requires.below in
    omega (arith, most)

pub multiply_by_tens-requires : goal.multiply_by_tens-requires
multiply_by_tens-requires c =
    let w = c.whole-whole in
    let f = c.fraction-fraction in
    let p = c.args.decimal.now in
    rw c.digits_up_to-left.ensures (first_room p w.result.now f.result.now w.ensures.value f.ensures.value w.ensures.digits f.ensures.digits c.saturating_sub-kept.result c.saturating_sub-2.result (omega arith) (omega arith) c.requires.below)

pub multiply_by_twos-requires : goal.multiply_by_twos-requires
multiply_by_twos-requires c = rw c.new-right.ensures (size_room _ (twos_room c.args.digits c.args.twos c.requires.digits c.requires.twos)).0

pub multiply_by_fives-requires : goal.multiply_by_fives-requires
multiply_by_fives-requires c = rw (c.multiply_by_twos.ensures, c.new-right.ensures) (size_room _ (twos_room c.args.digits c.args.twos c.requires.digits c.requires.twos)).1

pub returns : goal.returns
returns c =
    let w = c.whole-whole in
    let f = c.fraction-fraction in
    let p = c.args.decimal.now in
    rw (c.with_rest.ensures, c.compare.ensures, c.has_more.ensures, c.multiply_by_tens.ensures, c.digits_up_to-left.ensures, c.multiply_by_fives.ensures, c.multiply_by_twos.ensures, c.new-right.ensures)
    (stands p w.result.now f.result.now w.ensures.value f.ensures.value w.ensures.digits f.ensures.digits c.saturating_sub-kept.result c.saturating_sub-2.result (omega arith) (omega arith) (c.args.digits * 2 ^ c.args.twos))
