use Rattle.std.proofs.Common.{◌≡◌, ◌∙◌, ◌+◌, ◌-◌, ◌*◌, ◌^◌, ◌<◌, ◌≤◌, ◌++◌, length, take, drop, nat_cmp, nat_lt, refl, ap, sym, arith, rules, lt_of_le_of_lt}
use Rattle.fast_float.specs.Text.{tens_up, tens_down}
use Rattle.float_text.specs.Sides.{with_rest}
use Rattle.float_text.proofs.MiddleLemmas.{power_fits, some_digits, up_small, twos_room, middle_room, first_room, kept_up_to, stands}
use Rattle.fast_float.proofs.ExactLemmas.{ten_to_pos}
use Rattle.float_text.proofs.middle.compare_with_middle.Goals as goal

pub tens-up-requires : goal.tens-up-requires
tens-up-requires c =
    let w = c.whole-whole in
    let f = c.fraction-fraction in
    power_fits c.args.decimal.now w.result.now f.result.now w.ensures.value f.ensures.value w.ensures.digits f.ensures.digits (search rules) (search rules) c.requires.above c.requires.below

pub digits_up_to-digits-requires-clause-room : goal.digits_up_to-digits-requires-clause-room
digits_up_to-digits-requires-clause-room c =
    let w = c.whole-whole in
    let f = c.fraction-fraction in
    let p = c.args.decimal.now in
    let zeros = tens_up p + 281 - tens_down p in
    let room = first_room p w.result.now f.result.now w.ensures.value f.ensures.value w.ensures.digits f.ensures.digits c.saturating_sub-kept.result zeros (omega arith) refl c.requires.below in
    lt_of_le_of_lt (kept_up_to _ zeros) room

pub overflow_cast-saturating_sub : goal.overflow_cast-saturating_sub
overflow_cast-saturating_sub c =
    let p = c.args.decimal.now in
    let most = up_small _ (tens_up p) (tens_down p) (some_digits _ _ _ (ten_to_pos (tens_down p)) c.requires.above) c.requires.below in
    omega (arith, most)

pub multiply-requires-clause-room : goal.multiply-requires-clause-room
multiply-requires-clause-room c =
    let w = c.whole-whole in
    let f = c.fraction-fraction in
    let p = c.args.decimal.now in
    rw c.digits_up_to-digits.ensures (first_room p w.result.now f.result.now w.ensures.value f.ensures.value w.ensures.digits f.ensures.digits c.saturating_sub-kept.result c.saturating_sub-2.result (omega arith) (omega arith) c.requires.below)

pub multiply-requires-2-clause-room : goal.multiply-requires-2-clause-room
multiply-requires-2-clause-room c = rw c.new-middle.ensures (middle_room _ (twos_room c.args.odd c.args.twos c.requires.odd c.requires.twos)).0

pub multiply-requires-3-clause-room : goal.multiply-requires-3-clause-room
multiply-requires-3-clause-room c = rw (c.multiply-2.ensures, c.new-middle.ensures) (middle_room _ (twos_room c.args.odd c.args.twos c.requires.odd c.requires.twos)).1

pub returns : goal.returns
returns c =
    let w = c.whole-whole in
    let f = c.fraction-fraction in
    let p = c.args.decimal.now in
    rw (c.with_rest.ensures, c.compare.ensures, c.has_more.ensures, c.multiply.ensures, c.digits_up_to-digits.ensures, c.multiply-3.ensures, c.multiply-2.ensures, c.new-middle.ensures)
    (stands p w.result.now f.result.now w.ensures.value f.ensures.value w.ensures.digits f.ensures.digits c.saturating_sub-kept.result c.saturating_sub-2.result (omega arith) (omega arith) (c.args.odd * 2 ^ c.args.twos))
