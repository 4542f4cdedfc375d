use Rattle.std.proofs.Common.{◌+◌, ◌*◌, ◌/◌, ◌%◌, ◌^◌, arith}
use Rattle.exact_amounts.proofs.RoomLemmas.{whole_room, size_room, twos_room}
use Rattle.exact_amounts.proofs.whole_order.compare_whole.Goals as goal

pub multiply_by_twos-requires : goal.multiply_by_twos-requires
multiply_by_twos-requires c = rw c.new-left.ensures (whole_room (c.args.size / 2 ^ 64 * 2 ^ 64) (omega arith)).0

pub multiply_add-requires : goal.multiply_add-requires
multiply_add-requires c = rw (c.multiply_by_twos.ensures, c.new-left.ensures) (whole_room (c.args.size / 2 ^ 64 * 2 ^ 64 * 1 + c.args.size % 2 ^ 64) (omega arith)).0

pub multiply_by_twos-requires-2 : goal.multiply_by_twos-requires-2
multiply_by_twos-requires-2 c = rw (c.multiply_add.ensures, c.multiply_by_twos.ensures, c.new-left.ensures) (whole_room (c.args.size / 2 ^ 64 * 2 ^ 64 * 1 + c.args.size % 2 ^ 64) (omega arith)).1

pub multiply_by_twos-requires-3 : goal.multiply_by_twos-requires-3
multiply_by_twos-requires-3 c = rw c.new-right.ensures (size_room _ (twos_room c.args.digits c.args.twos c.requires.digits c.requires.twos)).0
