use Rattle.std.proofs.Common.{arith, ◌+◌, ◌-◌}
use Rattle.std.proofs.lemmas.Int.{ints}
use Rattle.num_order.proofs.SizeLemmas.{slice-lt}
use Rattle.num_order.proofs.placed.u32_at.Goals as goal

pub overflow_cast-result : goal.overflow_cast-result
overflow_cast-result c =
    let small = slice-lt c.args.order c.args.at 4 (c.args.at + 4 - c.args.at) c.args.bytes.now (omega arith) c.requires c.type_inv.bytes in
    grind (arith, ints, c.read.ensures)
