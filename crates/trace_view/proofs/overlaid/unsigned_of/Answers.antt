use Rattle.std.proofs.Common.{arith}
use Rattle.std.proofs.lemmas.Int.{ints}
use Rattle.trace_view.proofs.SizeLemmas.{unsigned-lt_32}
use Rattle.trace_view.proofs.overlaid.unsigned_of.Goals as goal

pub overflow_cast-result : goal.overflow_cast-result
overflow_cast-result c =
    let small = unsigned-lt_32 c.args.order c.args.bytes.now c.requires c.type_inv.bytes in
    grind (arith, ints, c.read.ensures)
