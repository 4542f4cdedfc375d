use Rattle.std.proofs.Common.{take}
use Rattle.trace_store.proofs.OutLemmas.{IsFreed}
use Rattle.trace_store.proofs.deleting.free_each.Given as goal

abbrev pub invariant-loop-p : goal.invariant-loop-p
invariant-loop-p g l = IsFreed l.fn.slots l.slots l.order.ids (take l.p-index l.positions)
