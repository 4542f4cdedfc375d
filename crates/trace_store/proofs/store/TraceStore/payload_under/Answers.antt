use Rattle.std.proofs.Common.{sym}
use Rattle.trace_store.proofs.SlotLemmas.{held-missed}
use Rattle.trace_store.proofs.store.TraceStore.payload_under.Goals as goal

pub unreachable-requires : goal.unreachable-requires
unreachable-requires g c =
    let s = c.args.self.now in
    held-missed s.loaded s.head s.slots c.args.id c.requires (sym c.in-None.ensures)
