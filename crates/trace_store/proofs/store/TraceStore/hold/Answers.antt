use Rattle.std.proofs.Common.{refl}
use Rattle.trace_store.proofs.GrownLemmas.{has_more, store_grown}
use Rattle.trace_store.proofs.store.TraceStore.hold.Goals as goal

pub invariant_of-self : goal.invariant_of-self
invariant_of-self g c =
    let s = c.args.self.now in
    record { sound = store_grown s.loaded c.hold.new.held s.head s.order.ids s.slots c.hold.ensures.grown s.sound }

pub returns-clause-grown : goal.returns-clause-grown
returns-clause-grown g c = has_more c.args.self.now _ refl refl refl c.hold.ensures.grown
