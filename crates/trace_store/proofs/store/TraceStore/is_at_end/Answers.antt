use Rattle.std.proofs.Common.{refl}
use Rattle.trace_store.proofs.GrownLemmas.{has_more, store_grown}
use Rattle.trace_store.proofs.store.TraceStore.is_at_end.Goals as goal

pub invariant_of-self : goal.invariant_of-self
invariant_of-self g c =
    let s = c.args.self.now in
    record { sound = store_grown s.loaded c.is_at_end.new.self s.head s.order.ids s.slots c.is_at_end.ensures.grown s.sound }

pub returns-clause-grown : goal.returns-clause-grown
returns-clause-grown g c = has_more c.args.self.now _ refl refl refl c.is_at_end.ensures.grown
