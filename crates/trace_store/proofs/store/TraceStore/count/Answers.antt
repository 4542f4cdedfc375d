use Rattle.std.proofs.Common.{◌∙◌, sym}
use Rattle.trace_store.proofs.PayloadLemmas.{payloads-counted}
use Rattle.trace_store.proofs.store.TraceStore.count.Goals as goal

pub returns-clause-payloads : goal.returns-clause-payloads
returns-clause-payloads g c =
    let s = c.args.self.now in
    c.len.ensures.length ∙ sym (payloads-counted s.loaded s.head s.order.ids s.slots s.sound.held)
