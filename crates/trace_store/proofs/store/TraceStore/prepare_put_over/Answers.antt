use Rattle.std.proofs.Common.{◌-◌}
use Rattle.trace_store.proofs.OverLemmas.{ready_over, then_over}
use Rattle.trace_store.proofs.store.TraceStore.prepare_put_over.Goals as goal

pub returns-clause-ready : goal.returns-clause-ready
returns-clause-ready g c =
    ready_over c.args.self.now (c.args.a - 1) c.args.places.now c.args.bytes.now c.in_ok-lists.lists c.requires.last c.in_ok-lists.ensures.runs c.requires.whole c.requires.inside

pub returns-clause-traces : goal.returns-clause-traces
returns-clause-traces g c =
    then_over c.args.self.now (c.args.a - 1) c.args.places.now c.args.bytes.now c.in_ok-lists.lists c.requires.last c.in_ok-lists.ensures.runs
