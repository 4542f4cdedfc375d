use Rattle.std.proofs.Common.{arith}
use Rattle.trace_store.proofs.AheadLemmas.{ready_one}
use Rattle.trace_store.proofs.store.TraceStore.prepare_put.Goals as goal

pub returns-clause-ready : goal.returns-clause-ready
returns-clause-ready g c =
    ready_one c.args.self.now _ c.args.at c.args.bytes.now c.in_ok-runs.runs (omega (arith, c.requires.first, c.requires.last)) c.requires.inside c.requires.whole c.in_ok-runs.ensures.runs
