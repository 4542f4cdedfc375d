use Rattle.std.proofs.Common.{◌∙◌, sym}
use Rattle.trace_store.proofs.FetchLemmas.{length-at}
use Rattle.trace_store.proofs.store.TraceStore.shown.Goals as goal

pub returns-clause-length : goal.returns-clause-length
returns-clause-length g c =
    c.shown_with.ensures.length ∙ sym (length-at c.args.self.now c.args.p c.requires.first c.requires.last)
