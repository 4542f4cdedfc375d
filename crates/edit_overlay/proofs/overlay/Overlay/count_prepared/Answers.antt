use Rattle.std.proofs.Common.{◌∙◌, length, ap, sym}
use Rattle.trace_store.proofs.AheadLemmas.{length-ahead}
use Rattle.edit_overlay.proofs.overlay.Overlay.count_prepared.Goals as goal

pub returns-clause-prepared : goal.returns-clause-prepared
returns-clause-prepared g c =
    c.count.ensures.traces ∙ (sym (length-ahead c.self.inside.laid.store c.self.inside.laid.prepared c.self.invariant.prepared) ∙ ap (λ o. length o.prepared.traces) c.self.view_is)
