use Rattle.std.proofs.Common.{◌∙◌, ◌-◌, take, ap}
use Rattle.trace_store.specs.Windows.{WindowBytes}
use Rattle.trace_store.proofs.WindowLemmas.{view_moved}
use Rattle.trace_store.proofs.window.Window.close_up.Goals as goal

pub returns-clause-bytes : goal.returns-clause-bytes
returns-clause-bytes c =
    let w = c.self.inside in
    ap (take (w.end - w.start)) c.copy_within.ensures.items ∙ view_moved w.block.items w.start w.end c.self.invariant.order c.self.invariant.inside ∙ ap (λ (v : WindowBytes). v.bytes) c.self.view_is
