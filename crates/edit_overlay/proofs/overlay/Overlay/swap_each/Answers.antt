use Rattle.std.proofs.Common.{ap, arith}
use Rattle.trace_store.specs.Stores.{traces_of}
use Rattle.trace_store.proofs.LengthLemmas.{total, total-swapped}
use Rattle.edit_overlay.proofs.HeldLemmas.{held_again}
use Rattle.edit_overlay.proofs.overlay.Overlay.swap_each.Goals as goal

pub invariant_of-self : goal.invariant_of-self
invariant_of-self g c =
    let s = c.self.inside.laid.store in
    held_again c.self.inside c.swap_each.new.self _ c.self.invariant (record { head = c.swap_each.ensures.head; loaded = c.swap_each.ensures.loaded })
    (omega (arith, ap total c.swap_each.ensures.traces, total-swapped (traces_of s) c.args.pairs.items rw (← c.self.view_is) at c.requires))
