use Rattle.std.proofs.Common.{◌-◌, ◌∙◌, ap, arith}
use Rattle.trace_store.specs.Stores.{traces_of}
use Rattle.edit_overlay.proofs.HeldLemmas.{held_again, shown_kept, stands_over}
use Rattle.trace_store.proofs.SlotLemmas.{on_err}
use Rattle.trace_store.proofs.LengthLemmas.{total, total-insert}
use Rattle.edit_overlay.proofs.overlay.Overlay.insert.Goals as goal

pub invariant_of-self-2 : goal.invariant_of-self-2
invariant_of-self-2 g c =
    held_again c.self.inside c.insert.new.self _ c.self.invariant (record { head = c.insert.ensures.head; loaded = c.insert.ensures.loaded })
    (omega (arith, ap total c.in_ok-insert.ensures.ok, total-insert (traces_of c.self.inside.laid.store) (c.args.p - 1) c.args.bytes.items, c.len-added.ensures))

pub returns-in_err-insert-clause-err : goal.returns-in_err-insert-clause-err
returns-in_err-insert-clause-err g c =
    on_err c.from_residual.result _ (
    shown_kept c.self.inside c.insert.new.self (record { head = c.insert.ensures.head; loaded = c.insert.ensures.loaded })
    (record { head = c.insert.ensures.head; standing = stands_over c.self.inside.laid.store c.insert.new.self (record { head = c.insert.ensures.head; loaded = c.insert.ensures.loaded }); bases = c.in_err-insert.ensures.bases; traces = c.in_err-insert.ensures.err; payloads = c.in_err-insert.ensures.payloads; room = c.in_err-insert.ensures.room })
    ∙ c.self.view_is
    )
