use Rattle.std.proofs.Common.{◌∙◌}
use Rattle.edit_overlay.proofs.HeldLemmas.{shown_kept, stands_over}
use Rattle.trace_store.proofs.SlotLemmas.{on_err}
use Rattle.edit_overlay.proofs.overlay.Overlay.prepare_move.Goals as goal

pub returns-in_err-prepared-clause-err : goal.returns-in_err-prepared-clause-err
returns-in_err-prepared-clause-err g c =
    on_err c.from_residual.result _ (
    shown_kept c.self.inside c.prepare_move.new.self (record { head = c.prepare_move.ensures.head; loaded = c.prepare_move.ensures.loaded })
    (record { head = c.prepare_move.ensures.head; standing = stands_over c.self.inside.laid.store c.prepare_move.new.self (record { head = c.prepare_move.ensures.head; loaded = c.prepare_move.ensures.loaded }); bases = c.prepare_move.ensures.bases; traces = c.prepare_move.ensures.traces; payloads = c.prepare_move.ensures.payloads; room = c.prepare_move.ensures.room })
    ∙ c.self.view_is
    )
