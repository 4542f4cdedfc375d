use Rattle.std.proofs.Common.{◌≡◌, ◌∙◌, length, sym, ap, option_copied}
use Rattle.std.specs.Prelude.{unwrap_or}
use Rattle.trace_view.specs.Shown.{bytes_of as shown_bytes}
use Rattle.trace_view.specs.Runs.{bytes_with_runs}
use Rattle.trace_store.specs.Lent.{lent_base}
use Rattle.trace_store.proofs.FetchLemmas.{chosen_runs, length-lent, lent-shows, lent_at}
use Rattle.trace_store.proofs.SlotLemmas.{slot-found}
use Rattle.trace_store.proofs.store.TraceStore.shown_with.Goals as goal

module _ (g : _) (c : goal.After-new g) where
  shows : shown_bytes c.new.result ≡ bytes_with_runs (lent_base c.args.self.now.loaded c.in-Some.slot.now.layers.base) (unwrap_or (option_copied c.args.laid) c.in-Some.slot.now.layers.runs)
  shows =
      let runs = chosen_runs c.args.laid c.runs.result c.unwrap_or-runs.result c.in-Some.slot.now.layers.runs c.unwrap_or-runs.ensures c.runs.ensures in
      c.new.ensures.bytes ∙ rw (runs, c.lent.ensures)

pub returns-clause-length : goal.returns-clause-length
returns-clause-length g c =
    let s = c.args.self.now in
    let slot = c.in-Some.slot.now in
    let laid = option_copied c.args.laid in
    let sound = slot-found s.loaded s.head s.order.ids s.slots c.args.p c.id-id.result slot s.sound.held c.id-id.ensures (sym c.in-Some.ensures) in
    let lent = lent_at s c.args.p c.id-id.result slot c.id-id.ensures (sym c.in-Some.ensures) laid c.requires in
    ap length (shows g c) ∙ length-lent s c.args.p c.id-id.result slot c.id-id.ensures (sym c.in-Some.ensures) (unwrap_or laid slot.layers.runs) sound lent

pub returns-clause-bytes : goal.returns-clause-bytes
returns-clause-bytes g c =
    let s = c.args.self.now in
    let slot = c.in-Some.slot.now in
    let laid = option_copied c.args.laid in
    let lent = lent_at s c.args.p c.id-id.result slot c.id-id.ensures (sym c.in-Some.ensures) laid c.requires in
    λ sure. shows g c ∙ lent-shows s c.args.p c.id-id.result slot c.id-id.ensures (sym c.in-Some.ensures) laid lent sure
